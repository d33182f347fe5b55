-- None of the files so far has the name.
use Rattle.std.proofs.Common.{◌≡◌, take}
use Rattle.std.specs.Prelude.{All, string_bytes}
use Rattle.abt_cli.proofs.lost.is_one_of.Given as goal

abbrev pub invariant-loop-file : goal.invariant-loop-file
invariant-loop-file l = All (λ file. ¬ (string_bytes file ≡ l.fn.name)) (take l.file-index l.fn.files)
