-- Servers that keep a journal.
use Rattle.std.specs.Prelude.{◌≡◌, []}
use Rattle.abt_lines.specs.Runs.{Ends}

-- nothing is said behind the last line
abbrev pub EndsSilent : {A : Type 0} → Ends A
EndsSilent last number said = said ≡ []
