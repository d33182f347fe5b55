-- Where nothing went out.
use Rattle.std.proofs.Common.{List, ℕ, [], Option, refl}
use Rattle.std.proofs.KnownBytes.{Appends-nil}
use Rattle.std.specs.Prelude.{Some, None}
use Rattle.abt_lines.specs.Served.{IsServedPart}

pub unserved : (answers_to : List ℕ → List ℕ) (left out : Option (List ℕ)) → IsServedPart answers_to left out out
unserved answers_to None out = tt
unserved answers_to (Some source) out = record {
  printed = [];
  written = Appends-nil out;
  front = record { rest = answers_to source; is = refl };
}
