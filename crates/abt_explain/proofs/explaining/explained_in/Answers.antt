-- The scenario that is read is that of the text.
use Rattle.std.proofs.Common.{List, ℕ, subst, string_bytes}
use Rattle.abt_explain.specs.Explained.{IsWrittenBehind}
use Rattle.abt_explain.proofs.explaining.explained_in.Goals as goal

pub returns-in-Ok-written_in-clause-ok : goal.returns-in-Ok-written_in-clause-ok
returns-in-Ok-written_in-clause-ok c = record {
  placed = c.in_ok-placed.placed;
  read = c.in_ok-placed.ensures.ok;
  explained = subst (λ (source : List ℕ). IsWrittenBehind c.in_ok-placed.placed source (string_bytes c.in-Ok-written_in.text)) c.in-Ok.ensures.cases.0
      c.in-Ok-written_in.ensures;
}
