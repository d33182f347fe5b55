-- Cells that leave, leave in time.
use Rattle.std.proofs.Common.{◌≡◌, ℕ, ◌≤◌, ◌^◌, Bool, true, false, cond, List, arith, nat_lt, refl, Some}
use Rattle.std.proofs.lemmas.Bool.Decides.{nat_tests}
use Rattle.abt_shaper.specs.declared.fault.ShapeFault.{ShapeFault}
use Rattle.abt_facts.specs.declared.fact.Fact.{Fact}
use Rattle.abt_facts.specs.Source.{SourceState, Down, Idle, Asking, state_of, clock_of}
use Rattle.abt_model.specs.declared.outcome.Cause.{Cause}
use Rattle.abt_model.specs.declared.outcome.Outcome.{Outcome}
use Rattle.abt_model.specs.declared.outcome.Outcome.TheVariants.{EmitRefused, NotEnabled}
use Rattle.abt_rate.specs.Limits.{emit_max}
use Rattle.abt_model.specs.Answers.{if_up, emit_answer}
use Rattle.abt_links.specs.CommandEffects.{cell_in}

not_late : (behind late : Bool) (cause : Cause) (fault : ShapeFault) (rest : Outcome) (cell : ℕ)
    → cell_in (cond behind (NotEnabled cause) (cond late (EmitRefused fault) rest)) ≡ Some cell → late ≡ false
not_late true late cause fault rest cell is = absurd (cc)
not_late false true cause fault rest cell is = absurd (cc)
not_late false false cause fault rest cell is = refl

from_test : (now : ℕ) → nat_lt emit_max now ≡ false → now ≤ 2 ^ 61
from_test now test = grind (arith, nat_tests)

emit_in_time : (facts : List Fact) (now cell : ℕ) → cell_in (emit_answer facts now) ≡ Some cell → now ≤ 2 ^ 61
emit_in_time facts now cell is = from_test now (not_late (nat_lt now (clock_of facts)) (nat_lt emit_max now) _ _ _ cell is)

up_in_time : (state : SourceState) (facts : List Fact) (now cell : ℕ) → cell_in (if_up state (emit_answer facts now)) ≡ Some cell → now ≤ 2 ^ 61
up_in_time Down facts now cell is = absurd (cc)
up_in_time Idle facts now cell is = emit_in_time facts now cell is
up_in_time (Asking seq) facts now cell is = emit_in_time facts now cell is

pub emitted_in_time : (facts : List Fact) (now cell : ℕ) → cell_in (if_up (state_of facts) (emit_answer facts now)) ≡ Some cell → now ≤ 2 ^ 61
emitted_in_time facts now cell is = up_in_time (state_of facts) facts now cell is
