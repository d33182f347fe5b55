-- A live source that emits a cell stays in order.
use Rattle.std.proofs.Common.{◌≡◌, ◌≢◌, ℕ, ◌+◌, ◌<◌, ◌≤◌, Option, None, Some, Ok, arith}
use Rattle.std.proofs.lemmas.Bool.Decides.{nat_tests}
use Rattle.abt_rate.specs.Rate.{IsRate, spacing_of}
use Rattle.abt_rate.specs.Limits.{emit_max}
use Rattle.abt_source.specs.Calls.{emission_at, result_of_emission}
use Rattle.abt_facts.specs.Source.{Down}
use Rattle.abt_model.proofs.Spacings.{spacing_bounds}
use Rattle.abt_actor.specs.Actor.{ActorView, IsSound}

-- what holds when a cell leaves
pub record Leaves (next rate now after : ℕ) : Type 0 where
  pub late : now ≤ emit_max
  pub some : 0 < rate
  pub due : next ≤ now
  pub later : after ≡ now + spacing_of rate

none_leaves : (next rate now later : ℕ) → emission_at None next rate now ≡ Ok later → Leaves next rate now later
none_leaves next rate now later h = record {
  late = grind (arith, nat_tests);
  some = grind (arith, nat_tests);
  due = grind (arith, nat_tests);
  later = grind (arith, nat_tests);
}

some_leaves : (last next rate now later : ℕ) → emission_at (Some last) next rate now ≡ Ok later → Leaves next rate now later
some_leaves last next rate now later h = record {
  late = grind (arith, nat_tests);
  some = grind (arith, nat_tests);
  due = grind (arith, nat_tests);
  later = grind (arith, nat_tests);
}

pub leaves : (emitted : Option ℕ) (next rate now later : ℕ) → emission_at emitted next rate now ≡ Ok later → Leaves next rate now later
leaves None next rate now later h = none_leaves next rate now later h
leaves (Some last) next rate now later h = some_leaves last next rate now later h

-- the actor after a cell is sound
pub sound_emission :
    (actor after : ActorView) (now later : ℕ) → IsSound actor → IsRate actor.source.rate → actor.clock ≤ now → actor.state ≢ Down →
    result_of_emission actor.source now ≡ Ok later →
    after ≡ record {
      source = record actor.source { gap = spacing_of actor.source.rate; next = later; emitted = Some now };
      state = actor.state;
      kept = actor.kept;
      cells = actor.cells + 1;
      clock = now;
    } → IsSound after
sound_emission actor after now later sound rate onward up left is =
    let l = leaves _ _ _ now later left in
    let bounds = spacing_bounds actor.source.rate rate l.some in
    let due = l.due in
    let same = l.later in
    let low = bounds.0 in
    let apart = sound.apart in
    let since = sound.due up in
    rw is (record {
      apart = omega arith;
      due = λ still_up. omega arith;
      emitted = omega arith;
      still = λ down. absurd (up down);
    })
