-- An actor that emits a cell goes on to the actor of the facts with that cell.
use Rattle.std.proofs.Common.{◌≡◌, ◌≢◌, ℕ, ◌+◌, ◌<◌, ◌≤◌, List, ◌∷◌, Option, None, Some, Ok, refl, sym, subst, ap, ◌∙◌, arith}
use Rattle.std.specs.Prelude.{max}
use Rattle.std.proofs.lemmas.Bool.Decides.{nat_tests}
use Rattle.abt_rate.specs.Rate.{IsRate, spacing_of}
use Rattle.abt_cell.specs.Channel.{Channel}
use Rattle.abt_rate.specs.Limits.{emit_max}
use Rattle.abt_source.specs.SourceView.{SourceView}
use Rattle.abt_source.specs.Calls.{emission_at, result_of_emission}
use Rattle.abt_source.specs.SourceFacts.{StandsFor, view_of}
use Rattle.abt_facts.specs.declared.fact.Fact.{Fact}
use Rattle.abt_facts.specs.declared.fact.Fact.TheVariants.{Emitted as FactEmitted}
use Rattle.abt_facts.specs.Source.{SourceState, Down, Idle, Asking, state_of, rate_of, clock_of, next_of, emission_of, stored_of}
use Rattle.abt_facts.specs.Cells.{emitted_of}
use Rattle.abt_model.specs.declared.command.SourceCommand.TheVariants.{Emit}
use Rattle.abt_model.specs.declared.outcome.Outcome.{Outcome}
use Rattle.abt_model.specs.declared.outcome.Outcome.TheVariants.{Emitted}
use Rattle.abt_model.specs.Answers.{if_up, emit_answer}
use Rattle.abt_model.proofs.Spacings.{spacing_bounds}
use Rattle.abt_actor.specs.Commands.{command_answer}
use Rattle.abt_actor.specs.Actor.{ActorView, actor_of, IsSound}

-- what holds when a cell leaves
pub record Leaves (next rate now after : ℕ) : Type 0 where
  pub late : now ≤ emit_max
  pub some : 0 < rate
  pub due : next ≤ now
  pub later : after ≡ now + spacing_of rate

none_leaves : (next rate now later : ℕ) → emission_at None next rate now ≡ Ok later → Leaves next rate now later
none_leaves next rate now later h = record {
  late = grind (arith, nat_tests);
  some = grind (arith, nat_tests);
  due = grind (arith, nat_tests);
  later = grind (arith, nat_tests);
}

some_leaves : (last next rate now later : ℕ) → emission_at (Some last) next rate now ≡ Ok later → Leaves next rate now later
some_leaves last next rate now later h = record {
  late = grind (arith, nat_tests);
  some = grind (arith, nat_tests);
  due = grind (arith, nat_tests);
  later = grind (arith, nat_tests);
}

pub leaves : (emitted : Option ℕ) (next rate now later : ℕ) → emission_at emitted next rate now ≡ Ok later → Leaves next rate now later
leaves None next rate now later h = none_leaves next rate now later h
leaves (Some last) next rate now later h = some_leaves last next rate now later h

-- a source that is up answers
pub up_answers : (state : SourceState) (outcome : Outcome) → state ≢ Down → if_up state outcome ≡ outcome
up_answers Down outcome up = absurd (up refl)
up_answers Idle outcome up = refl
up_answers (Asking seq) outcome up = refl

answered : (facts : List Fact) (now later : ℕ) → clock_of facts ≤ now → Leaves (next_of facts) (rate_of facts) now later → emit_answer facts now ≡ Emitted (emitted_of facts) later
answered facts now later onward l =
    let late = l.late in let some = l.some in let due = l.due in let is = l.later in
    grind (arith, nat_tests)

-- what an actor answers and becomes
pub emission_answered :
    (vc : Channel) (facts : List Fact) (actor : ActorView) (now later : ℕ) → actor ≡ actor_of vc facts → actor.state ≢ Down →
    actor.clock ≤ now → result_of_emission actor.source now ≡ Ok later →
    Emitted actor.cells later ≡ command_answer vc facts (Emit now)
emission_answered vc facts actor now later is up onward left =
    let gone : result_of_emission (view_of vc facts) now ≡ Ok later = subst (λ a. result_of_emission a.source now ≡ Ok later) is left in
    let clock : clock_of facts ≤ now = subst (λ a. a.clock ≤ now) is onward in
    let running : state_of facts ≢ Down = subst (λ a. a.state ≢ Down) is up in
    let l = leaves (emission_of facts) (next_of facts) (rate_of facts) now later gone in
    ap (λ a. Emitted a.cells later) is ∙ sym (up_answers (state_of facts) (emit_answer facts now) running ∙ answered facts now later clock l)

-- the actor after a cell is sound
pub sound_emission :
    (actor after : ActorView) (now later : ℕ) → IsSound actor → IsRate actor.source.rate → actor.clock ≤ now → actor.state ≢ Down →
    result_of_emission actor.source now ≡ Ok later →
    after ≡ record {
      source = record actor.source { gap = spacing_of actor.source.rate; next = later; emitted = Some now };
      state = actor.state;
      kept = actor.kept;
      cells = actor.cells + 1;
      clock = now;
    } → IsSound after
sound_emission actor after now later sound rate onward up left is =
    let l = leaves _ _ _ now later left in
    let bounds = spacing_bounds actor.source.rate rate l.some in
    let due = l.due in
    let same = l.later in
    let low = bounds.0 in
    let apart = sound.apart in
    let since = sound.due up in
    rw is (record {
      apart = omega arith;
      due = λ still_up. omega arith;
      emitted = omega arith;
      still = λ down. absurd (up down);
    })

-- what the source of an actor becomes
pub emission_after :
    (vc : Channel) (facts : List Fact) (actor : ActorView) (new : SourceView) (state : SourceState) (now later : ℕ) → actor ≡ actor_of vc facts →
    actor.clock ≤ now → new.vc ≡ actor.source.vc → StandsFor (FactEmitted actor.cells now actor.source.rate ∷ facts) state new →
    record { source = new; state = state; kept = actor.kept; cells = actor.cells + 1; clock = now }
    ≡ actor_of vc (FactEmitted actor.cells now actor.source.rate ∷ facts)
emission_after vc facts actor new state now later is onward channel stands =
    let cells : actor.cells ≡ emitted_of facts = ap (λ a. a.cells) is in
    let kept : actor.kept ≡ stored_of facts = ap (λ a. a.kept) is in
    let clock : actor.clock ≡ clock_of facts = ap (λ a. a.clock) is in
    let same : new.vc ≡ vc = channel ∙ ap (λ a. a.source.vc) is in
    let facts' = FactEmitted actor.cells now actor.source.rate ∷ facts in
    let source : new ≡ view_of vc facts' = stands.view_is ∙ ap (λ v. view_of v facts') same in
    let going : state ≡ state_of facts' = stands.state_is in
    let latest : now ≡ max now (clock_of facts) = omega arith in
    let more : actor.cells + 1 ≡ emitted_of facts + 1 = ap (λ n. n + 1) cells in
    cc
