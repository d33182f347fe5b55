use Rattle.std.proofs.Common.{◌≡◌, inl, inr, refl, ap, None, subst, ◌∙◌}
use Rattle.std.proofs.lemmas.Bool.{cases_eq}
use Rattle.abt_lifetime.specs.declared.call.SourceCall.TheVariants.{Answer}
use Rattle.abt_lifetime.specs.Lifetime.{StoredView}
use Rattle.abt_lifetime.specs.Numbers.{IsCarriedOut}
use Rattle.abt_lifetime.specs.Sound.{IsSound}
use Rattle.abt_source.specs.Calls.{result_of_answer}
use Rattle.abt_c.specs.Lifetimes.{stored_in}
use Rattle.abt_c.specs.Sources.{IsSource, IsReady, source_in, down_phase, heard_in}
use Rattle.abt_c.proofs.Lives.{carried_down, carried_answer, same_state}
use Rattle.abt_c.proofs.lifetime.ProgramSource.hear.Goals as goal

pub invariant_of-self : goal.invariant_of-self
invariant_of-self g c =
    let s = c.self.inside.state in
    let was = c.self.inside.was_started in
    let held = g.K.SeqStore.content c.self.inside.store in
    let inv = c.self.invariant in
    let step = c.abt_raw_source_answer in
    let t = step.new.state in
    let rm = c.filled_in.result in
    let message = c.filled_in.ensures.message in
    let reply = c.filled_in.ensures.value in
    let all : IsSource t × (t.is_writing ≡ 0) × IsSound (stored_in t was held) × IsCarriedOut (stored_in s was held) (Answer c.args.answer) None (stored_in t was held) = elim (cases_eq s.phase down_phase) [
      | inl down ↦ (
          let same = step.ensures.same (inr (step.ensures.down inv.0 message down)) in
          let state = same_state s t same (inv.0, inv.1) in
          let done = carried_down s t was held held (Answer c.args.answer) tt down same refl inv.2 in
          (state.0, state.1, done.0, done.1))
      | inr up ↦ (
          let ready : IsReady s = (inv.0, up, inv.1) in
          let after = step.ensures.ready ready in
          let is : source_in t ≡ heard_in (result_of_answer (source_in s) c.args.answer) = (step.ensures.value ready message).1 ∙ ap (λ r. heard_in (result_of_answer (source_in s) r)) reply in
          let done = carried_answer s t was held c.args.answer up after.1 is inv.2 in
          (after.0, after.2, done.0, done.1))
    ] in
    (all.0, all.1, all.2)

pub returns : goal.returns
returns g c =
    let s = c.self.inside.state in
    let was = c.self.inside.was_started in
    let held = g.K.SeqStore.content c.self.inside.store in
    let inv = c.self.invariant in
    let step = c.abt_raw_source_answer in
    let t = step.new.state in
    let rm = c.filled_in.result in
    let message = c.filled_in.ensures.message in
    let reply = c.filled_in.ensures.value in
    let all : IsSource t × (t.is_writing ≡ 0) × IsSound (stored_in t was held) × IsCarriedOut (stored_in s was held) (Answer c.args.answer) None (stored_in t was held) = elim (cases_eq s.phase down_phase) [
      | inl down ↦ (
          let same = step.ensures.same (inr (step.ensures.down inv.0 message down)) in
          let state = same_state s t same (inv.0, inv.1) in
          let done = carried_down s t was held held (Answer c.args.answer) tt down same refl inv.2 in
          (state.0, state.1, done.0, done.1))
      | inr up ↦ (
          let ready : IsReady s = (inv.0, up, inv.1) in
          let after = step.ensures.ready ready in
          let is : source_in t ≡ heard_in (result_of_answer (source_in s) c.args.answer) = (step.ensures.value ready message).1 ∙ ap (λ r. heard_in (result_of_answer (source_in s) r)) reply in
          let done = carried_answer s t was held c.args.answer up after.1 is inv.2 in
          (after.0, after.2, done.0, done.1))
    ] in
    subst (λ (v : StoredView). IsCarriedOut v (Answer c.args.answer) None (stored_in t was held)) c.self.view_is all.3
