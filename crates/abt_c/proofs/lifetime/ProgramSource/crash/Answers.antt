use Rattle.std.proofs.Common.{◌≡◌, inl, inr, refl, None, subst, arith}
use Rattle.std.proofs.lemmas.Bool.{cases_eq}
use Rattle.abt_lifetime.specs.declared.call.SourceCall.TheVariants.{Crash}
use Rattle.abt_lifetime.specs.Lifetime.{StoredView}
use Rattle.abt_lifetime.specs.Numbers.{IsCarriedOut}
use Rattle.abt_lifetime.specs.Sound.{IsSound}
use Rattle.abt_c.specs.Lifetimes.{stored_in}
use Rattle.abt_c.specs.Sources.{IsSource, down_phase}
use Rattle.abt_c.proofs.Lives.{carried_crash, carried_down, same_state}
use Rattle.abt_c.proofs.lifetime.ProgramSource.crash.Goals as goal

pub invariant_of-self : goal.invariant_of-self
invariant_of-self g c =
    let s = c.self.inside.state in
    let was = c.self.inside.was_started in
    let held = g.K.SeqStore.content c.self.inside.store in
    let inv = c.self.invariant in
    let step = c.abt_raw_source_crash in
    let t = step.new.state in
    let all : IsSource t × (t.is_writing ≡ 0) × IsSound (stored_in t was held) × IsCarriedOut (stored_in s was held) Crash None (stored_in t was held) = elim (cases_eq s.phase down_phase) [
      | inl down ↦ (
          let is_down = step.ensures.down.1 (inv.0, down) in
          let same = step.ensures.same (λ done. absurd (omega arith)) in
          let state = same_state s t same (inv.0, inv.1) in
          let done = carried_down s t was held held Crash tt down same refl inv.2 in
          (state.0, state.1, done.0, done.1))
      | inr up ↦ (
          let is_done = step.ensures.done.1 (inv.0, up) in
          let state = step.ensures.state is_done in
          let done = carried_crash s t was held up state.1 (step.ensures.value is_done) inv.2 in
          (state.0, state.2, done.0, done.1))
    ] in
    (all.0, all.1, all.2)

pub returns : goal.returns
returns g c =
    let s = c.self.inside.state in
    let was = c.self.inside.was_started in
    let held = g.K.SeqStore.content c.self.inside.store in
    let inv = c.self.invariant in
    let step = c.abt_raw_source_crash in
    let t = step.new.state in
    let all : IsSource t × (t.is_writing ≡ 0) × IsSound (stored_in t was held) × IsCarriedOut (stored_in s was held) Crash None (stored_in t was held) = elim (cases_eq s.phase down_phase) [
      | inl down ↦ (
          let is_down = step.ensures.down.1 (inv.0, down) in
          let same = step.ensures.same (λ done. absurd (omega arith)) in
          let state = same_state s t same (inv.0, inv.1) in
          let done = carried_down s t was held held Crash tt down same refl inv.2 in
          (state.0, state.1, done.0, done.1))
      | inr up ↦ (
          let is_done = step.ensures.done.1 (inv.0, up) in
          let state = step.ensures.state is_done in
          let done = carried_crash s t was held up state.1 (step.ensures.value is_done) inv.2 in
          (state.0, state.2, done.0, done.1))
    ] in
    subst (λ (v : StoredView). IsCarriedOut v Crash None (stored_in t was held)) c.self.view_is all.3
