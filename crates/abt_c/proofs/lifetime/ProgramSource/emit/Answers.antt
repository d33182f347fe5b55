use Rattle.std.proofs.Common.{◌≡◌, inl, inr, refl, None, subst}
use Rattle.std.proofs.lemmas.Bool.{cases_eq}
use Rattle.abt_lifetime.specs.declared.call.SourceCall.TheVariants.{Emit}
use Rattle.abt_lifetime.specs.Lifetime.{StoredView}
use Rattle.abt_lifetime.specs.Numbers.{IsCarriedOut}
use Rattle.abt_lifetime.specs.Sound.{IsSound}
use Rattle.abt_source.specs.Calls.{result_of_emission}
use Rattle.abt_c.specs.Lifetimes.{stored_in}
use Rattle.abt_c.specs.Sources.{IsSource, IsReady, source_in, down_phase}
use Rattle.abt_c.proofs.Lives.{carried_down, carried_emit, same_state}
use Rattle.abt_c.proofs.lifetime.ProgramSource.emit.Goals as goal

pub invariant_of-self : goal.invariant_of-self
invariant_of-self g c =
    let s = c.self.inside.state in
    let was = c.self.inside.was_started in
    let held = g.K.SeqStore.content c.self.inside.store in
    let inv = c.self.invariant in
    let t = c.abt_raw_source_emit.new.state in
    let all : IsSource t × (t.is_writing ≡ 0) × IsSound (stored_in t was held) × IsCarriedOut (stored_in s was held) (Emit c.args.now) None (stored_in t was held) = elim (cases_eq s.phase down_phase) [
      | inl down ↦ (
          let same = (c.abt_raw_source_emit.ensures.same (λ ready. ready.1 down)).0 in
          let state = same_state s t same (inv.0, inv.1) in
          let done = carried_down s t was held held (Emit c.args.now) tt down same refl inv.2 in
          (state.0, state.1, done.0, done.1))
      | inr up ↦ (
          let ready : IsReady s = (inv.0, up, inv.1) in
          carried_emit s t was held c.args.now _ _ (result_of_emission (source_in s) c.args.now) refl ready inv.2 (c.abt_raw_source_emit.ensures.gives ready))
    ] in
    (all.0, all.1, all.2)

pub returns : goal.returns
returns g c =
    let s = c.self.inside.state in
    let was = c.self.inside.was_started in
    let held = g.K.SeqStore.content c.self.inside.store in
    let inv = c.self.invariant in
    let t = c.abt_raw_source_emit.new.state in
    let all : IsSource t × (t.is_writing ≡ 0) × IsSound (stored_in t was held) × IsCarriedOut (stored_in s was held) (Emit c.args.now) None (stored_in t was held) = elim (cases_eq s.phase down_phase) [
      | inl down ↦ (
          let same = (c.abt_raw_source_emit.ensures.same (λ ready. ready.1 down)).0 in
          let state = same_state s t same (inv.0, inv.1) in
          let done = carried_down s t was held held (Emit c.args.now) tt down same refl inv.2 in
          (state.0, state.1, done.0, done.1))
      | inr up ↦ (
          let ready : IsReady s = (inv.0, up, inv.1) in
          carried_emit s t was held c.args.now _ _ (result_of_emission (source_in s) c.args.now) refl ready inv.2 (c.abt_raw_source_emit.ensures.gives ready))
    ] in
    subst (λ (v : StoredView). IsCarriedOut v (Emit c.args.now) None (stored_in t was held)) c.self.view_is all.3
