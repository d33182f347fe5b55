use Rattle.std.proofs.Common.{◌≡◌, ◌∷◌, ◌∙◌, refl, ap, sym, subst, reverse}
use Rattle.abt_weave.specs.declared.look.Look.TheVariants.{Placed}
use Rattle.abt_weave.specs.Actors.{actor_count}
use Rattle.abt_weave.specs.Progress.{journaled, is_mismatch, IsActorSettled, IsAfterLook}
use Rattle.abt_weave.proofs.Settling.{noted_as, noted_is, woken_on}
use Rattle.abt_weave.proofs.settle.look_next.Goals as goal

pub returns : goal.returns
returns c =
    let net = c.args.given.now.net.now in
    let js = journaled c.args.given.now.ports.now c.args.given.now.sources.now in
    let old = c.args.progress.now in
    let new = c.look_at.new.progress in
    let is : c.in_ok-look.look ≡ Placed c.in-Placed.event = c.in-Placed.is in
    let placed = subst (IsAfterLook net js (λ earlier b. IsActorSettled net js earlier c.actor_at.result b) old new) is c.in_ok-look.ensures in
    let noted = noted_as c.args.number c.from.result _ _ c.args.queue.now _ refl refl refl c.from.ensures (c.is_mismatch.ensures ∙ ap is_mismatch is) in (
      record {
        progress_is = placed.0;
        waiting = woken_on net js old new c.in-Placed.event c.args.number c.args.queue.now _ c.wake.new.self c.wake_for.new.queue c.in_ok-wake_for.ensures.rules placed.0 placed.2 c.requires.number c.requires.taken
            c.requires.waiting noted c.in_ok-wake.ensures.wakes c.in_ok-wake_for.ensures.wakes c.in_ok-wake_for.ensures.queue;
      },
      placed.1,
    )
