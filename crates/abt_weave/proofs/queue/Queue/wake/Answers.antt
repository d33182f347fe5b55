use Rattle.std.proofs.Common.{◌≡◌, ◌<◌, ◌∷◌, ◌∙◌, length, refl, ap, sym, subst, false, Some, arith}
use Rattle.std.specs.Prelude.{slice_get}
use Rattle.std.proofs.lemmas.Option.{slice_get_read}
use Rattle.abt_weave.proofs.Queues.{woken_too}
use Rattle.abt_weave.proofs.queue.Queue.wake.Goals as goal

pub returns-clause-queue : goal.returns-clause-queue
returns-clause-queue c =
    let marks = c.args.self.now.marks.items in
    let low : c.from-place.result < length marks = omega (arith, c.requires.low, c.requires.queue.mark_count, c.from-place.ensures) in
    let unmarked : slice_get marks c.args.number ≡ Some false =
    ap (slice_get marks) (sym c.from-place.ensures) ∙ slice_get_read marks (length marks) c.from-place.result c.index-else-index.result.now refl low c.index-else-index.ensures ∙ ap (λ b. Some b) c.if-index-2.false in
    (woken_too c.args.self.now _ c.args.number c.from-place.result c.requires.queue c.requires.low unmarked c.in_ok-push_back.ensures.items refl refl c.from-place.ensures).0

pub returns-clause-wakes : goal.returns-clause-wakes
returns-clause-wakes c =
    let marks = c.args.self.now.marks.items in
    let low : c.from-place.result < length marks = omega (arith, c.requires.low, c.requires.queue.mark_count, c.from-place.ensures) in
    let unmarked : slice_get marks c.args.number ≡ Some false =
    ap (slice_get marks) (sym c.from-place.ensures) ∙ slice_get_read marks (length marks) c.from-place.result c.index-else-index.result.now refl low c.index-else-index.ensures ∙ ap (λ b. Some b) c.if-index-2.false in
    (woken_too c.args.self.now _ c.args.number c.from-place.result c.requires.queue c.requires.low unmarked c.in_ok-push_back.ensures.items refl refl c.from-place.ensures).1
