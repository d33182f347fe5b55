-- No box has other answers than before.
use Rattle.std.proofs.Common.{◌≡◌, ◌+◌, ◌-◌, ℕ, vec_len}
use Rattle.abt_play.specs.Waiting.{box_of, boxes_of}
use Rattle.abt_play.proofs.inboxes.grow.Given as goal

abbrev pub invariant-loop-alloc : goal.invariant-loop-alloc
invariant-loop-alloc l = (c : ℕ) → box_of (boxes_of l.boxes.items) c ≡ box_of (boxes_of l.initial.boxes.items) c

abbrev pub decreases-loop-alloc : goal.decreases-loop-alloc
decreases-loop-alloc l = l.place + 1 - vec_len l.boxes
