use Rattle.std.proofs.Common.{◌≡◌, vec_len}
use Rattle.abt_links.proofs.boxes.empty_boxes.Given as goal

abbrev pub invariant-loop-made : goal.invariant-loop-made
invariant-loop-made g l = vec_len l.boxes ≡ l._made
