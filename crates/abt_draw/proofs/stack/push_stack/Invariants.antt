-- The text has only grown, and each connection so far that holds something has its block.
use Rattle.std.proofs.Common.{◌≡◌, ◌≢◌, ◌<◌, ◌≤◌, ℕ, string_bytes}
use Rattle.std.specs.Prelude.{Some, slice_get, sum}
use Rattle.abt_draw.specs.Bands.{HasBlock, block_in}
use Rattle.abt_draw.specs.Within.{Grows}
use Rattle.abt_draw.proofs.stack.push_stack.Given as goal

abbrev pub invariant-loop-conn : goal.invariant-loop-conn
invariant-loop-conn l = record {
  grows : Grows (string_bytes l.initial.out) (string_bytes l.out);
  drawn : (c held : ℕ) → c < l.conn → sum l.stack ≤ l.band.most → slice_get l.stack c ≡ Some held → held ≢ 0
      → HasBlock l.band.base c held (block_in l.stack l.band.most c) (string_bytes l.out);
}
