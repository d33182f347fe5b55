use Rattle.std.proofs.Common.{◌≡◌, All}
use Rattle.abt_links.specs.Messages.{IsMessage}
use Rattle.abt_links.proofs.link.link_worker.Given as goal

abbrev pub invariant-loop-time : goal.invariant-loop-time
invariant-loop-time g l = (l.seat.caller ≡ l.caller) × All IsMessage l.seat.receipts

abbrev pub invariant-loop : goal.invariant-loop
invariant-loop g l = (l.seat.caller ≡ l.caller) × All IsMessage l.seat.receipts
