use Rattle.std.proofs.Common.{◌≡◌, take}
use Rattle.abt_links.specs.Operations.{AreReceiptsFor}
use Rattle.abt_links.proofs.operator.operator_worker.Given as goal

abbrev pub invariant-loop-operation : goal.invariant-loop-operation
invariant-loop-operation g l = (l.seat.caller ≡ l.caller) × AreReceiptsFor (take l.operation-index l.operations) l.seat.receipts
