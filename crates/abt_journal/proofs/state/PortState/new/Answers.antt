use Rattle.std.proofs.Common.{◌≡◌, ap, sym, ◌∙◌}
use Rattle.abt_journal.specs.Opening.{reopened}
use Rattle.abt_journal.proofs.Growing.{replayed-nil}
use Rattle.abt_journal.proofs.Reopening.{reopened_opening}
use Rattle.abt_journal.proofs.state.PortState.new.Goals as goal

pub invariant_of-result : goal.invariant_of-result
invariant_of-result c =
    let opening : reopened c.capacity-opening_capacity.result c.args.port ≡ c.args.port =
    ap (λ n. reopened n c.args.port) c.capacity-opening_capacity.ensures ∙ reopened_opening c.args.port c.requires in
    rw c.new.ensures.items (replayed-nil _ c.args.port (sym opening))

pub returns : goal.returns
returns c =
    let opening : reopened c.capacity-opening_capacity.result c.args.port ≡ c.args.port =
    ap (λ n. reopened n c.args.port) c.capacity-opening_capacity.ensures ∙ reopened_opening c.args.port c.requires in
    λ i. record { opening = opening i; table = c.args.port; entries = c.new.ensures.items i }
