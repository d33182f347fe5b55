-- The numbers so far, and those of the values that are left, are the numbers.
use Rattle.std.proofs.Common.{◌≡◌, ◌^◌, drop}
use Rattle.json.specs.Value.{items_view}
use Rattle.abt_entry.specs.declared.member.Member.TheVariants as of
use Rattle.abt_entry.specs.NetLines.{numbers_in}
use Rattle.abt_entry.proofs.Lists.{with_rest}
use Rattle.abt_entry.proofs.net.capacities_in.Given as goal

abbrev pub invariant-loop-value : goal.invariant-loop-value
invariant-loop-value l =
    with_rest l.numbers.items (numbers_in (2 ^ 64) of.Ports (items_view (drop l.value-index l.items))) ≡ numbers_in (2 ^ 64) of.Ports (items_view l.items)
