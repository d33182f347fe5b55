-- Worked lifetimes on which the definitions are tried, computed from the definitions alone. Their answers were worked by hand from
-- docs/RULES.md: 512000 units are 1,000 cells per second, whose spacing is 10^9 picoseconds, and 204800 are 400, whose spacing is 2.5 * 10^9.
use Rattle.std.proofs.Common.{◌≡◌, ℕ, refl, true, List, [], ◌∷◌, ◌++◌}
use Rattle.abt_cell.specs.Channel.{Channel}
use Rattle.abt_cell.specs.Message.{Reply}
use Rattle.abt_keep.specs.Record.{KeptRecord}
use Rattle.abt_keep.specs.declared.plan.StorePlan.{StorePlan}
use Rattle.abt_keep.specs.declared.plan.StorePlan.TheVariants.{Works, FailsBefore, FailsAfter}
use Rattle.abt_lifetime.specs.declared.call.SourceCall.{SourceCall}
use Rattle.abt_lifetime.specs.declared.call.SourceCall.TheVariants.{Start, Ask, Answer, Emit, Crash}
use Rattle.abt_lifetime.specs.Lifetime.{lived}
use Rattle.abt_lifetime.specs.Numbers.{new_stored, numbers_of, used_up_to}

abbrev channel : Channel
channel = record { vpi = 1; vci = 100 }

abbrev empty_store : KeptRecord
empty_store = record { number = 0; spacing = 1000000000000 }

abbrev yes : (seq floor ask : ℕ) → Reply
yes seq floor ask = record { terms = record { vc = channel; seq = seq; floor = floor; ask = ask }; granted = true }

-- Two asks, the first of which writes 64; a crash; a start whose read fails, and one that works; an ask whose write is stored and fails,
-- and the same once more.
abbrev a_failing_store : List (SourceCall × StorePlan)
a_failing_store =
    (Start 0, Works) ∷ (Ask 512000, Works) ∷ (Ask 204800, FailsBefore) ∷ (Crash, Works)
    ∷ (Start 5, FailsAfter) ∷ (Start 5, Works) ∷ (Ask 204800, FailsAfter) ∷ (Ask 204800, Works) ∷ []

pub numbers_rise_over_a_failing_store : numbers_of (lived a_failing_store (new_stored channel empty_store)).requests ≡ 1 ∷ 2 ∷ 65 ∷ []
numbers_rise_over_a_failing_store = refl

pub a_failing_store_holds_a_stride : (lived a_failing_store (new_stored channel empty_store)).after.held ≡ record { number = 128; spacing = 1000000000000 }
a_failing_store_holds_a_stride = refl

pub a_failing_store_is_used_up_to_the_last : used_up_to (lived a_failing_store (new_stored channel empty_store)).after ≡ 65
a_failing_store_is_used_up_to_the_last = refl

-- A source that was raised sends a cell, asks once more within its stride, crashes in the gap of that cell, and starts again: the gap is 10^9,
-- and so is the hold-off, as the ask under 129 wrote it.
abbrev a_cell_and_a_crash : List (SourceCall × StorePlan)
a_cell_and_a_crash =
    (Start 0, Works) ∷ (Ask 512000, Works) ∷ (Answer (yes 129 0 512000), Works) ∷ (Emit 1000000000, Works) ∷ (Ask 512000, Works) ∷ (Crash, Works) ∷ []

abbrev used_store : KeptRecord
used_store = record { number = 128; spacing = 1000000000 }

pub the_gap_of_a_cell_is_held : (lived a_cell_and_a_crash (new_stored channel used_store)).after.held ≡ record { number = 192; spacing = 1000000000 }
the_gap_of_a_cell_is_held = refl

pub the_gap_runs_on_over_a_crash : (lived a_cell_and_a_crash (new_stored channel used_store)).after.source.gap ≡ 1000000000
the_gap_runs_on_over_a_crash = refl

pub the_next_start_waits_for_it : (lived (a_cell_and_a_crash ++ (Start 1000000000, Works) ∷ []) (new_stored channel used_store)).after.source.next ≡ 2000000000
the_next_start_waits_for_it = refl

pub a_yes_to_another_number_raises_nothing : (lived ((Start 0, Works) ∷ (Ask 512000, Works) ∷ (Answer (yes 128 0 512000), Works) ∷ []) (new_stored channel used_store)).after.source.rate ≡ 0
a_yes_to_another_number_raises_nothing = refl
