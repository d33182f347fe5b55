-- Worked runs, computed from the definitions alone. Their expected answers were written down before any code stood.
use Rattle.std.proofs.Common.{◌≡◌, ℕ, zero, suc, ◌+◌, refl, true, false, List, [], ◌∷◌}
use Rattle.abt_cell.specs.Channel.{Channel}
use Rattle.abt_gcra.specs.declared.verdict.Verdict.TheVariants.{Conforming}
use Rattle.abt_keep.specs.declared.plan.StorePlan.TheVariants.{Works, FailsBefore, FailsAfter}
use Rattle.abt_shaper.specs.declared.fault.ShapeFault.TheVariants.{Zero, TooSoon}
use Rattle.abt_source.specs.declared.fault.StartFault.TheVariants.{TimeRange as StartTimeRange}
use Rattle.abt_source.specs.declared.fault.AskFault.TheVariants.{Keep}
use Rattle.abt_ledger.specs.declared.fault.CapacityFault.TheVariants.{BelowSum, AboveLimit}
use Rattle.abt_node.specs.declared.reply.DropCause.TheVariants.{Stale}
use Rattle.abt_node.specs.declared.reply.Onward.TheVariants.{Pass, Refuse, Drop}
use Rattle.abt_node.specs.declared.reply.Back.TheVariants.{Pass as PassBack}
use Rattle.abt_net.specs.Topology.{Topology}
use Rattle.abt_facts.specs.Source.{rate_of}
use Rattle.abt_facts.specs.Hop.{held_of}
use Rattle.abt_model.specs.declared.event.Event.{Event}
use Rattle.abt_model.specs.declared.event.Event.TheVariants.{Start, Ask, Again, Crash, Emit, Arrive, Request, Turn, Answer, Told, Capacity}
use Rattle.abt_model.specs.declared.outcome.Cause.TheVariants.{Down as IsDown, Running, NotSent, Fenced, Delay as OutOfTime, ClockBack, Unknown, NotAsking}
use Rattle.abt_model.specs.declared.outcome.Heard.TheVariants.{Raised, Refused, Ignored}
use Rattle.abt_model.specs.declared.outcome.Outcome.{Outcome}
use Rattle.abt_model.specs.declared.outcome.Outcome.TheVariants.{Started, StartRefused, Asked, AskRefused, Crashed, Emitted, EmitRefused, Arrived, Requested, Turned, Answered, Told as HasTold, CapacitySet, CapacityRefused, NotEnabled}
use Rattle.abt_model.specs.Past.{facts_of}
use Rattle.abt_model.specs.Reserved.{reserved_on, capacity_of}
use Rattle.abt_model.specs.Run.{facts_after, outcomes_of}

abbrev first_channel : Channel
first_channel = record { vpi = 1; vci = 100 }

abbrev second_channel : Channel
second_channel = record { vpi = 1; vci = 101 }

abbrev one_link : Topology
one_link = record { capacities = 512000 ∷ []; conns = record { vc = first_channel; path = 0 ∷ []; delay = 1000; tau = 200 } ∷ [] }

abbrev two_links : Topology
two_links = record {
  capacities = 512000 ∷ 512000 ∷ [];
  conns = record { vc = first_channel; path = 1 ∷ []; delay = 1000; tau = 200 } ∷ record { vc = second_channel; path = 0 ∷ 1 ∷ []; delay = 1000; tau = 200 } ∷ [];
}

abbrev fastest_link : Topology
fastest_link = record { capacities = 2196875771904 ∷ []; conns = record { vc = first_channel; path = 0 ∷ []; delay = 1000; tau = 1000 } ∷ [] }

abbrev asked : Channel → (seq floor ask : ℕ) → Outcome
asked vc seq floor ask = Asked (record { vc = vc; seq = seq; floor = floor; ask = ask })

abbrev refused : Channel → (seq floor ask : ℕ) → Outcome
refused vc seq floor ask = Requested (Refuse (record { terms = record { vc = vc; seq = seq; floor = floor; ask = ask }; granted = false }))

-- Two connections share a link. The second is raised, asks for more than fits, and keeps what it had.
abbrev a_full_link_refuses_and_the_lower_rate_stays_events : List Event
a_full_link_refuses_and_the_lower_rate_stays_events =
    Start 0 0
    ∷ Start 1 0
    ∷ Ask 0 307200 Works
    ∷ Request 0 1 1
    ∷ Ask 1 204800 Works
    ∷ Request 1 1 1
    ∷ Turn 1 1
    ∷ Request 1 2 1
    ∷ Turn 1 1
    ∷ Answer 1 2 1 true
    ∷ Answer 1 1 1 true
    ∷ Told 1 1 true
    ∷ Ask 1 307200 Works
    ∷ Request 1 1 2
    ∷ Request 1 2 2
    ∷ Answer 1 1 2 false
    ∷ Told 1 2 false
    ∷ []

pub a_full_link_refuses_and_the_lower_rate_stays : outcomes_of two_links a_full_link_refuses_and_the_lower_rate_stays_events
    ≡ Started
    ∷ Started
    ∷ asked first_channel 1 0 307200
    ∷ Requested Pass
    ∷ asked second_channel 1 0 204800
    ∷ Requested Pass
    ∷ NotEnabled NotSent
    ∷ Requested Pass
    ∷ Turned
    ∷ Answered PassBack
    ∷ Answered PassBack
    ∷ HasTold Raised
    ∷ asked second_channel 2 204800 307200
    ∷ Requested Pass
    ∷ refused second_channel 2 204800 307200
    ∷ Answered PassBack
    ∷ HasTold Refused
    ∷ []
a_full_link_refuses_and_the_lower_rate_stays = refl

pub a_full_link_refuses_and_the_lower_rate_stays_rate : rate_of (facts_of 1 (facts_after two_links a_full_link_refuses_and_the_lower_rate_stays_events)) ≡ 204800
a_full_link_refuses_and_the_lower_rate_stays_rate = refl

pub a_full_link_refuses_and_the_lower_rate_stays_first_rate : rate_of (facts_of 0 (facts_after two_links a_full_link_refuses_and_the_lower_rate_stays_events)) ≡ 0
a_full_link_refuses_and_the_lower_rate_stays_first_rate = refl

pub a_full_link_refuses_and_the_lower_rate_stays_held_first : held_of (facts_of 0 (facts_after two_links a_full_link_refuses_and_the_lower_rate_stays_events)) 1 ≡ 307200
a_full_link_refuses_and_the_lower_rate_stays_held_first = refl

pub a_full_link_refuses_and_the_lower_rate_stays_held : held_of (facts_of 1 (facts_after two_links a_full_link_refuses_and_the_lower_rate_stays_events)) 1 ≡ 204800
a_full_link_refuses_and_the_lower_rate_stays_held = refl

pub a_full_link_refuses_and_the_lower_rate_stays_held_last : held_of (facts_of 1 (facts_after two_links a_full_link_refuses_and_the_lower_rate_stays_events)) 2 ≡ 204800
a_full_link_refuses_and_the_lower_rate_stays_held_last = refl

pub a_full_link_refuses_and_the_lower_rate_stays_total : reserved_on two_links (facts_after two_links a_full_link_refuses_and_the_lower_rate_stays_events) 0 ≡ 204800
a_full_link_refuses_and_the_lower_rate_stays_total = refl

pub a_full_link_refuses_and_the_lower_rate_stays_total_last : reserved_on two_links (facts_after two_links a_full_link_refuses_and_the_lower_rate_stays_events) 1 ≡ 512000
a_full_link_refuses_and_the_lower_rate_stays_total_last = refl

-- Then the first connection gives its rate back. A request that was refused is refused again.
abbrev a_refusal_stands_though_room_is_made_events : List Event
a_refusal_stands_though_room_is_made_events =
    Start 0 0
    ∷ Start 1 0
    ∷ Ask 0 307200 Works
    ∷ Request 0 1 1
    ∷ Ask 1 204800 Works
    ∷ Request 1 1 1
    ∷ Turn 1 1
    ∷ Request 1 2 1
    ∷ Turn 1 1
    ∷ Answer 1 2 1 true
    ∷ Answer 1 1 1 true
    ∷ Told 1 1 true
    ∷ Ask 1 307200 Works
    ∷ Request 1 1 2
    ∷ Request 1 2 2
    ∷ Answer 1 1 2 false
    ∷ Told 1 2 false
    ∷ Ask 0 0 Works
    ∷ Request 0 1 2
    ∷ Request 1 1 2
    ∷ Request 1 2 2
    ∷ []

pub a_refusal_stands_though_room_is_made : outcomes_of two_links a_refusal_stands_though_room_is_made_events
    ≡ Started
    ∷ Started
    ∷ asked first_channel 1 0 307200
    ∷ Requested Pass
    ∷ asked second_channel 1 0 204800
    ∷ Requested Pass
    ∷ NotEnabled NotSent
    ∷ Requested Pass
    ∷ Turned
    ∷ Answered PassBack
    ∷ Answered PassBack
    ∷ HasTold Raised
    ∷ asked second_channel 2 204800 307200
    ∷ Requested Pass
    ∷ refused second_channel 2 204800 307200
    ∷ Answered PassBack
    ∷ HasTold Refused
    ∷ asked first_channel 2 0 0
    ∷ Requested Pass
    ∷ refused second_channel 2 204800 307200
    ∷ refused second_channel 2 204800 307200
    ∷ []
a_refusal_stands_though_room_is_made = refl

pub a_refusal_stands_though_room_is_made_total : reserved_on two_links (facts_after two_links a_refusal_stands_though_room_is_made_events) 0 ≡ 204800
a_refusal_stands_though_room_is_made_total = refl

pub a_refusal_stands_though_room_is_made_total_last : reserved_on two_links (facts_after two_links a_refusal_stands_though_room_is_made_events) 1 ≡ 204800
a_refusal_stands_though_room_is_made_total_last = refl

-- A source asks again before the yes to its first request comes.
abbrev a_yes_to_an_abandoned_number_raises_nothing_events : List Event
a_yes_to_an_abandoned_number_raises_nothing_events =
    Start 0 0
    ∷ Ask 0 204800 Works
    ∷ Request 0 1 1
    ∷ Turn 0 1
    ∷ Answer 0 1 1 true
    ∷ Ask 0 307200 Works
    ∷ Told 0 1 true
    ∷ []

pub a_yes_to_an_abandoned_number_raises_nothing : outcomes_of one_link a_yes_to_an_abandoned_number_raises_nothing_events
    ≡ Started
    ∷ asked first_channel 1 0 204800
    ∷ Requested Pass
    ∷ Turned
    ∷ Answered PassBack
    ∷ asked first_channel 2 0 307200
    ∷ HasTold Ignored
    ∷ []
a_yes_to_an_abandoned_number_raises_nothing = refl

pub a_yes_to_an_abandoned_number_raises_nothing_rate : rate_of (facts_of 0 (facts_after one_link a_yes_to_an_abandoned_number_raises_nothing_events)) ≡ 0
a_yes_to_an_abandoned_number_raises_nothing_rate = refl

pub a_yes_to_an_abandoned_number_raises_nothing_held : held_of (facts_of 0 (facts_after one_link a_yes_to_an_abandoned_number_raises_nothing_events)) 1 ≡ 204800
a_yes_to_an_abandoned_number_raises_nothing_held = refl

-- A source crashes and starts while a yes is under way.
abbrev a_restart_hears_no_old_answer_events : List Event
a_restart_hears_no_old_answer_events =
    Start 0 0
    ∷ Ask 0 204800 Works
    ∷ Request 0 1 1
    ∷ Turn 0 1
    ∷ Answer 0 1 1 true
    ∷ Crash 0
    ∷ Ask 0 204800 Works
    ∷ Start 0 5
    ∷ Told 0 1 true
    ∷ Ask 0 307200 Works
    ∷ Told 0 1 true
    ∷ []

pub a_restart_hears_no_old_answer : outcomes_of one_link a_restart_hears_no_old_answer_events
    ≡ Started
    ∷ asked first_channel 1 0 204800
    ∷ Requested Pass
    ∷ Turned
    ∷ Answered PassBack
    ∷ Crashed
    ∷ NotEnabled IsDown
    ∷ Started
    ∷ HasTold Ignored
    ∷ asked first_channel 65 0 307200
    ∷ HasTold Ignored
    ∷ []
a_restart_hears_no_old_answer = refl

-- A source that was raised sends cells, none before the hold-off is over.
abbrev cells_leave_after_the_hold_off_and_conform_events : List Event
cells_leave_after_the_hold_off_and_conform_events =
    Start 0 5000000000000
    ∷ Ask 0 512000 Works
    ∷ Request 0 1 1
    ∷ Turn 0 1
    ∷ Answer 0 1 1 true
    ∷ Told 0 1 true
    ∷ Emit 0 5900000000000
    ∷ Emit 0 6000000000000
    ∷ Emit 0 6001000000000
    ∷ Arrive 0 0 6000000001200
    ∷ Arrive 0 1 6001000001000
    ∷ []

pub cells_leave_after_the_hold_off_and_conform : outcomes_of one_link cells_leave_after_the_hold_off_and_conform_events
    ≡ Started
    ∷ asked first_channel 1 0 512000
    ∷ Requested Pass
    ∷ Turned
    ∷ Answered PassBack
    ∷ HasTold Raised
    ∷ EmitRefused (TooSoon 6000000000000)
    ∷ Emitted 0 6001000000000
    ∷ Emitted 1 6002000000000
    ∷ Arrived Conforming
    ∷ Arrived Conforming
    ∷ []
cells_leave_after_the_hold_off_and_conform = refl

-- A decrease passes the first hop before a cell that left earlier.
abbrev a_request_stops_the_cells_that_it_overtook_events : List Event
a_request_stops_the_cells_that_it_overtook_events =
    Start 0 5000000000000
    ∷ Ask 0 512000 Works
    ∷ Request 0 1 1
    ∷ Turn 0 1
    ∷ Answer 0 1 1 true
    ∷ Told 0 1 true
    ∷ Emit 0 5900000000000
    ∷ Emit 0 6000000000000
    ∷ Ask 0 204800 Works
    ∷ Request 0 1 2
    ∷ Arrive 0 0 6000000001000
    ∷ Emit 0 6001000000000
    ∷ Arrive 0 1 6001000001201
    ∷ Arrive 0 1 6001000000999
    ∷ Arrive 0 1 6001000001200
    ∷ Arrive 0 1 6001000001200
    ∷ Arrive 0 2 6003500001000
    ∷ []

pub a_request_stops_the_cells_that_it_overtook : outcomes_of one_link a_request_stops_the_cells_that_it_overtook_events
    ≡ Started
    ∷ asked first_channel 1 0 512000
    ∷ Requested Pass
    ∷ Turned
    ∷ Answered PassBack
    ∷ HasTold Raised
    ∷ EmitRefused (TooSoon 6000000000000)
    ∷ Emitted 0 6001000000000
    ∷ asked first_channel 2 204800 204800
    ∷ Requested Pass
    ∷ NotEnabled Fenced
    ∷ Emitted 1 6003500000000
    ∷ NotEnabled OutOfTime
    ∷ NotEnabled OutOfTime
    ∷ Arrived Conforming
    ∷ NotEnabled Fenced
    ∷ NotEnabled NotSent
    ∷ []
a_request_stops_the_cells_that_it_overtook = refl

-- A write was stored and failed, and the ask is tried again.
abbrev a_failed_write_can_be_tried_again_events : List Event
a_failed_write_can_be_tried_again_events =
    Start 0 0
    ∷ Ask 0 204800 FailsAfter
    ∷ Ask 0 204800 Works
    ∷ []

pub a_failed_write_can_be_tried_again : outcomes_of one_link a_failed_write_can_be_tried_again_events
    ≡ Started
    ∷ AskRefused Keep
    ∷ asked first_channel 1 0 204800
    ∷ []
a_failed_write_can_be_tried_again = refl

-- A write was stored and failed, and the source starts again.
abbrev a_stored_number_is_used_up_events : List Event
a_stored_number_is_used_up_events =
    Start 0 0
    ∷ Ask 0 204800 FailsAfter
    ∷ Crash 0
    ∷ Start 0 0
    ∷ Ask 0 204800 Works
    ∷ []

pub a_stored_number_is_used_up : outcomes_of one_link a_stored_number_is_used_up_events
    ≡ Started
    ∷ AskRefused Keep
    ∷ Crashed
    ∷ Started
    ∷ asked first_channel 65 0 204800
    ∷ []
a_stored_number_is_used_up = refl

-- A write failed before it was stored, and the source starts again.
abbrev a_number_that_was_not_stored_is_free_events : List Event
a_number_that_was_not_stored_is_free_events =
    Start 0 0
    ∷ Ask 0 204800 FailsBefore
    ∷ Crash 0
    ∷ Start 0 0
    ∷ Ask 0 204800 Works
    ∷ []

pub a_number_that_was_not_stored_is_free : outcomes_of one_link a_number_that_was_not_stored_is_free_events
    ≡ Started
    ∷ AskRefused Keep
    ∷ Crashed
    ∷ Started
    ∷ asked first_channel 1 0 204800
    ∷ []
a_number_that_was_not_stored_is_free = refl

-- A second ask finds its number and its need kept, so that its plan has no write to fail. A restart goes on behind what was kept.
abbrev a_stride_is_kept_at_once_events : List Event
a_stride_is_kept_at_once_events =
    Start 0 0
    ∷ Ask 0 204800 Works
    ∷ Ask 0 307200 FailsBefore
    ∷ Crash 0
    ∷ Start 0 0
    ∷ Ask 0 204800 Works
    ∷ []

pub a_stride_is_kept_at_once : outcomes_of one_link a_stride_is_kept_at_once_events
    ≡ Started
    ∷ asked first_channel 1 0 204800
    ∷ asked first_channel 2 0 307200
    ∷ Crashed
    ∷ Started
    ∷ asked first_channel 65 0 204800
    ∷ []
a_stride_is_kept_at_once = refl

-- a source that was raised to 1,000 cells per second, sent one cell, and asked for the same rate so many times more
abbrev asks_again : ℕ → List Event → List Event
asks_again zero later = later
asks_again (suc n) later = Ask 0 512000 Works ∷ asks_again n later

abbrev asked_again : (first count : ℕ) → List Outcome → List Outcome
asked_again first zero later = later
asked_again first (suc n) later = asked first_channel first 512000 512000 ∷ asked_again (first + 1) n later

abbrev raised_and_asking : List Event → List Event
raised_and_asking later =
    Start 0 0
    ∷ Ask 0 512000 Works
    ∷ Request 0 1 1
    ∷ Turn 0 1
    ∷ Answer 0 1 1 true
    ∷ Told 0 1 true
    ∷ Emit 0 1000000000000
    ∷ Arrive 0 0 1000000001200
    ∷ asks_again 64 later

abbrev raised_and_asked : List Outcome → List Outcome
raised_and_asked later =
    Started
    ∷ asked first_channel 1 0 512000
    ∷ Requested Pass
    ∷ Turned
    ∷ Answered PassBack
    ∷ HasTold Raised
    ∷ Emitted 0 1001000000000
    ∷ Arrived Conforming
    ∷ asked_again 2 64 later

-- The next stride kept a spacing of a millisecond, and that is the hold-off of the restart.
abbrev a_restart_waits_for_the_kept_spacing_events : List Event
a_restart_waits_for_the_kept_spacing_events = raised_and_asking (
    Crash 0
    ∷ Start 0 1000000000000
    ∷ Ask 0 512000 Works
    ∷ Request 0 1 129
    ∷ Turn 0 129
    ∷ Answer 0 1 129 true
    ∷ Told 0 129 true
    ∷ Emit 0 1000999999999
    ∷ Emit 0 1001000000000
    ∷ Arrive 0 1 1001000001000
    ∷ [])

pub a_restart_waits_for_the_kept_spacing : outcomes_of one_link a_restart_waits_for_the_kept_spacing_events
    ≡ raised_and_asked (
    Crashed
    ∷ Started
    ∷ asked first_channel 129 0 512000
    ∷ Requested Pass
    ∷ Turned
    ∷ Answered PassBack
    ∷ HasTold Raised
    ∷ EmitRefused (TooSoon 1001000000000)
    ∷ Emitted 1 1002000000000
    ∷ Arrived Conforming
    ∷ [])
a_restart_waits_for_the_kept_spacing = refl

-- An ask for a lower rate has a greater need than what is kept, so it writes within the stride.
abbrev a_greater_need_is_written_events : List Event
a_greater_need_is_written_events = raised_and_asking (
    Ask 0 512000 FailsBefore
    ∷ Ask 0 204800 FailsBefore
    ∷ Ask 0 204800 Works
    ∷ Crash 0
    ∷ Start 0 1000000000000
    ∷ Ask 0 204800 Works
    ∷ [])

pub a_greater_need_is_written : outcomes_of one_link a_greater_need_is_written_events
    ≡ raised_and_asked (
    asked first_channel 66 512000 512000
    ∷ AskRefused Keep
    ∷ asked first_channel 67 204800 204800
    ∷ Crashed
    ∷ Started
    ∷ asked first_channel 131 0 204800
    ∷ [])
a_greater_need_is_written = refl

-- A link shrinks to what is reserved on it and no further, until its source gives way. The capacity in force decides.
abbrev a_link_shrinks_to_what_is_reserved_events : List Event
a_link_shrinks_to_what_is_reserved_events =
    Start 0 0
    ∷ Ask 0 307200 Works
    ∷ Request 0 1 1
    ∷ Capacity 0 307199
    ∷ Capacity 0 307200
    ∷ Ask 0 512000 Works
    ∷ Request 0 1 2
    ∷ Request 0 1 1
    ∷ Capacity 0 0
    ∷ Capacity 0 1152921504606846977
    ∷ Capacity 1 0
    ∷ []

pub a_link_shrinks_to_what_is_reserved : outcomes_of one_link a_link_shrinks_to_what_is_reserved_events
    ≡ Started
    ∷ asked first_channel 1 0 307200
    ∷ Requested Pass
    ∷ CapacityRefused BelowSum
    ∷ CapacitySet
    ∷ asked first_channel 2 0 512000
    ∷ refused first_channel 2 0 512000
    ∷ Requested (Drop Stale)
    ∷ CapacitySet
    ∷ CapacityRefused AboveLimit
    ∷ NotEnabled Unknown
    ∷ []
a_link_shrinks_to_what_is_reserved = refl

pub a_link_shrinks_to_what_is_reserved_total : reserved_on one_link (facts_after one_link a_link_shrinks_to_what_is_reserved_events) 0 ≡ 0
a_link_shrinks_to_what_is_reserved_total = refl

pub a_link_shrinks_to_what_is_reserved_capacity : capacity_of one_link (facts_after one_link a_link_shrinks_to_what_is_reserved_events) 0 ≡ 0
a_link_shrinks_to_what_is_reserved_capacity = refl

-- What is not enabled says why.
abbrev causes_are_tried_in_order_events : List Event
causes_are_tried_in_order_events =
    Emit 0 5
    ∷ Start 0 9
    ∷ Start 0 9
    ∷ Again 0
    ∷ Emit 0 8
    ∷ Emit 0 9
    ∷ Start 7 0
    ∷ Request 0 2 1
    ∷ Request 0 1 1
    ∷ []

pub causes_are_tried_in_order : outcomes_of one_link causes_are_tried_in_order_events
    ≡ NotEnabled IsDown
    ∷ Started
    ∷ NotEnabled Running
    ∷ NotEnabled NotAsking
    ∷ NotEnabled ClockBack
    ∷ EmitRefused Zero
    ∷ NotEnabled Unknown
    ∷ NotEnabled Unknown
    ∷ NotEnabled NotSent
    ∷ []
causes_are_tried_in_order = refl

-- A start one picosecond above its greatest moment.
abbrev a_start_too_late_is_refused_events : List Event
a_start_too_late_is_refused_events =
    Start 0 2305842009213693953
    ∷ []

pub a_start_too_late_is_refused : outcomes_of one_link a_start_too_late_is_refused_events
    ≡ StartRefused StartTimeRange
    ∷ []
a_start_too_late_is_refused = refl

-- The greatest rate, over an access line with as much tolerance as delay.
abbrev the_greatest_rate_conforms_events : List Event
the_greatest_rate_conforms_events =
    Start 0 0
    ∷ Ask 0 2196875771904 Works
    ∷ Request 0 1 1
    ∷ Turn 0 1
    ∷ Answer 0 1 1 true
    ∷ Told 0 1 true
    ∷ Emit 0 1000000000000
    ∷ Emit 0 1000000000234
    ∷ Arrive 0 0 1000000002000
    ∷ Arrive 0 1 1000000001999
    ∷ Arrive 0 1 1000000002000
    ∷ []

pub the_greatest_rate_conforms : outcomes_of fastest_link the_greatest_rate_conforms_events
    ≡ Started
    ∷ asked first_channel 1 0 2196875771904
    ∷ Requested Pass
    ∷ Turned
    ∷ Answered PassBack
    ∷ HasTold Raised
    ∷ Emitted 0 1000000000234
    ∷ Emitted 1 1000000000468
    ∷ Arrived Conforming
    ∷ NotEnabled ClockBack
    ∷ Arrived Conforming
    ∷ []
the_greatest_rate_conforms = refl
