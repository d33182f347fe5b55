-- Worked pasts on which the definitions of the laws are tried, computed from the definitions alone. Their answers were worked by hand from
-- docs/RULES.md: 204800 units are 400 cells per second, 205056 the next rate above, 307200 are 600, and each link carries 512000.
use Rattle.std.proofs.Common.{◌≡◌, ℕ, zero, suc, ◌≤◌, refl, true, false, [], ◌∷◌, lit<, lit≤, arith}
use Rattle.abt_cell.specs.Channel.{Channel}
use Rattle.abt_keep.specs.declared.plan.StorePlan.TheVariants.{Works, FailsBefore}
use Rattle.abt_source.specs.declared.fault.AskFault.TheVariants.{Keep}
use Rattle.abt_node.specs.declared.reply.Onward.TheVariants.{Pass, Refuse}
use Rattle.abt_node.specs.declared.reply.Back.TheVariants.{Pass as PassBack}
use Rattle.abt_net.specs.declared.conn.Conn.{Conn}
use Rattle.abt_net.specs.Topology.{Topology}
use Rattle.abt_facts.specs.Source.{rate_of}
use Rattle.abt_facts.specs.Sent.{was_shut}
use Rattle.abt_facts.specs.Hop.{held_of}
use Rattle.abt_model.specs.declared.event.Event.TheVariants.{Start, Ask, Again, Crash, Request, Turn, Answer, Told, Capacity}
use Rattle.abt_model.specs.declared.outcome.Cause.TheVariants.{Down as IsDown, NotSent}
use Rattle.abt_model.specs.declared.outcome.Heard.TheVariants.{Raised}
use Rattle.abt_model.specs.declared.outcome.Outcome.{Outcome}
use Rattle.abt_model.specs.declared.outcome.Outcome.TheVariants.{Asked, AskRefused, Requested, Turned, Answered, Told as HasTold, NotEnabled}
use Rattle.abt_model.specs.Past.{Past, facts_of}
use Rattle.abt_model.specs.Outcomes.{outcome_of}
use Rattle.abt_model.specs.Run.{facts_from, facts_after, outcomes_from}
use Rattle.abt_laws.specs.RoundTrips.{round_trip, granted_trip}
use Rattle.abt_laws.specs.Granting.{FitsAt, IsGrantable, grant_story}
use Rattle.abt_laws.specs.Decreases.{IsDecrease}
use Rattle.abt_laws.specs.Holds.{held_for}

abbrev first_channel : Channel
first_channel = record { vpi = 1; vci = 100 }

abbrev second_channel : Channel
second_channel = record { vpi = 1; vci = 101 }

abbrev second_conn : Conn
second_conn = record { vc = second_channel; path = 0 ∷ 1 ∷ []; delay = 1000; tau = 200 }

-- the second connection goes over both links, and the first one shares the last of them
abbrev two_links : Topology
two_links = record { capacities = 512000 ∷ 512000 ∷ []; conns = record { vc = first_channel; path = 1 ∷ []; delay = 1000; tau = 200 } ∷ second_conn ∷ [] }

abbrev asked : (seq floor ask : ℕ) → Outcome
asked seq floor ask = Asked (record { vc = second_channel; seq = seq; floor = floor; ask = ask })

abbrev refused : (seq floor ask : ℕ) → Outcome
refused seq floor ask = Requested (Refuse (record { terms = record { vc = second_channel; seq = seq; floor = floor; ask = ask }; granted = false }))

-- 600 cells per second of the last link are held by the first connection.
abbrev shared : Past
shared = facts_after two_links (Start 0 0 ∷ Start 1 0 ∷ Ask 0 307200 Works ∷ Request 0 1 1 ∷ [])

-- The events of a grant, written out.
pub a_grant_goes_out_and_back : grant_story shared 1 second_conn 204800 Works
    ≡ Ask 1 204800 Works ∷ Request 1 1 1 ∷ Request 1 2 1 ∷ Turn 1 1 ∷ Answer 1 2 1 true ∷ Answer 1 1 1 true ∷ Told 1 1 true ∷ []
a_grant_goes_out_and_back = refl

pub a_granted_trip_is_passed_everywhere : granted_trip 2 ≡ Requested Pass ∷ Requested Pass ∷ Turned ∷ Answered PassBack ∷ Answered PassBack ∷ HasTold Raised ∷ []
a_granted_trip_is_passed_everywhere = refl

-- 400 are left, and are granted.
pub what_just_fits_is_granted : outcomes_from two_links shared (grant_story shared 1 second_conn 204800 Works)
    ≡ asked 1 0 204800 ∷ Requested Pass ∷ Requested Pass ∷ Turned ∷ Answered PassBack ∷ Answered PassBack ∷ HasTold Raised ∷ []
what_just_fits_is_granted = refl

pub what_just_fits_is_shaped_at : rate_of (facts_of 1 (facts_from two_links shared (grant_story shared 1 second_conn 204800 Works))) ≡ 204800
what_just_fits_is_shaped_at = refl

-- The next rate doesn't fit at the last hop.
pub what_does_not_fit_is_refused : outcomes_from two_links shared (grant_story shared 1 second_conn 205056 Works)
    ≡ asked 1 0 205056 ∷ Requested Pass ∷ refused 1 0 205056 ∷ NotEnabled NotSent ∷ NotEnabled NotSent ∷ NotEnabled NotSent ∷ NotEnabled NotSent ∷ []
what_does_not_fit_is_refused = refl

-- A source that is down doesn't ask, and one whose store fails neither.
pub a_source_that_is_down_is_granted_nothing : outcomes_from two_links [] (grant_story [] 1 second_conn 204800 Works)
    ≡ NotEnabled IsDown ∷ NotEnabled NotSent ∷ NotEnabled NotSent ∷ NotEnabled NotSent ∷ NotEnabled NotSent ∷ NotEnabled NotSent ∷ NotEnabled NotSent ∷ []
a_source_that_is_down_is_granted_nothing = refl

pub a_store_that_fails_grants_nothing : outcomes_from two_links shared (grant_story shared 1 second_conn 204800 FailsBefore)
    ≡ AskRefused Keep ∷ NotEnabled NotSent ∷ NotEnabled NotSent ∷ NotEnabled NotSent ∷ NotEnabled NotSent ∷ NotEnabled NotSent ∷ NotEnabled NotSent ∷ []
a_store_that_fails_grants_nothing = refl

-- Something comes between: after the ask the first connection asks for 800 cells per second, and its request comes to the last link first.
pub what_comes_between_can_take_the_room : outcomes_from two_links shared (Ask 1 204800 Works ∷ Ask 0 409600 Works ∷ Request 0 1 2 ∷ round_trip 1 1 2)
    ≡ asked 1 0 204800
    ∷ Asked (record { vc = first_channel; seq = 2; floor = 0; ask = 409600 })
    ∷ Requested Pass
    ∷ Requested Pass
    ∷ refused 1 0 204800
    ∷ NotEnabled NotSent
    ∷ NotEnabled NotSent
    ∷ NotEnabled NotSent
    ∷ NotEnabled NotSent
    ∷ []
what_comes_between_can_take_the_room = refl

-- The second connection holds 400, and the last link is full.
abbrev full : Past
full = facts_from two_links shared (grant_story shared 1 second_conn 204800 Works)

-- What the second connection holds itself makes room for it: it can be granted the same rate once more, and all that others leave.
same_rate_fits : (hop : ℕ) → 1 ≤ hop → hop ≤ 2 → FitsAt two_links full 1 second_conn 204800 hop
same_rate_fits zero low high = absurd (omega arith)
same_rate_fits (suc zero) low high = lit≤ tt
same_rate_fits (suc (suc zero)) low high = lit≤ tt
same_rate_fits (suc (suc (suc hop))) low high = absurd (omega arith)

pub a_full_link_has_room_for_what_it_holds : IsGrantable two_links full 1 second_conn 204800 Works
a_full_link_has_room_for_what_it_holds = record { up = λ down. absurd (cc); number = lit< tt; store = λ writes. refl; fits = same_rate_fits }

-- A decrease passes both hops, also if the link was cut to what is held. An increase is shut at the last one.
pub a_decrease_passes_a_full_link : outcomes_from two_links full (Capacity 1 512000 ∷ Ask 1 102400 Works ∷ round_trip 1 2 2)
    ≡ outcome_of two_links full (Capacity 1 512000)
    ∷ asked 2 102400 102400
    ∷ Requested Pass
    ∷ Requested Pass
    ∷ Turned
    ∷ Answered PassBack
    ∷ Answered PassBack
    ∷ HasTold Raised
    ∷ []
a_decrease_passes_a_full_link = refl

pub less_is_a_decrease : IsDecrease (facts_of 1 (facts_from two_links full (Ask 1 102400 Works ∷ []))) 2
less_is_a_decrease = record { asked = refl; floor = refl }

pub a_decrease_is_not_shut : was_shut (facts_of 1 (facts_from two_links full (Ask 1 102400 Works ∷ round_trip 1 2 2))) 2 2 ≡ false
a_decrease_is_not_shut = refl

pub an_increase_is_shut : was_shut (facts_of 1 (facts_from two_links full (Ask 1 307200 Works ∷ Request 1 1 2 ∷ Request 1 2 2 ∷ []))) 2 2 ≡ true
an_increase_is_shut = refl

-- That increase was refused at the last hop, and its no is lost on the way to the first, which goes on holding 600 cells per second.
abbrev lost_no : Past
lost_no = facts_from two_links full (Ask 1 307200 Works ∷ Request 1 1 2 ∷ Request 1 2 2 ∷ [])

pub a_lost_no_stays_held : held_of (facts_of 1 lost_no) 1 ≡ 307200
a_lost_no_stays_held = refl

pub a_lost_no_leaves_the_source : rate_of (facts_of 1 lost_no) ≡ 204800
a_lost_no_leaves_the_source = refl

-- Neither a crash nor a start takes it back, nor that the source asks for less, but that request does, hop by hop.
abbrev asked_for_less : Past
asked_for_less = facts_from two_links lost_no (Crash 1 ∷ Start 1 5 ∷ Ask 1 102400 Works ∷ [])

pub an_ask_alone_takes_nothing_back : held_of (facts_of 1 asked_for_less) 1 ≡ 307200
an_ask_alone_takes_nothing_back = refl

pub a_request_takes_it_back : held_of (facts_of 1 (facts_from two_links asked_for_less (Request 1 1 65 ∷ []))) 1 ≡ 102400
a_request_takes_it_back = refl

pub a_request_is_held_for : held_for (facts_of 1 (facts_from two_links asked_for_less (Request 1 1 65 ∷ []))) 65 1 ≡ 102400
a_request_is_held_for = refl

pub the_next_hop_holds_on : held_of (facts_of 1 (facts_from two_links asked_for_less (Request 1 1 65 ∷ []))) 2 ≡ 204800
the_next_hop_holds_on = refl

-- The no comes when the request is sent again: the first hop passes it, the last one refuses it as before.
pub a_repeat_brings_the_no_again : outcomes_from two_links lost_no (Again 1 ∷ Request 1 1 2 ∷ Request 1 2 2 ∷ Answer 1 1 2 false ∷ [])
    ≡ outcome_of two_links lost_no (Again 1) ∷ Requested Pass ∷ refused 2 204800 307200 ∷ Answered PassBack ∷ []
a_repeat_brings_the_no_again = refl

pub a_no_leaves_the_floor : held_of (facts_of 1 (facts_from two_links lost_no (Again 1 ∷ Request 1 1 2 ∷ Request 1 2 2 ∷ Answer 1 1 2 false ∷ []))) 1 ≡ 204800
a_no_leaves_the_floor = refl
