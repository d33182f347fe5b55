-- Promises of every past that events lead to, beside that it is safe.
use Rattle.std.specs.Prelude.{◌≡◌, ◌≢◌, ◌⊎◌, ℕ, ◌+◌, ◌*◌, ◌≤◌, Bool, true, false, List, length, All, Some}
use Rattle.abt_rate.specs.Limits.{arrive_max}
use Rattle.abt_rate.specs.Rate.{spacing_of}
use Rattle.abt_gcra.specs.declared.verdict.Verdict.{Verdict}
use Rattle.abt_gcra.specs.declared.verdict.Verdict.TheVariants.{Conforming}
use Rattle.abt_gcra.specs.Windows.{IsVerdictAt}
use Rattle.abt_gcra.specs.Standing.{TatStandsFor}
use Rattle.abt_node.specs.declared.reply.DropCause.{DropCause}
use Rattle.abt_node.specs.declared.reply.DropCause.TheVariants.{UnknownVc, Stale, Conflict, FloorAbove}
use Rattle.abt_node.specs.declared.reply.Onward.TheVariants.{Drop}
use Rattle.abt_node.specs.declared.reply.Back.TheVariants.{Drop as DropBack}
use Rattle.abt_net.specs.declared.conn.Conn.{Conn}
use Rattle.abt_net.specs.Topology.{Topology, IsWithinRules, conn_at}
use Rattle.abt_facts.specs.declared.fact.Fact.{Fact}
use Rattle.abt_facts.specs.Requests.{was_asked, floor_of}
use Rattle.abt_facts.specs.Keeping.{counted}
use Rattle.abt_facts.specs.Source.{open_ask, state_of, rate_of, stored_of, gap_of, next_of, yes_was_heard}
use Rattle.abt_facts.specs.Sent.{was_shut, was_turned, was_back}
use Rattle.abt_facts.specs.Hop.{newest_of, held_of, is_open_at}
use Rattle.abt_facts.specs.Cells.{emitted_of, moment_of, cell_rate_of, after_last_of, last_arrival_of, taken_of}
use Rattle.abt_model.specs.declared.event.Event.{Event}
use Rattle.abt_model.specs.declared.event.Event.TheVariants.{Arrive, Told}
use Rattle.abt_model.specs.declared.outcome.Heard.TheVariants.{Raised}
use Rattle.abt_model.specs.declared.outcome.Outcome.{Outcome}
use Rattle.abt_model.specs.declared.outcome.Outcome.TheVariants.{Arrived, Requested, Answered, Told as HasTold}
use Rattle.abt_model.specs.Events.{AsksRate}
use Rattle.abt_model.specs.Past.{Past, facts_of}
use Rattle.abt_model.specs.Outcomes.{outcome_of}
use Rattle.abt_model.specs.Run.{facts_after}

-- It holds after every list of events over every net within the rules. As each prefix of a list is a list, it holds at every
-- moment of a run.
abbrev pub EveryPast : (Topology → Past → Type 0) → Type 0
EveryPast P = (net : Topology) (events : List Event) → IsWithinRules net → All AsksRate events → P net (facts_after net events)

-- a drop because source and port disagree; a message that was merely late isn't one
abbrev pub is_dispute : DropCause → Bool
is_dispute UnknownVc = true
is_dispute Stale = false
is_dispute Conflict = true
is_dispute FloorAbove = true

abbrev pub disputes : Outcome → Bool
disputes (Requested (Drop cause)) = is_dispute cause
disputes (Answered (DropBack cause)) = is_dispute cause
disputes outcome = false

-- No message is dropped because source and port disagree.
abbrev pub NeverDisputes : Topology → Past → Type 0
NeverDisputes net past = (event : Event) → disputes (outcome_of net past event) ≡ false

-- whether a yes to a number was sent anywhere, and whether a no was
abbrev pub YesWasSent : List Fact → ℕ → Type 0
YesWasSent facts s = (was_turned facts s ≡ true) ⊎ ((hop : ℕ) × (was_back facts s hop ≡ true))

abbrev pub NoWasSent : List Fact → ℕ → Type 0
NoWasSent facts s = (hop : ℕ) × (was_shut facts s hop ≡ true)

-- No number has both.
abbrev pub OneAnswerEach : Topology → Past → Type 0
OneAnswerEach net past = (c s : ℕ) → YesWasSent (facts_of c past) s → NoWasSent (facts_of c past) s → ⊥

-- Once a request was asked, the rate is at most its floor until a yes to it or to a later number is heard.
abbrev pub RatesWait : Topology → Past → Type 0
RatesWait net past =
    (c q : ℕ) → was_asked (facts_of c past) q ≡ true →
    (rate_of (facts_of c past) ≤ floor_of (facts_of c past) q) ⊎ ((h : ℕ) × (q ≤ h) × (yes_was_heard (facts_of c past) h ≡ true))

-- When a yes raises a source, each hop of its path has that number as its newest, and open.
abbrev pub YesStandsEverywhere : Topology → Past → Type 0
YesStandsEverywhere net past =
    (c s : ℕ) (conn : Conn) → conn_at net c ≡ Some conn → outcome_of net past (Told c s true) ≡ HasTold Raised →
    (hop : ℕ) → 1 ≤ hop → hop ≤ length conn.path →
    (newest_of (facts_of c past) hop ≡ s) × (is_open_at (facts_of c past) hop ≡ true)

-- Each cell that arrives is found conforming, and that is its verdict by the windows with the cells taken before it.
abbrev pub ArrivalsConform : Topology → Past → Type 0
ArrivalsConform net past =
    (c cell at : ℕ) (conn : Conn) (verdict : Verdict) → conn_at net c ≡ Some conn → outcome_of net past (Arrive c cell at) ≡ Arrived verdict →
    (verdict ≡ Conforming) × IsVerdictAt conn.tau (taken_of (facts_of c past)) at (held_of (facts_of c past) 1) verdict

-- Once cell n has arrived, the theoretical arrival time that stands for the cells taken is at most its emission, the greatest
-- delay and the spacing of its rate.
abbrev pub NextIsDue : Topology → Past → Type 0
NextIsDue net past =
    (c n tat : ℕ) (conn : Conn) → conn_at net c ≡ Some conn → after_last_of (facts_of c past) ≡ n + 1 →
    TatStandsFor (Some tat) (taken_of (facts_of c past)) →
    tat ≤ moment_of (facts_of c past) n + conn.delay + conn.tau + spacing_of (cell_rate_of (facts_of c past) n)

-- A spacing covers a source: it is at least the gap that is running, the spacing of the present rate, and that of the rate which an open
-- request asks for.
pub record Covers (facts : List Fact) (spacing : ℕ) : Type 0 where
  pub gap : gap_of facts ≤ spacing
  pub rate : counted (rate_of facts) ≤ spacing
  pub waiting : counted (open_ask facts (state_of facts)) ≤ spacing

-- The spacing that is in the store covers the source, whether it is up or down. So after a crash, whenever that comes, the hold-off of
-- the next start is at least each gap that was running.
abbrev pub StoreCovers : Topology → Past → Type 0
StoreCovers net past = (c : ℕ) → Covers (facts_of c past) (stored_of (facts_of c past)).spacing

-- Cells are 234 picoseconds apart at least, so their count stays in range.
abbrev pub CellsAreApart : Topology → Past → Type 0
CellsAreApart net past = (c : ℕ) → 234 * emitted_of (facts_of c past) ≤ next_of (facts_of c past)

-- An arrival that is enabled meets what a policer asks for: it isn't before the last one, its moment is in range, and a rate is held.
abbrev pub ArrivalsInRange : Topology → Past → Type 0
ArrivalsInRange net past =
    (c cell at : ℕ) (conn : Conn) (verdict : Verdict) → conn_at net c ≡ Some conn → outcome_of net past (Arrive c cell at) ≡ Arrived verdict →
    (last_arrival_of (facts_of c past) ≤ at) × (at ≤ arrive_max) × (held_of (facts_of c past) 1 ≢ 0)
