-- Which fact may follow which facts of one connection. All proofs on connections go by induction on such a list.
use Rattle.std.proofs.Common.{◌≡◌, ◌≢◌, ℕ, ◌+◌, ◌≤◌, ◌<◌, ◌⊎◌, true, false, List, [], ◌∷◌, length, min}
use Rattle.abt_rate.specs.Rate.{IsRate}
use Rattle.abt_net.specs.declared.conn.Conn.{Conn}
use Rattle.abt_facts.specs.declared.fact.Fact.{Fact}
use Rattle.abt_facts.specs.declared.fact.Fact.TheVariants.{Started, Crashed, Stored, Asked, Heard, Delivered, Passed, Shut, Turned, Back, Emitted, Arrived}
use Rattle.abt_facts.specs.Requests.{was_asked, floor_of}
use Rattle.abt_facts.specs.Source.{Asking, state_of, rate_of, stored_of, last_of, clock_of, next_of, writes, written_for}
use Rattle.abt_facts.specs.Sent.{was_delivered, was_passed, was_shut, was_turned, was_back}
use Rattle.abt_facts.specs.Hop.{newest_of, held_of}
use Rattle.abt_facts.specs.Cells.{emitted_of, moment_of, fence_of, last_arrival_of, verdict_at}
use Rattle.abt_rate.specs.Limits.{emit_max, number_max, start_max}

-- of a connection: its hops, the least delay of its access line, and by how much that varies
pub record Route : Type 0 where
  pub hops : ℕ
  pub delay : ℕ
  pub tau : ℕ

abbrev pub route_of : Conn → Route
route_of conn = record { hops = length conn.path; delay = conn.delay; tau = conn.tau }

-- request s is at hop j
abbrev pub IsAtHop : List Fact → ℕ → ℕ → Type 0
IsAtHop fs s j = ((j ≡ 1) × (was_asked fs s ≡ true)) ⊎ ((i : ℕ) × (j ≡ i + 1) × (1 ≤ i) × (was_passed fs s i ≡ true))

abbrev pub IsYesAtHop : ℕ → List Fact → ℕ → ℕ → Type 0
IsYesAtHop k fs s j = ((j ≡ k) × (was_turned fs s ≡ true)) ⊎ (was_back fs s (j + 1) ≡ true)

-- the fact may be added to these, which are the newest first
abbrev pub MayFollow : Route → List Fact → Fact → Type 0
MayFollow l fs (Started t kept) = (kept ≡ stored_of fs) × (clock_of fs ≤ t) × (t ≤ start_max)
MayFollow l fs Crashed = Unit {0}
MayFollow l fs (Stored kept) = (ask : ℕ) × (kept ≡ written_for fs ask) × (writes fs ask ≡ true) × (last_of fs + 1 ≤ number_max) × IsRate ask
MayFollow l fs (Asked s floor ask mark) = (s ≡ last_of fs + 1) × (s ≤ (stored_of fs).number) × (floor ≡ min (rate_of fs) ask) × (mark ≡ emitted_of fs) × IsRate ask × (writes fs ask ≡ true → stored_of fs ≡ written_for fs ask)
MayFollow l fs (Heard s true) = (state_of fs ≡ Asking s) × (was_back fs s 1 ≡ true)
MayFollow l fs (Heard s false) = (state_of fs ≡ Asking s) × (was_shut fs s 1 ≡ true)
MayFollow l fs (Delivered s) = was_asked fs s ≡ true
MayFollow l fs (Passed s j) = IsAtHop fs s j × (1 ≤ j) × (j ≤ l.hops) × ((newest_of fs j < s) ⊎ ((newest_of fs j ≡ s) × (was_shut fs s j ≡ false))) × (j ≡ 1 → was_delivered fs s ≡ true)
MayFollow l fs (Shut s j) = (1 ≤ j) × (j ≤ l.hops) × ((IsAtHop fs s j × (newest_of fs j < s) × (floor_of fs s ≤ held_of fs j) × (j ≡ 1 → was_delivered fs s ≡ true)) ⊎ ((was_shut fs s j ≡ true) ⊎ ((was_shut fs s (j + 1) ≡ true) × (newest_of fs j ≡ s))))
MayFollow l fs (Turned s) = was_passed fs s l.hops ≡ true
MayFollow l fs (Back s j) = IsYesAtHop l.hops fs s j × (1 ≤ j) × (j ≤ l.hops)
MayFollow l fs (Emitted n t r) = (n ≡ emitted_of fs) × (r ≡ rate_of fs) × (r ≢ 0) × (clock_of fs ≤ t) × (next_of fs ≤ t) × (t ≤ emit_max)
MayFollow l fs (Arrived n a r v) = (n < emitted_of fs) × (fence_of fs ≤ n) × (moment_of fs n + l.delay ≤ a) × (a ≤ moment_of fs n + l.delay + l.tau) × (last_arrival_of fs ≤ a) × (r ≡ held_of fs 1) × (v ≡ verdict_at l.tau fs a r)

-- each fact was allowed by those before it
abbrev pub IsLawful : Route → List Fact → Type 0
IsLawful l [] = Unit {0}
IsLawful l (f ∷ fs) = MayFollow l fs f × IsLawful l fs
