-- The cells of a connection, by the connection's facts, the newest first (docs/RULES.md, "Cells"). They are numbered from 0.
use Rattle.std.specs.Prelude.{ℕ, ◌+◌, ◌==◌, ◌&&◌, nat_le, Bool, List, [], ◌∷◌, if◌then◌else◌, max}
use Rattle.abt_rate.specs.Rate.{spacing_of}
use Rattle.abt_gcra.specs.declared.verdict.Verdict.{Verdict}
use Rattle.abt_gcra.specs.Windows.{Arrival, taken_after}
use Rattle.abt_gcra.specs.Finding as finding
use Rattle.abt_facts.specs.declared.fact.Fact.{Fact}
use Rattle.abt_facts.specs.declared.fact.Fact.TheVariants.{Delivered, Emitted, Arrived}
use Rattle.abt_facts.specs.Requests.{mark_of}

-- how many cells were emitted
abbrev pub emitted_of : List Fact → ℕ
emitted_of [] = 0
emitted_of (Emitted cell at rate ∷ facts) = emitted_of facts + 1
emitted_of (fact ∷ facts) = emitted_of facts

-- a part of the emission of a cell, of its moment and its rate; 0 if it wasn't emitted
abbrev pub emitted_under : ((at rate : ℕ) → ℕ) → List Fact → ℕ → ℕ
emitted_under part [] n = 0
emitted_under part (Emitted cell at rate ∷ facts) n = if cell == n then part at rate else emitted_under part facts n
emitted_under part (fact ∷ facts) n = emitted_under part facts n

-- the moment at which a cell was emitted, and the rate at which it was shaped
abbrev pub moment_of : List Fact → ℕ → ℕ
moment_of facts n = emitted_under (λ at rate. at) facts n

abbrev pub cell_rate_of : List Fact → ℕ → ℕ
cell_rate_of facts n = emitted_under (λ at rate. rate) facts n

-- a part of the last arrival, of its cell and its moment; 0 if there was none
abbrev pub last_arrived : ((cell at : ℕ) → ℕ) → List Fact → ℕ
last_arrived part [] = 0
last_arrived part (Arrived cell at rate verdict ∷ facts) = part cell at
last_arrived part (fact ∷ facts) = last_arrived part facts

-- the number behind the last cell that arrived, 0 if none did, and the moment of the last arrival
abbrev pub after_last_of : List Fact → ℕ
after_last_of facts = last_arrived (λ cell at. cell + 1) facts

abbrev pub last_arrival_of : List Fact → ℕ
last_arrival_of facts = last_arrived (λ cell at. at) facts

-- the greatest mark of a request that came to the first hop
abbrev pub delivered_mark_of : List Fact → ℕ
delivered_mark_of [] = 0
delivered_mark_of (Delivered seq ∷ facts) = max (mark_of facts seq) (delivered_mark_of facts)
delivered_mark_of (fact ∷ facts) = delivered_mark_of facts

-- No cell below the fence can arrive any more: cells stay in order, and no request overtakes a cell that left before it.
abbrev pub fence_of : List Fact → ℕ
fence_of facts = max (after_last_of facts) (delivered_mark_of facts)

-- whether a cell may be at the first hop at a moment, where the way there takes at least this delay, and at most tau more
abbrev pub is_in_time : (delay tau : ℕ) → List Fact → (cell at : ℕ) → Bool
is_in_time delay tau facts cell at =
    nat_le (moment_of facts cell + delay) at && nat_le at (moment_of facts cell + delay + tau)

-- the cells that were taken at the first hop, the last first, each with the spacing of the rate that was held then
abbrev pub taken_of : List Fact → List Arrival
taken_of [] = []
taken_of (Arrived cell at rate verdict ∷ facts) = taken_after (taken_of facts) (record { at = at; spacing = spacing_of rate }) verdict
taken_of (fact ∷ facts) = taken_of facts

-- the verdict on a cell that comes at a moment where a rate is held: conforming exactly if it keeps all windows with the cells taken
abbrev pub verdict_at : ℕ → List Fact → (at held : ℕ) → Verdict
verdict_at tau facts at held = finding.verdict_at tau (taken_of facts) at held
