-- What a shaper emits keeps the windows of a policer.
use Rattle.std.proofs.Common.{◌≡◌, ℕ, ◌+◌, ◌<◌, ◌≤◌, List, [], ◌∷◌, arith, ap, refl}
use Rattle.std.proofs.lemmas.List.Elements.{All-head, All-tail}
use Rattle.std.proofs.Math.Nat.{mul-le-mul_left}
use Rattle.abt_rate.specs.Rate.{spacing_of}
use Rattle.abt_rate.proofs.Rates.{spacing_least}
use Rattle.abt_gcra.specs.Windows.{Conforms}
use Rattle.abt_gcra.specs.Passage.{Passage, AreShaped, AreDelayed, AreHeldFor, arrivals_of}
use Rattle.abt_gcra.proofs.WindowsLemmas.{KeepsWindows, keeps_none, keeps_more, keeps_within, conforms_none, conforms_more}

-- a greater rate has no greater spacing
pub spacing_falls : (rate greater : ℕ) → 0 < rate → rate ≤ greater → spacing_of greater ≤ spacing_of rate
spacing_falls rate greater positive le =
    let less = spacing_least rate positive in
    let more = spacing_least greater (omega arith) in
    let kept = less.holds in
    let product = mul-le-mul_left (spacing_of rate) le in
    more.least (spacing_of rate) (omega arith)

-- shaped cells that left, whose next one leaves at a moment or later, keep the windows with it
abbrev NextAfter : ℕ → List Passage → Type 0
NextAfter next cells = (older : List Passage) (newest : Passage) → cells ≡ newest ∷ older → newest.emitted + spacing_of newest.rate ≤ next

shaped_older : (cell : Passage) (cells : List Passage) → AreShaped (cell ∷ cells) → AreShaped cells
shaped_older cell cells shaped newer older later earlier is = shaped (cell ∷ newer) older later earlier (ap (λ rest. cell ∷ rest) is)

shaped_next : (cell : Passage) (cells : List Passage) → AreShaped (cell ∷ cells) → NextAfter cell.emitted cells
shaped_next cell cells shaped older newest is = shaped [] older cell newest (ap (λ rest. cell ∷ rest) is)

-- what the line and the policer do to one cell
abbrev IsOnTime : (delay tau : ℕ) → Passage → Type 0
IsOnTime delay tau cell = (cell.emitted + delay ≤ cell.arrived) × (cell.arrived ≤ cell.emitted + delay + tau)

abbrev IsHeldFor : Passage → Type 0
IsHeldFor cell = (0 < cell.rate) × (cell.rate ≤ cell.held)

shaped_keep : (delay tau next : ℕ) (cells : List Passage) → NextAfter next cells → AreShaped cells → AreDelayed delay tau cells → AreHeldFor cells → KeepsWindows (next + delay + tau) (arrivals_of cells)
shaped_keep delay tau next [] before shaped delayed held = keeps_none (next + delay + tau)
shaped_keep delay tau next (cell ∷ cells) before shaped delayed held =
    let older = shaped_keep delay tau cell.emitted cells (shaped_next cell cells shaped) (shaped_older cell cells shaped) (All-tail (IsOnTime delay tau) cell cells delayed) (All-tail IsHeldFor cell cells held) in
    let on_time : IsOnTime delay tau cell = All-head (IsOnTime delay tau) cell cells delayed in
    let held_for : IsHeldFor cell = All-head IsHeldFor cell cells held in
    let falls = spacing_falls cell.rate cell.held held_for.0 held_for.1 in
    let leaves = before cells cell refl in
    let keeps = keeps_more (cell.emitted + delay + tau) (record { at = cell.arrived; spacing = spacing_of cell.held }) (arrivals_of cells) older on_time.1 in
    keeps_within _ _ _ keeps (omega arith)

pub shaped_conform : (delay tau : ℕ) (cells : List Passage) → AreShaped cells → AreDelayed delay tau cells → AreHeldFor cells → Conforms tau (arrivals_of cells)
shaped_conform delay tau [] shaped delayed held = conforms_none tau
shaped_conform delay tau (cell ∷ cells) shaped delayed held =
    let shaped_before = shaped_older cell cells shaped in
    let delayed_before = All-tail (IsOnTime delay tau) cell cells delayed in
    let held_before = All-tail IsHeldFor cell cells held in
    let on_time : IsOnTime delay tau cell = All-head (IsOnTime delay tau) cell cells delayed in
    let older = shaped_keep delay tau cell.emitted cells (shaped_next cell cells shaped) shaped_before delayed_before held_before in
    conforms_more tau (record { at = cell.arrived; spacing = spacing_of cell.held }) (arrivals_of cells) (shaped_conform delay tau cells shaped_before delayed_before held_before) (keeps_within _ _ _ older (omega arith))
