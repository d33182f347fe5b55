-- States of a net's ports have histories of the net's ports.
use Rattle.std.proofs.Common.{◌≡◌, ℕ, ◌<◌, ◌≤◌, ◌⊎◌, inl, inr, cond, List, [], ◌∷◌, length, get_or, All, Some, None, sym, ap, subst, ◌∙◌, arith}
use Rattle.std.specs.Prelude.{slice_get}
use Rattle.std.specs.Option.{option_map}
use Rattle.std.proofs.lemmas.Bool.{lt-ltb, le-ltb}
use Rattle.std.proofs.lemmas.List.{length-map, get_or-map}
use Rattle.std.proofs.lemmas.Option.{slice_get-map, slice_get-get_or, slice_get_past, none-some, same_Some}
use Rattle.abt_net.specs.Topology.{Topology}
use Rattle.abt_model.specs.PortTable.{port_table}
use Rattle.abt_journal.specs.Journaled.{Journaled}
use Rattle.abt_journal.specs.Replay.{IsHistory}
use Rattle.abt_journal.specs.Gathered.{journals_of, journal_at}
use Rattle.abt_journal.specs.Foreign.{opening_of, openings_of, AreOfNet, AreHistories}

-- the table of a port that the net has, and of one that it doesn't have
opening_within : (net : Topology) (p : ℕ) → p < length net.capacities → opening_of net p ≡ Some (port_table net [] p)
opening_within net p below = ap (λ b. cond b (Some (port_table net [] p)) None) (lt-ltb p (length net.capacities) below)

opening_past : (net : Topology) (p : ℕ) → length net.capacities ≤ p → opening_of net p ≡ None
opening_past net p past = ap (λ b. cond b (Some (port_table net [] p)) None) (le-ltb p (length net.capacities) past)

-- the table of a state at a place, and past the last
state_at : (states : List Journaled) (p : ℕ) (d : Journaled) → p < length states → slice_get (openings_of states) p ≡ Some (get_or states p d).opening
state_at states p d below =
    slice_get-map (λ (x : Journaled). x.opening) states p ∙ ap (option_map (λ (x : Journaled). x.opening)) (slice_get-get_or states p d below)

state_past : (states : List Journaled) (p : ℕ) → length states ≤ p → slice_get (openings_of states) p ≡ None
state_past states p past =
    slice_get-map (λ (x : Journaled). x.opening) states p ∙ ap (option_map (λ (x : Journaled). x.opening)) (slice_get_past states p past)

below_or_past : (m n : ℕ) → (m < n) ⊎ (n ≤ m)
below_or_past m n = grind arith

some_state : (states : List Journaled) (p : ℕ) → p < length states → Journaled
some_state [] p below = absurd (omega arith)
some_state (s ∷ states) p below = s

no_more_ports : (net : Topology) (states : List Journaled) → AreOfNet net states → length net.capacities ≤ length states
no_more_ports net states are = elim (below_or_past (length states) (length net.capacities)) [
  | inl below ↦ absurd (none-some (port_table net [] (length states)) (sym (state_past states (length states) (omega arith)) ∙ are (length states) ∙ opening_within net (length states) below))
  | inr past ↦ past
]

no_more_states : (net : Topology) (states : List Journaled) → AreOfNet net states → length states ≤ length net.capacities
no_more_states net states are = elim (below_or_past (length net.capacities) (length states)) [
  | inl below ↦ (
      let p = length net.capacities in
      let d = some_state states (length net.capacities) below in
      absurd (none-some (get_or states p d).opening (sym (opening_past net p (omega arith)) ∙ sym (are p) ∙ state_at states p d below)))
  | inr past ↦ past
]

as_many : (net : Topology) (states : List Journaled) → AreOfNet net states → length states ≡ length net.capacities
as_many net states are = omega (arith, no_more_ports net states are, no_more_states net states are)

history_at : (net : Topology) (states : List Journaled) (p : ℕ) (d : Journaled) → AreOfNet net states → All (λ (s : Journaled). IsHistory s.opening s.entries) states → p < length states
    → IsHistory (port_table net [] p) (journal_at (journals_of states) p)
history_at net states p d are all below =
    let opening : (get_or states p d).opening ≡ port_table net [] p =
    same_Some _ _ (sym (state_at states p d below) ∙ are p ∙ opening_within net p (omega (arith, as_many net states are))) in
    let journal : journal_at (journals_of states) p ≡ (get_or states p d).entries = get_or-map (λ (s : Journaled). s.entries) states p d [] below in
    subst (λ t. IsHistory t (journal_at (journals_of states) p)) opening
    (subst (λ es. IsHistory (get_or states p d).opening es) (sym journal) (all p d below))

-- the journals are histories of the net's ports
pub are_histories : (net : Topology) (states : List Journaled) → AreOfNet net states → All (λ (s : Journaled). IsHistory s.opening s.entries) states → AreHistories net (journals_of states)
are_histories net states are all =
    let long : length (journals_of states) ≡ length states = length-map states (λ (s : Journaled). s.entries) in record {
      ports = long ∙ as_many net states are;
      each = λ p below. (
          let within : p < length states = omega arith in
          history_at net states p (some_state states p within) are all within);
    }
