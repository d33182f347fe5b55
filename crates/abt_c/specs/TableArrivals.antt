-- The cells of a connection at its ingress, a port with a table (docs/C.md, "A port with a table").
use Rattle.std.specs.Prelude.{◌≡◌, ◌≢◌, ◌↔◌, ◌⊎◌, ℕ, zero, suc, ◌<◌, ◌≤◌, ◌^◌, List, slice_index, slice_index_or}
use Rattle.abt_rate.specs.Limits.{arrive_max}
use Rattle.abt_cell.specs.Channel.{Channel}
use Rattle.abt_gcra.specs.Policing.{policed}
use Rattle.abt_node.specs.declared.reply.DropCause.TheVariants.{UnknownVc}
use Rattle.abt_c.specs.Outcome.{verdict_number, drop_number, first_fault, no_state, wrong_length, vpi_range, clock_back, time_range, damaged, not_ingress}
use Rattle.abt_c.specs.Ports.{held_in}
use Rattle.abt_c.specs.States.{policing_of, policer_kind, IsPolicing}
use Rattle.abt_c.specs.Tables.{IsTable, IsRowOf, IsUnknown, HasRow, channel_of, row_of, policer_of}
use Rattle.abt_c.specs.declared.state.AbtPolicing.{AbtPolicing}
use Rattle.abt_c.specs.declared.table_burst.AbtArrival.{AbtArrival}
use Rattle.abt_c.specs.declared.table_state.AbtTable.{AbtTable}

abbrev pub vc_of : AbtArrival → Channel
vc_of a = record { vpi = a.vpi; vci = a.vci }

-- A cell met the policer of its connection, which holds a rate. Only at an ingress there is one.
pub record IsJudged (old new : AbtPolicing) (held at outcome : ℕ) : Type 0 where
  pub not_ingress : (outcome ≡ not_ingress) ↔ (¬ IsPolicing policer_kind old)
  pub clock_back : (outcome ≡ clock_back) ↔ (IsPolicing policer_kind old × (at < old.clock))
  pub time_range : (outcome ≡ time_range) ↔ (IsPolicing policer_kind old × (old.clock ≤ at) × (arrive_max < at))
  pub ok : (outcome < first_fault) ↔ (IsPolicing policer_kind old × (old.clock ≤ at) × (at ≤ arrive_max))
  pub value :
      outcome < first_fault →
      IsPolicing policer_kind new ×
      (let answer = policed (policing_of old) at held in (outcome ≡ verdict_number answer.0) × (policing_of new ≡ answer.1))
  pub same : first_fault ≤ outcome → new ≡ old

-- A cell came to a port with a table: to the policer of its row, if there is one.
pub record IsArrival (cell : AbtArrival) (old new : AbtTable) (outcome : ℕ) : Type 0 where
  pub kind : (outcome ≢ no_state) × (outcome ≢ wrong_length)
  pub vpi : (outcome ≡ vpi_range) ↔ (2 ^ 12 ≤ cell.vpi)
  pub unknown : IsTable old → (outcome ≡ drop_number UnknownVc) ↔ ((cell.vpi < 2 ^ 12) × IsUnknown old (vc_of cell))
  pub whole : IsTable old → outcome ≢ damaged
  pub judged :
      IsTable old → (i : ℕ) → cell.vpi < 2 ^ 12 → IsRowOf old (vc_of cell) i →
      IsJudged (policer_of old.policers i) (policer_of new.policers i) (held_in (row_of old.rows i)) cell.at outcome
  pub known : outcome < first_fault → outcome ≢ drop_number UnknownVc → HasRow old (vc_of cell)
  pub rest : new ≡ record old { policers = new.policers }
  pub others : (i : ℕ) → channel_of old.rows i ≢ vc_of cell → policer_of new.policers i ≡ policer_of old.policers i
  pub same : (first_fault ≤ outcome) ⊎ (outcome ≡ drop_number UnknownVc) → new ≡ old

abbrev pub arrival_of : List AbtArrival → ℕ → AbtArrival
arrival_of cells i = slice_index_or cells i (record { at = 0; vpi = 0; vci = 0 })

-- The first n cells of a burst came to a port, one after the other, and each was carried out with the outcome that is written at its place.
unfoldable pub AreArrivals : (old : AbtTable) → List AbtArrival → (outcomes : List ℕ) → (n : ℕ) → (new : AbtTable) → Type 0
AreArrivals old cells outcomes zero new = new ≡ old
AreArrivals old cells outcomes (suc n) new =
    (t : AbtTable) × AreArrivals old cells outcomes n t × IsArrival (arrival_of cells n) t new (slice_index outcomes n)
    × (slice_index outcomes n < first_fault)
