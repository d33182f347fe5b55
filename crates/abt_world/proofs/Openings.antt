-- A port that was given its connections one by one has the table of the empty past.
use Rattle.std.proofs.Common.{◌≡◌, ℕ, ◌+◌, List, [], ◌∷◌, inl, inr, refl, sym, ap, ◌∙◌}
use Rattle.std.specs.Prelude.{◌==◌, Some, None, slice_index, if◌then◌else◌}
use Rattle.std.specs.FinMap.{from_entries}
use Rattle.std.proofs.lemmas.Bool.{cases_Bool, cond-true, cond-false}
use Rattle.abt_net.specs.declared.conn.Conn.{Conn}
use Rattle.abt_net.specs.Topology.{Topology}
use Rattle.abt_node.specs.Table.{Table, opening, with_connection}
use Rattle.abt_net.specs.Paths.{hop_of}
use Rattle.abt_model.specs.PortTable.{policing_by, kept_at, kept_from, port_table}
use Rattle.abt_world.specs.Opening.{joined_with, joined, opening_table}

-- a connection before its first request
first_kept : (conn : Conn) (hop : ℕ) → opening (if hop == 1 then Some conn.tau else None) ≡ kept_at conn [] hop
first_kept conn hop = elim (cases_Bool (hop == 1)) [
  | inl first ↦ ap (λ b. opening (if b then Some conn.tau else None)) first ∙ sym (ap (λ b. record (kept_at conn [] hop) { policing = if b then Some (policing_by conn.tau []) else None }) first)
  | inr later ↦ ap (λ b. opening (if b then Some conn.tau else None)) later ∙ sym (ap (λ b. record (kept_at conn [] hop) { policing = if b then Some (policing_by conn.tau []) else None }) later)
]

abbrev table_from : (id capacity c : ℕ) → List Conn → Table
table_from id capacity c conns = record { id = id; capacity = capacity; connections = from_entries (kept_from c conns [] id) }

opened : (id capacity c : ℕ) (conns : List Conn) → opening_table id capacity conns ≡ table_from id capacity c conns
opened id capacity c [] = refl
opened id capacity c (conn ∷ conns) =
    let rest = opened id capacity (c + 1) conns in
    ap (λ t. joined t conn) rest ∙ elim (cases_Bool (hop_of conn.path id == 0)) [
      | inl away ↦ ap (joined_with (table_from id capacity (c + 1) conns) conn.vc) (cond-true _ _ _ away) ∙ sym (ap (λ es. record { id = id; capacity = capacity; connections = from_entries es }) (cond-true _ _ _ away))
      | inr through ↦ ap (joined_with (table_from id capacity (c + 1) conns) conn.vc) (cond-false _ _ _ through)
          ∙ ap (with_connection (table_from id capacity (c + 1) conns) conn.vc) (first_kept conn (hop_of conn.path id))
          ∙ sym (ap (λ es. record { id = id; capacity = capacity; connections = from_entries es }) (cond-false _ _ _ through))
    ]

-- it is the net's
pub opening_table-is : (net : Topology) (p : ℕ) → opening_table p (slice_index net.capacities p) net.conns ≡ port_table net [] p
opening_table-is net p = opened p (slice_index net.capacities p) 0 net.conns
