-- A port that is given the connections of a net one by one knows none of them before, and has room for each.
use Rattle.std.proofs.Common.{◌≡◌, ◌≢◌, ℕ, suc, ◌+◌, ◌<◌, ◌≤◌, List, [], ◌∷◌, length, drop, inl, inr, ap, sym, ◌∙◌, arith}
use Rattle.std.proofs.lemmas.List.{get_or-drop, get_or_default, length-drop}
use Rattle.std.specs.Prelude.{Option, Some, None, slice_index_or, AllPairs}
use Rattle.std.specs.FinMap as map
use Rattle.std.proofs.lemmas.Bool.{cases_Bool, cond-true, cond-false}
use Rattle.abt_cell.specs.Channel.{Channel, channel_cmp, same_channel}
use Rattle.abt_cell.proofs.ChannelLemmas.{channel_cmp_total, same_channel_tied, same_channel-is}
use Rattle.abt_net.specs.declared.conn.Conn.{Conn}
use Rattle.abt_node.specs.Table.{Table, Connection, connection_at, with_connection, opening}
use Rattle.abt_net.specs.Paths.{policer_at}
use Rattle.abt_world.specs.Opening.{joined_with, joined, opening_table}

-- another connection stays unknown
inserted_other : (table : Table) (vc other : Channel) (kept : Connection) → vc ≢ other → connection_at table other ≡ None →
    connection_at (with_connection table vc kept) other ≡ None
inserted_other table vc other kept differ none =
    map.get-insert channel_cmp_total table.connections vc kept other
    ∙ elim (cases_Bool (same_channel other vc)) [
      | inl same ↦ absurd (differ (sym (same_channel-is other vc same)))
      | inr away ↦ cond-false _ _ _ (sym (same_channel_tied other vc) ∙ away) ∙ none
    ]

joined_other : (table : Table) (conn : Conn) (other : Channel) → conn.vc ≢ other → connection_at table other ≡ None →
    connection_at (joined table conn) other ≡ None
joined_other table conn other differ none = joined_with_other (policer_at conn table.id)
  where
    joined_with_other : (policer : Option (Option ℕ)) → connection_at (joined_with table conn.vc policer) other ≡ None
    joined_with_other None = none
    joined_with_other (Some tau) = inserted_other table conn.vc other (opening tau) differ none

-- a connection that is none of these isn't known
pub opening_unknown : (id capacity : ℕ) (conns : List Conn) (other : Channel) →
    ((k : ℕ) (d : Conn) → k < length conns → (slice_index_or conns k d).vc ≢ other) →
    connection_at (opening_table id capacity conns) other ≡ None
opening_unknown id capacity [] other differ = map.get-empty channel_cmp other
opening_unknown id capacity (conn ∷ conns) other differ =
    joined_other (opening_table id capacity conns) conn other (differ 0 conn (omega arith))
    (opening_unknown id capacity conns other (λ k d within. differ (suc k) d (omega arith)))

inserted_len : (table : Table) (vc : Channel) (kept : Connection) (n : ℕ) → map.len table.connections ≤ n →
    map.len (with_connection table vc kept).connections ≤ suc n
inserted_len table vc kept n few = elim (cases_Bool (map.contains_key table.connections vc)) [
  | inl known ↦ let e = map.len-insert channel_cmp_total table.connections vc kept ∙ cond-true _ _ _ known in omega arith
  | inr new ↦ let e = map.len-insert channel_cmp_total table.connections vc kept ∙ cond-false _ _ _ new in omega arith
]

joined_few : (table : Table) (vc : Channel) (policer : Option (Option ℕ)) (n : ℕ) → map.len table.connections ≤ n →
    map.len (joined_with table vc policer).connections ≤ suc n
joined_few table vc None n few = omega arith
joined_few table vc (Some tau) n few = inserted_len table vc (opening tau) n few

-- there are no more than were given
pub opening_few : (id capacity : ℕ) (conns : List Conn) → map.len (opening_table id capacity conns).connections ≤ length conns
opening_few id capacity [] = omega (arith, map.len-empty channel_cmp Connection)
opening_few id capacity (conn ∷ conns) =
    let table = opening_table id capacity conns in
    let few = opening_few id capacity conns in
    joined_few table conn.vc (policer_at conn table.id) (length conns) few

-- each of these connections has a channel of its own
abbrev pub OwnChannels : List Conn → Type 0
OwnChannels conns = AllPairs (λ (a b : Conn). a.vc ≢ b.vc) conns

-- no connection from a place on has the channel of an earlier one
pub later_others : (conns : List Conn) (before place : ℕ) (conn : Conn) → OwnChannels conns → before < place →
    conn ≡ slice_index_or conns before conn → (k : ℕ) (d : Conn) → k < length (drop place conns) →
    (slice_index_or (drop place conns) k d).vc ≢ conn.vc
later_others conns before place conn own earlier here k d within same =
    let few = length-drop place conns in
    let there : slice_index_or (drop place conns) k d ≡ slice_index_or conns (place + k) conn =
    get_or-drop place conns k d ∙ get_or_default conns (place + k) d conn (omega arith) in
    own before (place + k) conn (omega arith) (omega arith)
    (ap (λ (c : Conn). c.vc) (sym here) ∙ sym same ∙ ap (λ (c : Conn). c.vc) there)
