-- What an event changes of what the ports of its connection's path hold for it, and which of them are asked after it.
use Rattle.std.proofs.Common.{◌≡◌, ◌≢◌, ℕ, ◌+◌, ◌-◌, ◌<◌, ◌≤◌, Bool, inl, inr, true, false, not, List, refl, sym, ap, ◌∙◌, arith, length}
use Rattle.std.specs.Prelude.{Option, None, Some, option_map, option_and_then, is_some, unwrap_or, nat_le, slice_get, slice_set}
use Rattle.std.proofs.lemmas.Bool.{and_parts, leb-true, cases_Bool}
use Rattle.std.proofs.lemmas.Option.{slice_get-get_or}
use Rattle.abt_cell.specs.Channel.{Channel}
use Rattle.abt_net.specs.declared.conn.Conn.{Conn}
use Rattle.abt_node.specs.Table.{Table, held_at, connection_at}
use Rattle.abt_model.specs.declared.event.Event.{Event}
use Rattle.abt_model.specs.declared.target.Target.{Target}
use Rattle.abt_model.specs.declared.target.Target.TheVariants.{Hop}
use Rattle.abt_model.specs.Targets.{target_of, hop_met_by}
use Rattle.abt_safety.specs.Holding.{held_by_port, looked_at, looked_after, ChangesOne}
use Rattle.abt_safety.specs.declared.holding.Shaped.{Shaped}
use Rattle.abt_world.specs.Looked.{hops_asked}
use Rattle.abt_world.specs.Touches.{port_visited, visited, Rewrites, Touches}
use Rattle.abt_world.proofs.Tallying.{one_at_most}
use Rattle.abt_world.proofs.Serving.{port_tells, set_other}

-- a port that an event comes to is one of the path
on_target : (path : List ℕ) (t : Target) (p : ℕ) → port_visited path t ≡ Some p → (i : ℕ) × (slice_get path i ≡ Some p)
on_target path (Hop c event) p has =
    let hop = hop_met_by event in
    let tells = port_tells path hop p has in
    let parts = and_parts (nat_le 1 hop) (nat_le hop (length path)) tells.0 in
    let first = leb-true 1 hop parts.0 in
    let last = leb-true hop (length path) parts.1 in
    (hop - 1, slice_get-get_or path (hop - 1) 0 (omega (arith, first, last)) ∙ ap Some (sym tells.1))
on_target path other p has = absurd (let e = has in cc)

others_keep : (port : Option ℕ) (vc : Channel) (before after : List Table) → Rewrites port before after → (q : ℕ) → port ≢ Some q →
    held_by_port vc after q ≡ held_by_port vc before q
others_keep None vc before after same q other = ap (λ (ps : List Table). held_by_port vc ps q) same
others_keep (Some p) vc before after is q other =
    ap (λ (o : Option Table). unwrap_or (option_and_then (λ table. option_map held_at (connection_at table vc)) o) 0)
    (ap (λ (ps : List Table). slice_get ps q) is.1 ∙ set_other before p q is.0 (λ e. other (ap Some e)))

pub changes_one : (conn : Conn) (e : Event) (before after : List Table) → Touches (visited conn e) conn.vc before after →
    ChangesOne (visited conn e) conn.vc conn.path before after
changes_one conn e before after touches = record {
  on_path = on_target conn.path (target_of e);
  others = others_keep (visited conn e) conn.vc before after touches.0;
}

-- how many hops are asked where each held the rate before, and does after
pub asked_are : (before : Shaped) (was is rate : ℕ) (vc : Channel) (ports : List Table) (path : List ℕ) (port : Option ℕ) → before.is_held ≡ true → before.rate ≡ was → rate ≡ is →
    looked_at rate vc ports path ≡ length path → looked_after before rate vc ports path port ≡ hops_asked (length path) was is port
asked_are before was is rate vc ports path port held earlier present all = rw (held, all, earlier, present) refl

twice : (b : Bool) → not (not b) ≡ b
twice true = refl
twice false = refl

-- what was known before of a connection none of whose hops held less, or some
pub was_held : (above held is_held : Bool) → above ≡ not held → is_held ≡ not above → is_held ≡ held
was_held above held is_held marked told = told ∙ ap not marked ∙ twice held

pub hops_few : (hops before after : ℕ) (port : Option ℕ) → hops ≤ 16 → hops_asked hops before after port ≤ 16
hops_few hops before after port few = elim (cases_Bool (nat_le after before)) [
  | inl low ↦ rw low (omega (arith, one_at_most (is_some port)))
  | inr raised ↦ rw raised few
]
