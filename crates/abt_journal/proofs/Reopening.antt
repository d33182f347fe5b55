-- The table that a port had at first is found in the table that it has: an input leaves the connections, and their tau.
use Rattle.std.proofs.Common.{◌≡◌, ◌≢◌, ℕ, Bool, true, false, cond, ◌&&◌, List, [], ◌∷◌, map, length, Option, None, Some, refl, sym, ap, subst, ◌∙◌, ◌==◌}
use Rattle.std.specs.Option.{option_map}
use lib.Dec.{T}
use Rattle.std.proofs.lemmas.List.{length-map}
use Rattle.std.specs.Ordering.{eq_by_cmp, is_lt}
use Rattle.std.specs.FinMap.{len, entries, entries_sorted, from_entries, from_sorted, find, is_sorted, get-entries, get-from_entries, get-from_sorted, entries-from_sorted, len-entries, same_map}
use Rattle.std.specs.FinMap.Entries.{below_all}
use Rattle.abt_cell.specs.Channel.{Channel, channel_cmp, same_channel}
use Rattle.abt_cell.proofs.ChannelLemmas.{channel_cmp_total, channel_cmp-IsAntisymmetric, same_channel-is, same_channel-refl}
use Rattle.abt_gcra.specs.Policing.{Policing, policed, checked}
use Rattle.abt_node.specs.Table.{Connection, Table, opening, connection_at, with_connection, held_at, policing_after, table_by, table_by_answer, table_by_arrival}
use Rattle.abt_node.proofs.TableLemmas.{connection_at-with_connection, connection_at-other}
use Rattle.abt_journal.specs.declared.input.PortInput.{PortInput}
use Rattle.abt_journal.specs.declared.input.PortInput.TheVariants.{Request, Answer, Arrive, Capacity}
use Rattle.abt_journal.specs.Opening.{tau_of, as_added, IsOpening, reopened}
use Rattle.abt_journal.specs.Replay.{table_after}
use Rattle.abt_journal.proofs.Openings.{tau_of-opening}
use Rattle.abt_cell.specs.Message.{Terms, Reply}

abbrev added_entry : Channel × Connection → Channel × Connection
added_entry e = (e.0, as_added e.1)

picked : (b : Bool) (c : Connection) (o : Option Connection) → cond b (Some (as_added c)) (option_map as_added o) ≡ option_map as_added (cond b (Some c) o)
picked true c o = refl
picked false c o = refl

find-added : (vc : Channel) (es : List (Channel × Connection)) → find channel_cmp vc (map added_entry es) ≡ option_map as_added (find channel_cmp vc es)
find-added vc [] = refl
find-added vc (e ∷ es) =
    ap (cond (eq_by_cmp channel_cmp vc e.0) (Some (as_added e.1))) (find-added vc es)
    ∙ picked (eq_by_cmp channel_cmp vc e.0) e.1 (find channel_cmp vc es)

-- each connection is there as it was added
pub connection_at-reopened : (capacity : ℕ) (t : Table) (vc : Channel) → connection_at (reopened capacity t) vc ≡ option_map as_added (connection_at t vc)
connection_at-reopened capacity t vc =
    get-from_entries channel_cmp_total (map added_entry (entries t.connections)) vc
    ∙ find-added vc (entries t.connections)
    ∙ ap (option_map as_added) (sym (get-entries t.connections vc))

-- tables of one number and one capacity that have the same connections
pub same_table : (t u : Table) → t.id ≡ u.id → t.capacity ≡ u.capacity → ((vc : Channel) → connection_at t vc ≡ connection_at u vc) → t ≡ u
same_table t u id capacity same =
    let connections = same_map channel_cmp_total channel_cmp-IsAntisymmetric t.connections u.connections same in
    λ i. record { id = id i; capacity = capacity i; connections = connections i }

added_as_is : (o : Option Connection) → ((c : Connection) → o ≡ Some c → c ≡ as_added c) → option_map as_added o ≡ o
added_as_is None h = refl
added_as_is (Some c) h = ap Some (sym (h c refl))

-- an opening table is what it was at first
pub reopened_opening : (t : Table) → IsOpening t → reopened t.capacity t ≡ t
reopened_opening t h = same_table _ t refl refl (λ vc. connection_at-reopened t.capacity t vc ∙ added_as_is (connection_at t vc) (h.rows vc))

apart : (q vc : Channel) → same_channel q vc ≡ false → q ≢ vc
apart q vc e same = let no : true ≡ false = sym (same_channel-refl q) ∙ ap (same_channel q) same ∙ e in cc

added_at : (t : Table) (vc q : Channel) (old new : Connection) → connection_at t vc ≡ Some old → as_added new ≡ as_added old → (b : Bool) → same_channel q vc ≡ b
    → option_map as_added (connection_at (with_connection t vc new) q) ≡ option_map as_added (connection_at t q)
added_at t vc q old new known same true e =
    let at : q ≡ vc = same_channel-is q vc e in
    ap (λ x. option_map as_added (connection_at (with_connection t vc new) x)) at
    ∙ ap (option_map as_added) (connection_at-with_connection t vc new)
    ∙ ap Some same
    ∙ ap (option_map as_added) (sym known)
    ∙ ap (λ x. option_map as_added (connection_at t x)) (sym at)
added_at t vc q old new known same false e = ap (option_map as_added) (connection_at-other t vc q new (apart q vc e))

reopened_with : (capacity : ℕ) (t : Table) (vc : Channel) (old new : Connection) → connection_at t vc ≡ Some old → as_added new ≡ as_added old
    → reopened capacity (with_connection t vc new) ≡ reopened capacity t
reopened_with capacity t vc old new known same =
    same_table _ _ refl refl (λ q.
    connection_at-reopened capacity (with_connection t vc new) q
    ∙ added_at t vc q old new known same (same_channel q vc) refl
    ∙ sym (connection_at-reopened capacity t q))

-- a policer keeps its tau
tau_of_either : (b : Bool) (tau : ℕ) (p q : Policing) → p.tau ≡ tau → q.tau ≡ tau → (cond b p q).tau ≡ tau
tau_of_either true tau p q one other = one
tau_of_either false tau p q one other = other

tau_of_pair : {A : Type 0} (b : Bool) (tau : ℕ) (x y : A × Policing) → x.1.tau ≡ tau → y.1.tau ≡ tau → (cond b x y).1.tau ≡ tau
tau_of_pair true tau x y one other = one
tau_of_pair false tau x y one other = other

checked-tau : (p : Policing) (at spacing : ℕ) → (checked p at spacing).1.tau ≡ p.tau
unfolding checked
checked-tau p at spacing = tau_of_pair _ p.tau _ _ refl refl

policed-tau : (p : Policing) (at held : ℕ) → (policed p at held).1.tau ≡ p.tau
unfolding policed
policed-tau p at held = tau_of_pair (held == 0) p.tau _ _ refl (checked-tau p at _)

after-tau : (at held : ℕ) (p : Policing) → (policing_after at held p).tau ≡ p.tau
after-tau at held p = tau_of_either _ p.tau p _ refl (tau_of_either _ p.tau p _ refl (policed-tau p at held))

arrival-tau : (at held : ℕ) (o : Option Policing) → option_map (λ (p : Policing). p.tau) (option_map (policing_after at held) o) ≡ option_map (λ (p : Policing). p.tau) o
arrival-tau at held None = refl
arrival-tau at held (Some p) = ap Some (after-tau at held p)

request_by : (capacity : ℕ) (t : Table) (q : Terms) (o : Option Connection) → connection_at t q.vc ≡ o → reopened capacity (table_by t q o) ≡ reopened capacity t
request_by capacity t q None known = refl
request_by capacity t q (Some c) known = reopened_with capacity t q.vc c _ known refl

answer_by : (capacity : ℕ) (t : Table) (a : Reply) (o : Option Connection) → connection_at t a.terms.vc ≡ o → reopened capacity (table_by_answer t a o) ≡ reopened capacity t
answer_by capacity t a None known = refl
answer_by capacity t a (Some c) known = reopened_with capacity t a.terms.vc c _ known refl

arrival_by : (capacity : ℕ) (t : Table) (vc : Channel) (at : ℕ) (o : Option Connection) → connection_at t vc ≡ o → reopened capacity (table_by_arrival t vc at o) ≡ reopened capacity t
arrival_by capacity t vc at None known = refl
arrival_by capacity t vc at (Some c) known =
    reopened_with capacity t vc c _ known
    (ap opening (arrival-tau at (held_at c) c.policing))

-- an input changes nothing of the table that the port had at first
pub reopened-table_after : (capacity : ℕ) (t : Table) (input : PortInput) → reopened capacity (table_after t input) ≡ reopened capacity t
reopened-table_after capacity t (Request q) = request_by capacity t q (connection_at t q.vc) refl
reopened-table_after capacity t (Answer a) = answer_by capacity t a (connection_at t a.terms.vc) refl
reopened-table_after capacity t (Arrive vc at) = arrival_by capacity t vc at (connection_at t vc) refl
reopened-table_after capacity t (Capacity u) = refl

-- As many connections as at first

below-added : (vc : Channel) (es : List (Channel × Connection)) → below_all channel_cmp vc (map added_entry es) ≡ below_all channel_cmp vc es
below-added vc [] = refl
below-added vc (e ∷ es) = ap (λ rest. is_lt (channel_cmp vc e.0) && rest) (below-added vc es)

sorted-added : (es : List (Channel × Connection)) → is_sorted channel_cmp (map added_entry es) ≡ is_sorted channel_cmp es
sorted-added [] = refl
sorted-added (e ∷ es) = λ i. below-added e.0 es i && sorted-added es i

pub len-reopened : (capacity : ℕ) (t : Table) → len (reopened capacity t).connections ≡ len t.connections
len-reopened capacity t =
    let added : List (Channel × Connection) = map added_entry (entries t.connections) in
    let sorted : T (is_sorted channel_cmp (map added_entry (entries t.connections))) = subst T (sym (sorted-added (entries t.connections))) (entries_sorted t.connections) in
    let same : from_entries {R = channel_cmp} (map added_entry (entries t.connections)) ≡ from_sorted (map added_entry (entries t.connections)) =
    same_map channel_cmp_total channel_cmp-IsAntisymmetric _ _ (λ vc. get-from_entries channel_cmp_total added vc ∙ sym (get-from_sorted channel_cmp added vc sorted)) in
    ap len same ∙ len-entries _ ∙ ap length (entries-from_sorted channel_cmp added sorted) ∙ length-map (entries t.connections) added_entry ∙ sym (len-entries t.connections)

added_tau : (o : Option Connection) → option_map tau_of (option_map as_added o) ≡ option_map tau_of o
added_tau None = refl
added_tau (Some c) = ap Some (tau_of-opening (tau_of c))

pub tau-reopened : (capacity : ℕ) (t : Table) (vc : Channel) → option_map tau_of (connection_at (reopened capacity t) vc) ≡ option_map tau_of (connection_at t vc)
tau-reopened capacity t vc = ap (option_map tau_of) (connection_at-reopened capacity t vc) ∙ added_tau (connection_at t vc)

is_as_added : (o : Option Connection) (c : Connection) → option_map as_added o ≡ Some c → c ≡ as_added c
is_as_added None c is = absurd (cc)
is_as_added (Some old) c is =
    let same : as_added old ≡ c = cc in
    sym same ∙ ap opening (sym (tau_of-opening (tau_of old))) ∙ ap as_added same

pub reopened-IsOpening : (capacity : ℕ) (t : Table) → IsOpening (reopened capacity t)
reopened-IsOpening capacity t = record { rows = λ vc c there. is_as_added (connection_at t vc) c (sym (connection_at-reopened capacity t vc) ∙ there) }
