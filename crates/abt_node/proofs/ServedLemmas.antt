-- Lemmas about what a message comes to at a connection that the port knows, and at one that it doesn't.
use Rattle.std.proofs.Common.{◌≡◌, ℕ, ◌-◌, Option, Some, None, Result, sym, ap, ◌∙◌}
use Rattle.std.specs.Option.{option_map}
use Rattle.abt_cell.specs.Channel.{Channel}
use Rattle.abt_cell.specs.Message.{Terms, Reply}
use Rattle.abt_gcra.specs.Policing.{Policing}
use Rattle.abt_gcra.specs.declared.verdict.Verdict.{Verdict}
use Rattle.abt_node.specs.declared.fault.ArriveFault.{ArriveFault}
use Rattle.abt_node.specs.declared.reply.Onward.{Onward}
use Rattle.abt_node.specs.declared.reply.Back.{Back}
use Rattle.abt_node.specs.Reservation.{Reservation, decision_of, answer_of}
use Rattle.abt_node.specs.Table.{Connection, Table, connection_at, with_connection, held_at, sum_of, decision_at, reply_by, reply_to, table_by, table_after, answer_by, answer_to, table_by_answer, table_after_answer, arrival_by, arrival_of, arrival_at, policing_after, table_by_arrival, table_after_arrival}

-- the decision of a request, by the running total
pub line_by_total : (t : Table) (q : Terms) (c : Connection) (total : ℕ) (line : Onward × Reservation) → total ≡ sum_of t
    → line ≡ decision_of t.capacity (total - held_at c) c.reservation q → line ≡ decision_at t q c
line_by_total t q c total line counted is = is ∙ ap (λ n. decision_of t.capacity (n - held_at c) c.reservation q) counted

pub reply_is : (t : Table) (q : Terms) (c : Connection) (reply : Onward) (r : Reservation) → connection_at t q.vc ≡ Some c
    → (reply, r) ≡ decision_at t q c → reply ≡ reply_to t q
reply_is t q c reply r known line = ap (λ p. p.0) line ∙ sym (ap (reply_by t q) known)

pub table_is : (t : Table) (q : Terms) (c : Connection) (reply : Onward) (r : Reservation) → connection_at t q.vc ≡ Some c
    → (reply, r) ≡ decision_at t q c → with_connection t q.vc (record c { reservation = r }) ≡ table_after t q
table_is t q c reply r known line =
    ap (λ (p : Onward × Reservation). with_connection t q.vc (record c { reservation = p.1 })) line ∙ sym (ap (table_by t q) known)

pub answer_is : (t : Table) (a : Reply) (c : Connection) (reply : Back) (r : Reservation) → connection_at t a.terms.vc ≡ Some c
    → (reply, r) ≡ answer_of c.reservation a → reply ≡ answer_to t a
answer_is t a c reply r known line = ap (λ p. p.0) line ∙ sym (ap (answer_by a) known)

pub table_is_by_answer : (t : Table) (a : Reply) (c : Connection) (reply : Back) (r : Reservation) → connection_at t a.terms.vc ≡ Some c
    → (reply, r) ≡ answer_of c.reservation a → with_connection t a.terms.vc (record c { reservation = r }) ≡ table_after_answer t a
table_is_by_answer t a c reply r known line =
    ap (λ (p : Back × Reservation). with_connection t a.terms.vc (record c { reservation = p.1 })) line ∙ sym (ap (table_by_answer t a) known)

pub arrival_is : (t : Table) (vc : Channel) (at : ℕ) (c : Connection) (result : Result Verdict ArriveFault) → connection_at t vc ≡ Some c
    → result ≡ arrival_by at (held_at c) c.policing → result ≡ arrival_at t vc at
arrival_is t vc at c result known is = is ∙ sym (ap (arrival_of at) known)

pub table_is_by_arrival : (t : Table) (vc : Channel) (at : ℕ) (c : Connection) (policing : Option Policing) → connection_at t vc ≡ Some c
    → policing ≡ option_map (policing_after at (held_at c)) c.policing → with_connection t vc (record c { policing = policing }) ≡ table_after_arrival t vc at
table_is_by_arrival t vc at c policing known is =
    ap (λ (p : Option Policing). with_connection t vc (record c { policing = p })) is ∙ sym (ap (table_by_arrival t vc at) known)
