-- A port refuses a decrease only if it repeats what is shut there.
use Rattle.std.proofs.Common.{◌≡◌, ◌-◌, ◌≤◌, refl, inl, inr, ap, ◌∙◌, sym, subst, arith}
use Rattle.std.specs.Prelude.{Option, None, Some, IsSomeAnd}
use Rattle.abt_cell.specs.Message.{Terms, Reply}
use Rattle.abt_node.specs.declared.reply.Onward.{Onward}
use Rattle.abt_node.specs.declared.reply.Onward.TheVariants.{Refuse}
use Rattle.abt_node.specs.Rule.{IsRepeat, IsDecision}
use Rattle.abt_node.specs.Table.{Connection, Table, connection_at, held_at, sum_of, reply_by, reply_to}
use Rattle.abt_node.proofs.TableLemmas.{request_decision, held_at-le-sum_of}

refused_by : (t : Table) (q : Terms) (o : Option Connection) → connection_at t q.vc ≡ o → (answer : Reply) → reply_to t q ≡ Refuse answer → q.floor ≡ q.ask → sum_of t ≤ t.capacity →
    IsSomeAnd o (λ c. IsRepeat c.reservation q)
refused_by t q None known answer refused same within = (let no = sym (ap (reply_by t q) known) ∙ refused in absurd (cc))
refused_by t q (Some c) known answer refused same within =
    let is = subst (IsDecision t.capacity (sum_of t - held_at c) c.reservation q) refused (request_decision t q c known) in
    let mine = held_at-le-sum_of t q.vc c known in
    elim is.1 [
      | inl again ↦ again.0
      | inr over ↦ absurd (omega (arith, over.0.floor, over.1, mine, within, same))
    ]

pub refused_again : (t : Table) (q : Terms) (answer : Reply) → reply_to t q ≡ Refuse answer → q.floor ≡ q.ask → sum_of t ≤ t.capacity → IsSomeAnd (connection_at t q.vc) (λ c. IsRepeat c.reservation q)
refused_again t q answer refused same within = refused_by t q (connection_at t q.vc) refl answer refused same within
