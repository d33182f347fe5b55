-- Messages that are the same.
use Rattle.std.proofs.Common.{rules, ◌≡◌, ◌≢◌, ◌⊎◌, inl, inr, Bool, true, false, refl, ap}
use Rattle.std.specs.Prelude.{◌&&◌, nat_eq, Option, None, Some}
use Rattle.std.proofs.lemmas.Bool.{cases_Bool, false_from_ne_true, eqb-true, eq-eqb}
use Rattle.abt_chart.specs.declared.message.Kind.{Kind}
use Rattle.abt_chart.specs.declared.message.Kind.TheVariants.{Request, Yes, No}
use Rattle.abt_chart.specs.declared.message.Message.{Message}
use Rattle.abt_chart.specs.declared.message.Stop.{Stop}
use Rattle.abt_chart.specs.declared.message.Stop.TheVariants.{Source, Hop, End}
use Rattle.std.specs.Cmp.Derive.{both_true}
use Rattle.abt_chart.specs.contracts.message.MessagePartialEq.TheImpl as block
use Rattle.abt_chart.specs.Places.{same_kind, same_stop, same_message}

both : (s t : Bool) → (s && t) ≡ true → (s ≡ true) × (t ≡ true)
both true t e = (refl, e)
both false t e = absurd (cc)

kinds : (a b : Kind) → same_kind a b ≡ true → a ≡ b
kinds Request Request e = refl
kinds Yes Yes e = refl
kinds No No e = refl
kinds a b e = absurd (cc)

stops : (a b : Stop) → same_stop a b ≡ true → a ≡ b
stops Source Source e = refl
stops (Hop a) (Hop b) e = ap Hop (eqb-true a b e)
stops End End e = refl
stops a b e = absurd (cc)

pub same_is : (a b : Message) → same_message a b ≡ true → a ≡ b
same_is a b e =
    let conn_rest = both (nat_eq a.conn b.conn) _ e in
    let kind_rest = both (same_kind a.kind b.kind) _ conn_rest.1 in
    let stop_rest = both (same_stop a.stop b.stop) _ kind_rest.1 in
    let conn = eqb-true a.conn b.conn conn_rest.0 in
    let kind = kinds a.kind b.kind kind_rest.0 in
    let stop = stops a.stop b.stop stop_rest.0 in
    let seq = eqb-true a.seq b.seq stop_rest.1 in
    λ i. record { conn = conn i; kind = kind i; stop = stop i; seq = seq i }

pub apart : (a b : Message) → a ≢ b → same_message a b ≡ false
apart a b differ = false_from_ne_true (same_message a b) (λ e. differ (same_is a b e))

kind_itself : (a : Kind) → same_kind a a ≡ true
kind_itself Request = refl
kind_itself Yes = refl
kind_itself No = refl

stop_itself : (a : Stop) → same_stop a a ≡ true
stop_itself Source = refl
stop_itself (Hop a) = eq-eqb a a refl
stop_itself End = refl

pub itself : (a : Message) → same_message a a ≡ true
itself a =
    both_true (eq-eqb a.conn a.conn refl) (both_true (kind_itself a.kind) (both_true (stop_itself a.stop) (eq-eqb a.seq a.seq refl)))

-- whether an event has a message
pub has_cases : (o : Option Message) (m : Message) → (o ≡ Some m) ⊎ (o ≢ Some m)
has_cases None m = inr (λ e. absurd (cc))
has_cases (Some a) m = elim (cases_Bool (same_message a m)) [
  | inl same ↦ inl (ap Some (same_is a m same))
  | inr differ ↦ inr (λ e.
      let same = itself m in
      absurd (cc))
]

-- the program compares messages so
pub compares : (a b : Message) → block.ghosts.eq a b ≡ same_message a b
compares a b = search rules
