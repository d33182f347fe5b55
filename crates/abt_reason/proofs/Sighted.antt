-- Where messages lie after one more event.
use Rattle.std.proofs.Common.{◌≡◌, ◌≢◌, ℕ, ◌+◌, ◌-◌, Bool, true, false, List, [], ◌∷◌, ◌++◌, inl, inr, refl, sym, subst, ap, ◌∙◌, Result, Ok, Err}
use Rattle.std.specs.Map.{lookup}
use Rattle.std.specs.Prelude.{◌==◌, ◌&&◌, if◌then◌else◌, nat_eq, Option, None, Some, OnOk}
use Rattle.std.proofs.lemmas.Bool.{cases_eq, cond_both, eq-eqb, ne_eqb}
use Rattle.abt_facts.specs.declared.fact.Fact.{Fact}
use Rattle.abt_facts.specs.declared.fact.Fact.TheVariants as fact
use Rattle.abt_keep.specs.Record.{KeptRecord}
use Rattle.abt_keep.specs.declared.plan.StorePlan.TheVariants.{Works, FailsBefore, FailsAfter}
use Rattle.abt_model.specs.declared.event.Event.{Event}
use Rattle.abt_model.specs.declared.event.Event.TheVariants.{Start, Ask, Crash, Emit, Arrive, Request, Turn, Answer, Told}
use Rattle.abt_model.specs.declared.outcome.Heard.TheVariants as heard
use Rattle.abt_model.specs.declared.outcome.Outcome.{Outcome}
use Rattle.abt_model.specs.declared.outcome.Outcome.TheVariants.{Started, Asked, AskRefused, Crashed, Emitted, Arrived, Requested, Turned, Answered, Told as HasTold}
use Rattle.abt_model.specs.Outcomes.{conn_of, outcome_of, after_event, facts_added, delivery, write_adds}
use Rattle.abt_model.specs.Past.{Past, facts_of}
use Rattle.abt_model.proofs.Worlds.{cases_option, none_some, other_conn, facts_of-own, facts_of-other}
use Rattle.abt_net.specs.Topology.{Topology}
use Rattle.abt_node.specs.declared.reply.Back.TheVariants as back
use Rattle.abt_node.specs.declared.reply.Onward.TheVariants as onward
use Rattle.abt_source.specs.declared.fault.AskFault.TheVariants as ask_fault
use Rattle.abt_reason.specs.declared.sighting.Sighting.{Sighting}
use Rattle.abt_reason.specs.declared.sighting.Posted.{Posted}
use Rattle.abt_reason.specs.declared.sighting.Sent.{Sent}
use Rattle.abt_reason.specs.Sightings.{request_at, answer_at, sends, newest, lying_in, hops_at, lying_after, lying, sent_by, posted_as, posted_at, posted_by, posted, same_message, newest_of, SightingsView, AreNext, AreSightings}

-- what is stored, and that a request came to the first hop, sends nothing
stored : (c hops : ℕ) (facts : List Fact) (q : ℕ) (writes : Bool) (written : KeptRecord) →
    lying_in c hops (write_adds writes written ++ facts) q ≡ lying_in c hops facts q
stored c hops facts q true written = refl
stored c hops facts q false written = refl

delivered : (c hops : ℕ) (facts : List Fact) (q hop seq : ℕ) → lying_in c hops (delivery hop seq ++ facts) q ≡ lying_in c hops facts q
delivered c hops facts q hop seq =
    cond_both (hop == 1) (fact.Delivered seq ∷ []) [] (λ (l : List Fact). lying_in c hops (l ++ facts) q ≡ lying_in c hops facts q) (λ e. refl) (λ e. refl)

-- an event adds what it sends
adds : (c hops : ℕ) (facts : List Fact) (q : ℕ) (e : Event) (o : Outcome) →
    lying_in c hops (facts_added facts e o ++ facts) q ≡ newest (sent_by c hops e o) q (lying_in c hops facts q)
adds c hops facts q (Ask d rate Works) (Asked request) = ap (newest (sends request.seq (request_at c hops 1 request.seq)) q) (stored c hops facts q _ _)
adds c hops facts q (Ask d rate FailsBefore) (Asked request) = ap (newest (sends request.seq (request_at c hops 1 request.seq)) q) (stored c hops facts q _ _)
adds c hops facts q (Ask d rate FailsAfter) (Asked request) = ap (newest (sends request.seq (request_at c hops 1 request.seq)) q) (stored c hops facts q _ _)
adds c hops facts q (Ask d rate Works) (AskRefused ask_fault.Keep) = refl
adds c hops facts q (Ask d rate Works) (AskRefused ask_fault.SeqExhausted) = refl
adds c hops facts q (Ask d rate FailsBefore) (AskRefused ask_fault.Keep) = refl
adds c hops facts q (Ask d rate FailsBefore) (AskRefused ask_fault.SeqExhausted) = refl
adds c hops facts q (Ask d rate FailsAfter) (AskRefused ask_fault.Keep) = refl
adds c hops facts q (Ask d rate FailsAfter) (AskRefused ask_fault.SeqExhausted) = refl
adds c hops facts q (Request d hop seq) (Requested onward.Pass) = ap (newest (sends seq (request_at c hops (hop + 1) seq)) q) (delivered c hops facts q hop seq)
adds c hops facts q (Request d hop seq) (Requested (onward.Refuse answer)) = ap (newest (sends seq (answer_at c (hop - 1) seq false)) q) (delivered c hops facts q hop seq)
adds c hops facts q (Request d hop seq) (Requested (onward.Drop cause)) = delivered c hops facts q hop seq
adds c hops facts q (Answer d hop seq true) (Answered back.Pass) = refl
adds c hops facts q (Answer d hop seq true) (Answered (back.Drop cause)) = refl
adds c hops facts q (Answer d hop seq false) (Answered back.Pass) = refl
adds c hops facts q (Answer d hop seq false) (Answered (back.Drop cause)) = refl
adds c hops facts q (Start d now) Started = refl
adds c hops facts q (Crash d) Crashed = refl
adds c hops facts q (Emit d now) (Emitted cell next) = refl
adds c hops facts q (Arrive d cell at) (Arrived verdict) = refl
adds c hops facts q (Turn d seq) Turned = refl
adds c hops facts q (Told d seq granted) (HasTold heard.Raised) = refl
adds c hops facts q (Told d seq granted) (HasTold heard.Refused) = refl
adds c hops facts q (Told d seq granted) (HasTold heard.Ignored) = refl
adds c hops facts q e o = refl

-- the messages of a connection that a net has
known_lying : (net : Topology) (past : Past) (c hops q : ℕ) → hops_at net c ≡ Some hops → lying net past c q ≡ lying_in c hops (facts_of c past) q
known_lying net past c hops q known = ap (λ (o : Option ℕ). lying_after c o (facts_of c past) q) known

-- after an event of its own
own_next : (net : Topology) (past : Past) (e : Event) (c hops q : ℕ) → conn_of e ≡ Some c → hops_at net c ≡ Some hops →
    lying net (after_event net past e) c q ≡ newest (sent_by c hops e (outcome_of net past e)) q (lying net past c q)
own_next net past e c hops q own known =
    known_lying net (after_event net past e) c hops q known
    ∙ ap (λ (fs : List Fact). lying_in c hops fs q) (facts_of-own net past e c own)
    ∙ adds c hops (facts_of c past) q e (outcome_of net past e)
    ∙ ap (newest (sent_by c hops e (outcome_of net past e)) q) (sym (known_lying net past c hops q known))

-- after an event of another, or of none
other_next : (net : Topology) (past : Past) (e : Event) (d q : ℕ) → conn_of e ≢ Some d → lying net (after_event net past e) d q ≡ lying net past d q
other_next net past e d q differ = ap (λ (fs : List Fact). lying_after d (hops_at net d) fs q) (facts_of-other net past e d differ)

-- of a connection that the net doesn't have
unknown_lying : (net : Topology) (past : Past) (c q : ℕ) → hops_at net c ≡ None → lying net past c q ≡ None
unknown_lying net past c q unknown = ap (λ (o : Option ℕ). lying_after c o (facts_of c past) q) unknown

here : (c s q : ℕ) → same_message (c, s) (c, q) ≡ nat_eq s q
here c s q = ap (λ (b : Bool). b && nat_eq s q) (eq-eqb c c refl)

elsewhere : (c d s q : ℕ) → c ≢ d → same_message (c, s) (d, q) ≡ false
elsewhere c d s q differ = ap (λ (b : Bool). b && nat_eq s q) (ne_eqb c d differ)

-- what was posted at a connection is the newest there
posted_here : (c : ℕ) (sent : Option Sent) (q : ℕ) (before : Option Sighting) → newest_of (posted_as c sent) c q before ≡ newest sent q before
posted_here c None q before = refl
posted_here c (Some sent) q before = ap (λ (b : Bool). if b then Some sent.sighting else before) (here c sent.seq q)

-- and nothing new elsewhere
posted_elsewhere : (c d : ℕ) (sent : Option Sent) (q : ℕ) (before : Option Sighting) → c ≢ d → newest_of (posted_as c sent) d q before ≡ before
posted_elsewhere c d None q before differ = refl
posted_elsewhere c d (Some sent) q before differ = ap (λ (b : Bool). if b then Some sent.sighting else before) (elsewhere c d sent.seq q differ)

-- an event of connection c
at_next : (net : Topology) (past : Past) (e : Event) (c d q : ℕ) → conn_of e ≡ Some c →
    newest_of (posted_at c e (outcome_of net past e) (hops_at net c)) d q (lying net past d q) ≡ lying net (after_event net past e) d q
at_next net past e c d q own = elim (cases_eq c d) [
  | inr differ ↦ (
      let same = sym (other_next net past e d q (λ whose. other_conn c d differ (sym own ∙ whose))) in
      elim (cases_option (hops_at net c)) [
        | inl unknown ↦ ap (λ (o : Option ℕ). newest_of (posted_at c e (outcome_of net past e) o) d q (lying net past d q)) unknown ∙ same
        | inr known ↦ ap (λ (o : Option ℕ). newest_of (posted_at c e (outcome_of net past e) o) d q (lying net past d q)) known.1
            ∙ posted_elsewhere c d (sent_by c known.0 e (outcome_of net past e)) q (lying net past d q) differ ∙ same
      ])
  | inl is ↦ subst (λ n. newest_of (posted_at c e (outcome_of net past e) (hops_at net c)) n q (lying net past n q) ≡ lying net (after_event net past e) n q) is (
      elim (cases_option (hops_at net c)) [
        | inl unknown ↦ ap (λ (o : Option ℕ). newest_of (posted_at c e (outcome_of net past e) o) c q (lying net past c q)) unknown
            ∙ unknown_lying net past c q unknown ∙ sym (unknown_lying net (after_event net past e) c q unknown)
        | inr known ↦ ap (λ (o : Option ℕ). newest_of (posted_at c e (outcome_of net past e) o) c q (lying net past c q)) known.1
            ∙ posted_here c (sent_by c known.0 e (outcome_of net past e)) q (lying net past c q) ∙ sym (own_next net past e c known.0 q own known.1)
      ])
]

-- where messages lie after one more event
pub lying_next : (net : Topology) (past : Past) (e : Event) (d q : ℕ) →
    newest_of (posted net e (outcome_of net past e)) d q (lying net past d q) ≡ lying net (after_event net past e) d q
lying_next net past e d q = elim (cases_option (conn_of e)) [
  | inl none ↦ ap (λ (o : Option ℕ). newest_of (posted_by net e (outcome_of net past e) o) d q (lying net past d q)) none
      ∙ sym (other_next net past e d q (λ whose. none_some d (sym none ∙ whose)))
  | inr own ↦ ap (λ (o : Option ℕ). newest_of (posted_by net e (outcome_of net past e) o) d q (lying net past d q)) own.1 ∙ at_next net past e own.0 d q own.1
]

-- the sightings after one more event
pub sightings_next : (net : Topology) (past : Past) (e : Event) (o : Outcome) (old new : SightingsView) → AreSightings net past old → o ≡ outcome_of net past e →
    AreNext (posted net e o) old new → AreSightings net (after_event net past e) new
sightings_next net past e o old new are is next = λ d q.
    next d q
    ∙ ap (λ (p : Option Posted). newest_of p d q (lookup (same_message (d, q)) old.entries)) (ap (posted net e) is)
    ∙ ap (newest_of (posted net e (outcome_of net past e)) d q) (are d q)
    ∙ lying_next net past e d q

pub on_ok_more : {A E : Type 0} {P Q : Type 0} (r : Result A E) → OnOk r P → (P → Q) → OnOk r Q
on_ok_more (Ok x) p f = f p
on_ok_more (Err y) p f = tt
