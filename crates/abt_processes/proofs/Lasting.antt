-- What left a source or was sent stays so, whatever happens.
use Rattle.std.proofs.Common.{◌≡◌, ℕ, ◌<◌, ◌≤◌, inl, inr, Bool, true, false, List, [], ◌∷◌, ◌++◌, refl, ap, sym, subst, ◌∙◌, arith, Some}
use Rattle.std.specs.Prelude.{◌==◌, All}
use Rattle.std.proofs.lemmas.Bool.{cond-false, ne_eqb}
use Rattle.std.proofs.lemmas.List.{append_assoc}
use Rattle.abt_cell.specs.Channel.{Channel}
use Rattle.abt_cell.specs.Message.{Terms, answer_to}
use Rattle.abt_net.specs.declared.conn.Conn.{Conn}
use Rattle.abt_net.specs.Topology.{Topology, conn_at}
use Rattle.abt_facts.specs.declared.fact.Fact.{Fact}
use Rattle.abt_facts.specs.declared.fact.Fact.TheVariants.{Shut, Back, Emitted}
use Rattle.abt_facts.specs.Cells.{emitted_of, moment_of}
use Rattle.abt_facts.specs.Requests.{is_ask_of, was_asked, mark_of}
use Rattle.abt_facts.specs.Sent.{is_sending, answer_is_home}
use Rattle.abt_source.specs.SourceFacts.{request_of}
use Rattle.abt_model.specs.declared.event.Event.{Event}
use Rattle.abt_model.specs.Events.{AsksRate}
use Rattle.abt_model.specs.Outcomes.{outcome_of, facts_added}
use Rattle.abt_model.specs.Past.{facts_of}
use Rattle.abt_model.proofs.Chain.{asked_last}
use Rattle.abt_model.proofs.Lawful.{Route, route_of, IsLawful}
use Rattle.abt_model.proofs.Marks.{mark_more}
use Rattle.abt_model.proofs.Worlds.{conn_cases, facts_of-own, facts_of-other, lawful_at}
use Rattle.abt_journal.specs.declared.next_message.Next.{Next}
use Rattle.abt_journal.specs.declared.next_message.Next.TheVariants.{Send, Tell, Nothing}
use Rattle.abt_weave.specs.Projections.{past_of}
use Rattle.abt_weave.proofs.Prefixes.{any_rest}
use Rattle.abt_weave.proofs.Replays.{past_lawful}
use Rattle.abt_serving.specs.Followed.{IsLeft}
use Rattle.abt_serving.proofs.Messages.{any_grows, terms_stay, message_stays}
use Rattle.abt_processes.specs.Processes.{LeftCell, LeftRequest}

-- a request left its source: it was asked, and behind so many cells at least
pub record IsRequestLeft (vc : Channel) (facts : List Fact) (left : LeftRequest) : Type 0 where
  pub asked : was_asked facts left.request.seq ≡ true
  pub terms : left.request ≡ request_of vc facts left.request.seq
  pub mark : mark_of facts left.request.seq ≤ left.behind

-- a cell left its source at this moment
pub record IsCellLeft (facts : List Fact) (left : LeftCell) : Type 0 where
  pub low : left.cell < emitted_of facts
  pub moment : moment_of facts left.cell ≡ left.moment

-- more events add facts
facts_grow : (net : Topology) (more earlier : List Event) (c : ℕ) → (added : List Fact) × (facts_of c (past_of net (more ++ earlier)) ≡ added ++ facts_of c (past_of net earlier))
facts_grow net [] earlier c = ([], refl)
facts_grow net (event ∷ more) earlier c =
    let rest = facts_grow net more earlier c in
    let past = past_of net (more ++ earlier) in
    elim (conn_cases event c) [
      | inl same ↦ (
          let added = facts_added (facts_of c past) event (outcome_of net past event) in (
            added ++ rest.0,
            facts_of-own net past event c same ∙ ap (λ (l : List Fact). added ++ l) rest.1 ∙ sym (append_assoc added rest.0 (facts_of c (past_of net earlier))),
          ))
      | inr differ ↦ (rest.0, facts_of-other net past event c differ ∙ rest.1)
    ]

mark_kept : (l : Route) (added facts : List Fact) → IsLawful l (added ++ facts) → (s : ℕ) → was_asked facts s ≡ true → mark_of (added ++ facts) s ≡ mark_of facts s
mark_kept l [] facts lawful s h = refl
mark_kept l (f ∷ added) facts lawful s h =
    let asked : was_asked (added ++ facts) s ≡ true = any_rest (is_ask_of s) added facts h in
    let low = ((asked_last l (added ++ facts) lawful.1).1 s asked).1 in
    mark_more l f (added ++ facts) lawful.0 s low ∙ mark_kept l added facts lawful.1 s h

emitted_rise : (added facts : List Fact) → emitted_of facts ≤ emitted_of (added ++ facts)
emitted_rise [] facts = omega arith
emitted_rise (Emitted m t r ∷ added) facts = omega (arith, emitted_rise added facts)
emitted_rise (f ∷ added) facts = emitted_rise added facts

moment_kept : (l : Route) (added facts : List Fact) → IsLawful l (added ++ facts) → (n : ℕ) → n < emitted_of facts → moment_of (added ++ facts) n ≡ moment_of facts n
moment_kept l [] facts lawful n low = refl
moment_kept l (Emitted m t r ∷ added) facts lawful n low =
    let is : m ≡ emitted_of (added ++ facts) = lawful.0.0 in
    let rise = emitted_rise added facts in
    cond-false (m == n) t (moment_of (added ++ facts) n) (ne_eqb m n (λ e. omega (arith, e, is, rise, low))) ∙ moment_kept l added facts lawful.1 n low
moment_kept l (f ∷ added) facts lawful n low = moment_kept l added facts lawful.1 n low

lawful_of : (net : Topology) (c : ℕ) (conn : Conn) (events : List Event) → conn_at net c ≡ Some conn → All AsksRate events → IsLawful (route_of conn) (facts_of c (past_of net events))
lawful_of net c conn events known rates = lawful_at net (past_of net events) (past_lawful net events rates) c conn known

pub request_lasts : (net : Topology) (more earlier : List Event) (c : ℕ) (conn : Conn) (left : LeftRequest) → conn_at net c ≡ Some conn → All AsksRate (more ++ earlier) →
    IsRequestLeft conn.vc (facts_of c (past_of net earlier)) left → IsRequestLeft conn.vc (facts_of c (past_of net (more ++ earlier))) left
request_lasts net more earlier c conn left known rates is =
    let s = left.request.seq in
    let facts = facts_of c (past_of net earlier) in
    let grown = facts_grow net more earlier c in
    let lawful = subst (IsLawful (route_of conn)) grown.1 (lawful_of net c conn (more ++ earlier) known rates) in
    let same : mark_of (facts_of c (past_of net (more ++ earlier))) s ≡ mark_of facts s = ap (λ (l : List Fact). mark_of l s) grown.1 ∙ mark_kept (route_of conn) grown.0 facts lawful s is.asked in
    record {
      asked = any_grows net more earlier c (is_ask_of s) is.asked;
      terms = is.terms ∙ sym (terms_stay net more earlier c s conn known rates is.asked);
      mark = subst (λ n. n ≤ left.behind) (sym same) is.mark;
    }

pub cell_lasts : (net : Topology) (more earlier : List Event) (c : ℕ) (conn : Conn) (left : LeftCell) → conn_at net c ≡ Some conn → All AsksRate (more ++ earlier) →
    IsCellLeft (facts_of c (past_of net earlier)) left → IsCellLeft (facts_of c (past_of net (more ++ earlier))) left
cell_lasts net more earlier c conn left known rates is =
    let facts = facts_of c (past_of net earlier) in
    let grown = facts_grow net more earlier c in
    let lawful = subst (IsLawful (route_of conn)) grown.1 (lawful_of net c conn (more ++ earlier) known rates) in
    let count : emitted_of (facts_of c (past_of net (more ++ earlier))) ≡ emitted_of (grown.0 ++ facts) = ap emitted_of grown.1 in
    let rise = emitted_rise grown.0 facts in
    let low = is.low in
    record {
      low = omega (arith, count, rise, low);
      moment = ap (λ (l : List Fact). moment_of l left.cell) grown.1 ∙ moment_kept (route_of conn) grown.0 facts lawful left.cell is.low ∙ is.moment;
    }

home_lasts : (net : Topology) (more earlier : List Event) (c seq : ℕ) (granted : Bool) → answer_is_home (facts_of c (past_of net earlier)) seq granted ≡ true → answer_is_home (facts_of c (past_of net (more ++ earlier))) seq granted ≡ true
home_lasts net more earlier c seq true h = any_grows net more earlier c (is_sending (Back seq 1)) h
home_lasts net more earlier c seq false h = any_grows net more earlier c (is_sending (Shut seq 1)) h

-- what was sent lies where it was sent to
pub left_lasts : (net : Topology) (more earlier : List Event) → All AsksRate (more ++ earlier) → (n : Next) → IsLeft net (past_of net earlier) n → IsLeft net (past_of net (more ++ earlier)) n
left_lasts net more earlier rates (Send port message) lies = message_stays net more earlier port message rates lies
left_lasts net more earlier rates (Tell c answer) lies = record {
  conn = lies.conn;
  seq = lies.seq;
  granted = lies.granted;
  known = lies.known;
  asked = any_grows net more earlier c (is_ask_of lies.seq) lies.asked;
  sent = home_lasts net more earlier c lies.seq lies.granted lies.sent;
  is = lies.is ∙ ap (λ (t : Terms). answer_to t lies.granted) (sym (terms_stay net more earlier c lies.seq lies.conn lies.known rates lies.asked));
}
left_lasts net more earlier rates Nothing lies = tt
