-- A story that was played on a world, as a whole.
use Rattle.std.proofs.Common.{◌≡◌, ℕ, ◌+◌, refl, ap, true, List, [], ◌∷◌, ◌++◌, length, ◌∙◌, sym, subst, append_assoc}
use Rattle.std.specs.Prelude.{Some, All, replicate}
use Rattle.abt_rate.specs.Rate.{IsRate}
use Rattle.abt_keep.specs.declared.plan.StorePlan.{StorePlan}
use Rattle.abt_cell.specs.Message.{Terms}
use Rattle.abt_node.specs.declared.reply.Onward.TheVariants.{Pass}
use Rattle.abt_node.specs.declared.reply.Back.TheVariants.{Pass as PassBack}
use Rattle.abt_net.specs.declared.conn.Conn.{Conn}
use Rattle.abt_net.specs.Topology.{Topology, IsWithinRules, conn_at}
use Rattle.abt_facts.specs.Source.{last_of}
use Rattle.abt_model.specs.declared.event.Event.{Event}
use Rattle.abt_model.specs.declared.event.Event.TheVariants.{Ask, Turn, Told}
use Rattle.abt_model.specs.declared.outcome.Heard.TheVariants.{Raised}
use Rattle.abt_model.specs.declared.outcome.Outcome.{Outcome}
use Rattle.abt_model.specs.declared.outcome.Outcome.TheVariants.{Asked, Requested, Turned, Answered, Told as HasTold}
use Rattle.abt_model.specs.Past.{Past, facts_of}
use Rattle.abt_model.specs.Answers.{next_request}
use Rattle.abt_model.specs.Outcomes.{outcome_of}
use Rattle.abt_model.specs.Run.{facts_from, outcomes_from, facts_after}
use Rattle.abt_model.proofs.Runs.{outcomes_from_push}
use Rattle.abt_model.proofs.Sums.{facts_after_lawful}
use Rattle.abt_model.proofs.Worlds.{first_asks, others_ask}
use Rattle.abt_model.specs.Events.{AsksRate}
use Rattle.abt_world.specs.Standing.{WorldView, StandsFor}
use Rattle.abt_laws.specs.RoundTrips.{out_over, back_over, round_trip, granted_trip}
use Rattle.abt_laws.specs.Granting.{IsGrantable, grant_story}
use Rattle.abt_laws.specs.Playing.{HaveBegun, HavePassed, hops_by, hops_of, story_by, story_of}
use Rattle.abt_laws.proofs.AskingOut.{asks}
use Rattle.abt_laws.proofs.EveryGrant.{facts_append, grants}

-- the story, if no request went out, and if one did
pub story_alone : (c hops rate : ℕ) (plan : StorePlan) (o : Outcome) → ((request : Terms) → o ≡ Asked request → ⊥) → story_by c hops rate plan o ≡ Ask c rate plan ∷ []
story_alone c hops rate plan (Asked request) never = absurd (never request refl)
story_alone c hops rate plan o never = refl

pub story_asked : (net : Topology) (past : Past) (c rate : ℕ) (plan : StorePlan) (request : Terms) (seq hops : ℕ) → outcome_of net past (Ask c rate plan) ≡ Asked request → seq ≡ request.seq → hops ≡ hops_of net c →
    story_of net past c rate plan ≡ Ask c rate plan ∷ round_trip c seq hops
story_asked net past c rate plan request seq hops asked number length_is =
    ap (story_by c (hops_of net c) rate plan) asked ∙ ap (λ (n : ℕ). Ask c rate plan ∷ round_trip c n (hops_of net c)) (sym number)
    ∙ ap (λ (n : ℕ). Ask c rate plan ∷ round_trip c seq n) (sym length_is)

-- the events up to the last, which is that the yes is told
abbrev pub before_told : (c rate : ℕ) → StorePlan → (seq hops : ℕ) → List Event
before_told c rate plan seq hops = Ask c rate plan ∷ (out_over c seq hops ++ (Turn c seq ∷ back_over c seq hops))

pub told_last : (c rate : ℕ) (plan : StorePlan) (seq hops : ℕ) → Ask c rate plan ∷ round_trip c seq hops ≡ before_told c rate plan seq hops ++ Told c seq true ∷ []
told_last c rate plan seq hops = ap (λ (l : List Event). Ask c rate plan ∷ l) (sym (append_assoc (out_over c seq hops) (Turn c seq ∷ back_over c seq hops) (Told c seq true ∷ [])))

-- what has happened after each part
pub after_out : (events out : List Event) (e : Event) → (events ++ e ∷ []) ++ out ≡ events ++ (e ∷ out)
after_out events out e = append_assoc events (e ∷ []) out

pub after_turn : (events out : List Event) (e t : Event) → ((events ++ e ∷ []) ++ out) ++ t ∷ [] ≡ events ++ (e ∷ (out ++ t ∷ []))
after_turn events out e t = ap (λ (l : List Event). l ++ t ∷ []) (after_out events out e) ∙ append_assoc events (e ∷ out) (t ∷ [])

pub after_back : (events out back : List Event) (e t : Event) → (((events ++ e ∷ []) ++ out) ++ t ∷ []) ++ back ≡ events ++ (e ∷ (out ++ (t ∷ back)))
after_back events out back e t =
    ap (λ (l : List Event). l ++ back) (after_turn events out e t) ∙ append_assoc events (e ∷ (out ++ t ∷ [])) back
    ∙ ap (λ (l : List Event). events ++ (e ∷ l)) (append_assoc out (t ∷ []) back)

-- what has begun of the way out has begun of the story, and what has begun of the way back too
pub begun_out : (net : Topology) (events story : List Event) (e : Event) (out rest : List Event) (world : WorldView) → story ≡ e ∷ (out ++ rest) → HaveBegun net (events ++ e ∷ []) out world → HaveBegun net events story world
begun_out net events story e out rest world is begun = record {
  done = e ∷ begun.done;
  left = begun.left ++ rest;
  parts = ap (λ (l : List Event). e ∷ l) (sym (append_assoc begun.done begun.left rest) ∙ ap (λ (l : List Event). l ++ rest) begun.parts) ∙ sym is;
  stands = subst (λ (es : List Event). StandsFor net es world) (after_out events begun.done e) begun.stands;
}

pub begun_back : (net : Topology) (events story : List Event) (e t : Event) (out back rest : List Event) (world : WorldView) → story ≡ e ∷ (out ++ (t ∷ (back ++ rest))) →
    HaveBegun net (((events ++ e ∷ []) ++ out) ++ t ∷ []) back world → HaveBegun net events story world
begun_back net events story e t out back rest world is begun = record {
  done = e ∷ (out ++ (t ∷ begun.done));
  left = begun.left ++ rest;
  parts = ap (λ (l : List Event). e ∷ l) (append_assoc out (t ∷ begun.done) (begun.left ++ rest)
      ∙ ap (λ (l : List Event). out ++ (t ∷ l)) (sym (append_assoc begun.done begun.left rest) ∙ ap (λ (l : List Event). l ++ rest) begun.parts)) ∙ sym is;
  stands = subst (λ (es : List Event). StandsFor net es world) (after_back events out begun.done e t) begun.stands;
}

-- the last event's outcome ends those of the story
pub passed_whole : (net : Topology) (events prefix : List Event) (last : Event) (answered : Outcome) (world : WorldView) → answered ≡ outcome_of net (facts_after net (events ++ prefix)) last →
    StandsFor net ((events ++ prefix) ++ last ∷ []) world → HavePassed net events (prefix ++ last ∷ []) answered world
passed_whole net events prefix last answered world is stands =
    let past = facts_after net events in
    let there : facts_after net (events ++ prefix) ≡ facts_from net past prefix = facts_append net [] events prefix in
    record {
      before = outcomes_from net past prefix;
      answers = outcomes_from_push net past prefix last ∙ ap (λ (o : Outcome). outcomes_from net past prefix ++ o ∷ []) (sym (is ∙ ap (λ (v : Past). outcome_of net v last) there));
      stands = subst (λ (es : List Event). StandsFor net es world) (append_assoc events prefix (last ∷ [])) stands;
    }

-- lists that are one end in one item
same_last : (xs ys : List Outcome) (x y : Outcome) → xs ++ x ∷ [] ≡ ys ++ y ∷ [] → x ≡ y
same_last [] [] x y e = cc
same_last [] (b ∷ []) x y e = absurd (cc)
same_last [] (b ∷ d ∷ ys) x y e = absurd (cc)
same_last (a ∷ []) [] x y e = absurd (cc)
same_last (a ∷ d ∷ xs) [] x y e = absurd (cc)
same_last (a ∷ xs) (b ∷ ys) x y e = (let rest : xs ++ x ∷ [] ≡ ys ++ y ∷ [] = cc in same_last xs ys x y rest)

-- where the source can be granted the rate its story is that of a grant, and ends with Raised
pub grant_is_story : (net : Topology) (past : Past) (c : ℕ) (conn : Conn) → conn_at net c ≡ Some conn → (rate : ℕ) (plan : StorePlan) → IsGrantable net past c conn rate plan →
    story_of net past c rate plan ≡ grant_story past c conn rate plan
grant_is_story net past c conn known rate plan can =
    story_asked net past c rate plan (next_request conn.vc (facts_of c past) rate) (last_of (facts_of c past) + 1) (length conn.path) (asks net past c conn known rate plan can) refl (sym (ap hops_by known))

ends_raised : (hops : ℕ) (first : Outcome) → (before : List Outcome) × (first ∷ granted_trip hops ≡ before ++ HasTold Raised ∷ [])
ends_raised hops first = (
  first ∷ (replicate hops (Requested Pass) ++ Turned ∷ replicate hops (Answered PassBack)),
  ap (λ (l : List Outcome). first ∷ l) (sym (append_assoc (replicate hops (Requested Pass)) (Turned ∷ replicate hops (Answered PassBack)) (HasTold Raised ∷ []))),
)

pub raised_at_last : (net : Topology) (events : List Event) (c : ℕ) (conn : Conn) (rate : ℕ) (plan : StorePlan) (answered : Outcome) (world : WorldView) → IsWithinRules net → All AsksRate events → IsRate rate →
    conn_at net c ≡ Some conn → IsGrantable net (facts_after net events) c conn rate plan → HavePassed net events (story_of net (facts_after net events) c rate plan) answered world → answered ≡ HasTold Raised
raised_at_last net events c conn rate plan answered world rules rates is_rate known can passed =
    let past = facts_after net events in
    let both = facts_after_lawful net events rates in
    let grant = grants net past rules both.0 both.1 c rate conn plan is_rate known can in
    let ends = ends_raised (length conn.path) (Asked (next_request conn.vc (facts_of c past) rate)) in
    same_last passed.before ends.0 answered (HasTold Raised) (sym passed.answers ∙ ap (outcomes_from net past) (grant_is_story net past c conn known rate plan can) ∙ grant.outcomes ∙ ends.1)

-- the last of events that ask for rates asks for one
pub last_asks : (xs : List Event) (x : Event) → All AsksRate (xs ++ x ∷ []) → AsksRate x
last_asks [] x all = first_asks x [] all
last_asks (y ∷ xs) x all = last_asks xs x (others_ask y (xs ++ x ∷ []) all)
