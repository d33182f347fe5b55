-- A world to which one more event happened stands for one more.
use Rattle.std.proofs.Common.{◌≡◌, ℕ, zero, suc, ◌≤◌, ◌<◌, List, [], ◌∷◌, ◌++◌, inl, inr, refl, sym, subst, ap, ◌∙◌, arith, length, take, drop, map, Result, Ok, Err}
use Rattle.std.specs.Prelude.{Some, None, option_map, slice_get, slice_set, All, MatchResult, OnOk, unwrap_or}
use Rattle.std.proofs.lemmas.Bool.{cases_eq}
use Rattle.std.proofs.lemmas.Option.{slice_get_past}
use Rattle.std.proofs.lemmas.List.Elements.{All-append, All-cons, All-nil, All-take}
use Rattle.std.proofs.Math.Seq.{take-append_seam}
use Rattle.abt_net.specs.declared.conn.Conn.{Conn}
use Rattle.abt_net.specs.Topology.{Topology, IsWithinRules, conn_at}
use Rattle.abt_node.specs.Table.{Table}
use Rattle.abt_facts.specs.declared.fact.Fact.{Fact}
use Rattle.abt_index.specs.Index.{Index, index_of}
use Rattle.abt_actor.specs.Actor.{ActorView, actor_of}
use Rattle.abt_model.specs.declared.event.Event.{Event}
use Rattle.abt_model.specs.declared.outcome.Cause.TheVariants.{Unknown}
use Rattle.abt_model.specs.declared.outcome.Outcome.{Outcome}
use Rattle.abt_model.specs.declared.outcome.Outcome.TheVariants.{NotEnabled}
use Rattle.abt_model.specs.Events.{AsksRate}
use Rattle.abt_model.specs.Past.{Past, facts_of}
use Rattle.abt_model.specs.Outcomes.{conn_of, outcome_of, after_event}
use Rattle.abt_model.specs.PortTable.{port_table}
use Rattle.abt_model.specs.Run.{facts_after}
use Rattle.abt_model.proofs.EveryPasts.{every_safe, every_never_disputes, every_one_answer, every_rates_wait, every_yes_stands, every_arrival_conforms, every_next_is_due, every_store_covers}
use Rattle.abt_model.proofs.Runs.{facts_from_push}
use Rattle.abt_model.proofs.Worlds.{other_conn, outcome_of-unknown, after_event-unknown, facts_of-other}
use Rattle.abt_world.specs.Standing.{WorldView, IsOfPast, StandsFor}
use Rattle.abt_world.specs.ConnectionStates.{ConnectionView, connection_of}
use Rattle.abt_world.specs.Headline.{HeadlineHolds}
use Rattle.abt_world.specs.Steps.{ArePorts, Leaves}
use Rattle.abt_world.proofs.Serving.{set_here, set_other}

pub match_more : {A E : Type 0} {P Q : A → Type 0} {R S : E → Type 0} (r : Result A E) → MatchResult r P R → ((x : A) → P x → Q x) → ((y : E) → R y → S y) → MatchResult r Q S
match_more (Ok x) h f g = f x h
match_more (Err y) h f g = g y h

-- as many tables as ports
same_length : (tables : List Table) (capacities : List ℕ) (table : ℕ → Table) → ((p : ℕ) → slice_get tables p ≡ option_map (λ (_ : ℕ). table p) (slice_get capacities p)) → length tables ≡ length capacities
same_length [] [] table h = refl
same_length [] (u ∷ capacities) table h = absurd (let e = h 0 in cc)
same_length (t ∷ tables) [] table h = absurd (let e = h 0 in cc)
same_length (t ∷ tables) (u ∷ capacities) table h = ap suc (same_length tables capacities (λ p. table (suc p)) (λ p. h (suc p)))

pub port_count : (net : Topology) (past : Past) (ports : List Table) → ArePorts net past ports → length ports ≡ length net.capacities
port_count net past ports are = same_length ports net.capacities (λ p. port_table net past p) are

refilled : {A : Type 0} (new old : List A) → length new ≡ length old → take (length old) (new ++ drop (length new) old) ≡ new
refilled [] [] same = refl
refilled [] (x ∷ old) same = absurd (omega arith)
refilled (y ∷ new) [] same = absurd (omega arith)
refilled {A = A} (y ∷ new) (x ∷ old) same = ap (λ (l : List A). y ∷ l) (refilled new old (omega arith))

-- what is written over all of a list
pub written_over : {A : Type 0} (n : ℕ) (new old : List A) → n ≡ length old → length new ≡ length old → take n (new ++ drop (length new) old) ≡ new
written_over n new old count same = ap (λ m. take m (new ++ drop (length new) old)) count ∙ refilled new old same

pub map_set : {A B : Type 0} (f : A → B) (xs : List A) (i : ℕ) (y : A) → map f (slice_set xs i y) ≡ slice_set (map f xs) i (f y)
map_set f [] i y = refl
map_set f (x ∷ xs) zero y = refl
map_set {B = B} f (x ∷ xs) (suc i) y = ap (λ (l : List B). f x ∷ l) (map_set f xs i y)

pub set_same : {A : Type 0} (xs : List A) (i : ℕ) (y : A) → slice_get xs i ≡ Some y → slice_set xs i y ≡ xs
set_same [] i y at = refl
set_same {A = A} (x ∷ xs) zero y at = (let is : y ≡ x = cc in ap (λ (z : A). z ∷ xs) is)
set_same {A = A} (x ∷ xs) (suc i) y at = ap (λ (l : List A). x ∷ l) (set_same xs i y at)

pub one_more : (net : Topology) (events : List Event) (e : Event) → facts_after net (events ++ e ∷ []) ≡ after_event net (facts_after net events) e
one_more net events e = facts_from_push net [] events e

pub all_ask : (events : List Event) (e : Event) → All AsksRate events → AsksRate e → All AsksRate (events ++ e ∷ [])
all_ask events e rates asks = All-append AsksRate events (e ∷ []) rates (All-cons AsksRate e [] asks (All-nil AsksRate))

-- an event that changes nothing
pub still : (net : Topology) (events : List Event) (world : WorldView) (e : Event) (looks : ℕ) → StandsFor net events world → AsksRate e → after_event net (facts_after net events) e ≡ facts_after net events →
    StandsFor net (events ++ e ∷ []) (record { net = world.net; ports = world.ports; connections = world.connections; looks = looks })
still net events world e looks stands asks stays = record {
  rates = all_ask events e stands.rates asks;
  stands = subst (λ (p : Past). IsOfPast net p (record { net = world.net; ports = world.ports; connections = world.connections; looks = looks })) (sym (one_more net events e ∙ stays))
      (record { net_is = stands.stands.net_is; ports = stands.stands.ports; connections = stands.stands.connections });
}

-- an event of a connection that the net doesn't have
pub step_unknown :
    (net : Topology) (events : List Event) (world : WorldView) (e : Event) (c looks : ℕ) → StandsFor net events world → AsksRate e → conn_of e ≡ Some c → length net.conns ≤ c →
    (NotEnabled Unknown ≡ outcome_of net (facts_after net events) e) × StandsFor net (events ++ e ∷ []) (record { net = world.net; ports = world.ports; connections = world.connections; looks = looks })
step_unknown net events world e c looks stands asks own past_end =
    let past = facts_after net events in
    let unknown : conn_at net c ≡ None = slice_get_past net.conns c past_end in (
      sym (outcome_of-unknown net past e c own unknown),
      still net events world e looks stands asks (after_event-unknown net past e c own unknown),
    )

-- the connection that the event comes to
pub state_at : (net : Topology) (past : Past) (world : WorldView) (c : ℕ) (conn : Conn) → IsOfPast net past world → conn_at net c ≡ Some conn →
    slice_get world.connections c ≡ Some (connection_of conn.vc (facts_of c past))
state_at net past world c conn is known = is.connections c ∙ ap (option_map (λ (k : Conn). connection_of k.vc (facts_of c past))) known

same_connection : (connection : ConnectionView) (actor : ActorView) (index : Index) → connection.actor ≡ actor → connection.index ≡ index → connection ≡ record { actor = actor; index = index }
same_connection connection actor index a i =
    ap {A = ActorView} {B = ConnectionView} (λ x. record { actor = x; index = connection.index }) a ∙ ap {A = Index} {B = ConnectionView} (λ x. record { actor = actor; index = x }) i

pub some_same : {A : Type 0} (x y : A) → Some x ≡ Some y → x ≡ y
some_same x y e = ap (λ o. unwrap_or o x) e

-- an event that its connection took
pub step_taken :
    (net : Topology) (events : List Event) (world : WorldView) (e : Event) (c : ℕ) (conn : Conn) (outcome : Outcome) (connection : ConnectionView) (ports : List Table) (looks : ℕ) →
    StandsFor net events world → AsksRate e → conn_of e ≡ Some c → conn_at net c ≡ Some conn → c < length world.connections →
    Leaves net (facts_after net events) c e conn outcome connection.actor connection.index ports →
    (outcome ≡ outcome_of net (facts_after net events) e) × StandsFor net (events ++ e ∷ []) (record { net = world.net; ports = ports; connections = slice_set world.connections c connection; looks = looks })
step_taken net events world e c conn outcome connection ports looks stands asks own known low leaves =
    let past = facts_after net events in
    let connection_is : connection ≡ connection_of conn.vc (facts_of c (after_event net past e)) = same_connection connection (actor_of conn.vc (facts_of c (after_event net past e))) (index_of (facts_of c (after_event net past e))) leaves.actor_is leaves.index_is in
    let each : (d : ℕ) → slice_get (slice_set world.connections c connection) d ≡ option_map (λ (k : Conn). connection_of k.vc (facts_of d (after_event net past e))) (conn_at net d) =
    λ d. elim (cases_eq c d) [
      | inl here ↦ subst (λ n. slice_get (slice_set world.connections c connection) n ≡ option_map (λ (k : Conn). connection_of k.vc (facts_of n (after_event net past e))) (conn_at net n)) here
          (set_here world.connections c connection low ∙ ap Some connection_is ∙ sym (ap (option_map (λ (k : Conn). connection_of k.vc (facts_of c (after_event net past e)))) known))
      | inr other ↦ set_other world.connections c d connection other ∙ stands.stands.connections d
          ∙ ap (λ (fs : List Fact). option_map (λ (k : Conn). connection_of k.vc fs) (conn_at net d)) (sym (facts_of-other net past e d (λ whose. other_conn c d other (sym own ∙ whose))))
    ] in (
      leaves.answer,
      record {
        rates = all_ask events e stands.rates asks;
        stands = subst (λ (p : Past). IsOfPast net p (record { net = world.net; ports = ports; connections = slice_set world.connections c connection; looks = looks })) (sym (one_more net events e))
            (record { net_is = stands.stands.net_is; ports = leaves.tables; connections = each });
      },
    )

-- the headline holds whatever happened
pub headline_holds : (net : Topology) (events : List Event) → IsWithinRules net → All AsksRate events → HeadlineHolds net (facts_after net events)
headline_holds net events rules asks = record {
  safe = every_safe net events rules asks;
  drops = every_never_disputes net events rules asks;
  answers = every_one_answer net events rules asks;
  floors = every_rates_wait net events rules asks;
  raised = every_yes_stands net events rules asks;
  verdicts = every_arrival_conforms net events rules asks;
  due = every_next_is_due net events rules asks;
  stores = every_store_covers net events rules asks;
}

pub headline_after : (net : Topology) (events : List Event) (e : Event) → IsWithinRules net → All AsksRate events → AsksRate e → HeadlineHolds net (facts_after net (events ++ e ∷ []))
headline_after net events e rules rates asks = headline_holds net (events ++ e ∷ []) rules (all_ask events e rates asks)

-- also after the first of some events
pub headline_before : (net : Topology) (before after events : List Event) → IsWithinRules net → All AsksRate events → before ++ after ≡ events → HeadlineHolds net (facts_after net before)
headline_before net before after events rules asks is =
    let first : take (length before) events ≡ before = ap (take (length before)) (sym is) ∙ take-append_seam before after in
    headline_holds net before rules (subst (All AsksRate) first (All-take AsksRate (length before) events asks))

pub on_ok_holds : {A E : Type 0} {P : Type 0} (r : Result A E) → P → OnOk r P
on_ok_holds (Ok x) p = p
on_ok_holds (Err y) p = tt
