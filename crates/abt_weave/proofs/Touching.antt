-- The actors that an event touches, by their numbers in a queue.
use Rattle.std.proofs.Common.{◌≡◌, ℕ, ◌+◌, ◌-◌, ◌<◌, ◌≤◌, inl, inr, ap, Bool, true, List, length, ◌∙◌, sym, subst, None, Some, arith}
use Rattle.std.specs.Prelude.{◌⊎◌, nat_lt, slice_index, min, Result, OnOk}
use Rattle.std.proofs.lemmas.Result.{on_ok_weaker}
use Rattle.std.proofs.Math.Nat.{min-eq_left, min-eq_right}
use Rattle.std.proofs.lemmas.Bool.{cases_Bool, cases_eq}
use Rattle.std.proofs.lemmas.Option.{slice_get_within}
use Rattle.abt_net.specs.declared.conn.Conn.{Conn}
use Rattle.abt_net.specs.Topology.{Topology, conn_at}
use Rattle.abt_model.specs.declared.event.Event.{Event}
use Rattle.abt_model.specs.declared.target.Target.TheVariants as target
use Rattle.abt_model.specs.Outcomes.{conn_of}
use Rattle.abt_model.specs.PortTable.{hop_visited}
use Rattle.abt_model.specs.Targets.{target_of, conn_in}
use Rattle.abt_model.proofs.Steps.{is_hop_tells}
use Rattle.abt_weave.specs.declared.actor.Actor.TheVariants.{Source, Port}
use Rattle.abt_weave.specs.Stuck.{RunJournals}
use Rattle.abt_weave.specs.declared.queue.Queue.{Queue}
use Rattle.abt_weave.specs.Actors.{actor_at}
use Rattle.abt_weave.specs.Progress.{count}
use Rattle.abt_weave.specs.Queue.{Wakes}
use Rattle.abt_weave.specs.Waking.{AreNear, IsAbout, IsPassed, Touches, AreTouched, IsPortFor, AreOnPath, IsSourceFor, AreOfConn}
use Rattle.abt_weave.proofs.Numbers.{below_if, below_else, source_at, port_at}
use Rattle.abt_weave.proofs.PortEvents.{some_same}
use Rattle.abt_weave.proofs.Queues.{wakes_none, wakes_both}

-- an actor by its number
pub cases_actor : (net : Topology) (i : ℕ) → ((i < length net.conns) × (actor_at net i ≡ Source i)) ⊎ ((p : ℕ) × (i ≡ length net.conns + p) × (actor_at net i ≡ Port p))
cases_actor net i = elim (cases_Bool (nat_lt i (length net.conns))) [
  | inl less ↦ (let low = below_if i (length net.conns) less in inl (low, source_at net i low))
  | inr more ↦ (
      let high = below_else i (length net.conns) more in
      let is : i ≡ length net.conns + (i - length net.conns) = omega (arith, high) in
      inr (i - length net.conns, is, ap (actor_at net) is ∙ port_at net (i - length net.conns)))
]

-- those that an event of a connection touches are woken with the connection
passed_on : (net : Topology) (js : RunJournals) (later : List Event) (event : Event) (c p : ℕ) → conn_of event ≡ Some c → IsPassed net js later event p → AreOnPath net js later c (hop_visited event) (length net.conns + p)
passed_on net js later event c p whose passed =
    let same : passed.c ≡ c = some_same (sym passed.whose ∙ whose) in
    let hop = is_hop_tells (length passed.conn.path) passed.hop passed.within in
    let back : passed.hop - 1 + 1 ≡ passed.hop = omega (arith, hop.0) in
    record {
      conn = passed.conn;
      known = ap (conn_at net) (sym same) ∙ passed.known;
      place = passed.hop - 1;
      low = omega (arith, hop.0, hop.1);
      number = ap (λ q. length net.conns + q) (sym passed.port);
      why = elim passed.why [
        | inl here ↦ inl (back ∙ here)
        | inr about ↦ inr (subst (λ n. AreNear n (hop_visited event)) (sym back) about.0, subst (λ q. IsAbout net js later q passed.conn.vc) (sym passed.port) about.1)
      ];
    }

pub touched_of : (net : Topology) (js : RunJournals) (later : List Event) (event : Event) (c i : ℕ) → conn_of event ≡ Some c → AreTouched net js later event i → AreOfConn net js later c (hop_visited event) i
touched_of net js later event c i whose touched = elim (cases_actor net i) [
  | inl source ↦ (
      let own : Touches net js later event (Source i) = subst (Touches net js later event) source.1 touched.1 in
      let same : i ≡ c = some_same (sym own.0 ∙ whose) in
      inl ((same, own.1), subst (λ n. n < length net.conns) same source.0))
  | inr port ↦ (
      let there : Touches net js later event (Port port.0) = subst (Touches net js later event) port.2 touched.1 in
      elim there [
        | inl alone ↦ (let clash : None ≡ Some c = sym (ap conn_of alone.1) ∙ whose in absurd (cc))
        | inr passed ↦ inr (subst (AreOnPath net js later c (hop_visited event)) (sym port.1) (passed_on net js later event c port.0 whose passed))
      ])
]

-- who wakes more wakes these
pub wakes_sub : (less more : ℕ → Type 0) (old new : Queue) → ((i : ℕ) → less i → more i) → Wakes more old new → Wakes less old new
wakes_sub less more old new covers all = record { marks = all.marks; count = all.count; keeps = all.keeps; wakes = λ i w. all.wakes i (covers i w) }

pub touched_wakes : {T E : Type 0} → (r : Result T E) (net : Topology) (js : RunJournals) (later : List Event) (event : Event) (c hop : ℕ) (old new : Queue) → conn_of event ≡ Some c → hop ≡ hop_visited event →
    OnOk r (Wakes (AreOfConn net js later c hop) old new) → OnOk r (Wakes (AreTouched net js later event) old new)
touched_wakes r net js later event c hop old new whose is woken =
    on_ok_weaker r
    (λ all. wakes_sub (AreTouched net js later event) (AreOfConn net js later c hop) old new (λ i touched. subst (λ n. AreOfConn net js later c n i) (sym is) (touched_of net js later event c i whose touched)) all)
    woken

target_port : (p u q w : ℕ) → target.Port p u ≡ target.Port q w → p ≡ q
target_port p u q w e = cc

-- what happens at a port alone touches it alone
pub touched_alone : (net : Topology) (js : RunJournals) (later : List Event) (event : Event) (p u i : ℕ) → target_of event ≡ target.Port p u → AreTouched net js later event i → i ≡ length net.conns + p
touched_alone net js later event p u i is touched =
    let none : conn_of event ≡ None = ap conn_in is in
    elim (cases_actor net i) [
      | inl source ↦ (let own : Touches net js later event (Source i) = subst (Touches net js later event) source.1 touched.1 in let clash : None ≡ Some i = sym none ∙ own.0 in absurd (cc))
      | inr port ↦ (
          let there : Touches net js later event (Port port.0) = subst (Touches net js later event) port.2 touched.1 in
          elim there [
            | inl alone ↦ (
                let both : target.Port p u ≡ target.Port port.0 alone.0 = sym is ∙ ap target_of alone.1 in
                port.1 ∙ ap (λ q. length net.conns + q) (sym (target_port p u port.0 alone.0 both)))
            | inr passed ↦ (let clash : None ≡ Some passed.c = sym none ∙ passed.whose in absurd (cc))
          ])
    ]

-- those of a path that are touched and stand below this place
abbrev pub IsPassedPlace : Topology → RunJournals → List Event → (c hop n i : ℕ) → Type 0
IsPassedPlace net js later c hop n i = (on : AreOnPath net js later c hop i) × (on.place < n)

-- one place more
pub place_more : (net : Topology) (js : RunJournals) (later : List Event) (c hop n port : ℕ) (conn : Conn) (came : Bool) (old now new : Queue) → conn_at net c ≡ Some conn → slice_index conn.path n ≡ port → (n + 1 ≡ hop → came ≡ true) →
    Wakes (IsPassedPlace net js later c hop n) old now → Wakes (IsPortFor net js later port came conn.vc) now new → Wakes (IsPassedPlace net js later c hop (n + 1)) old new
place_more net js later c hop n port conn came old now new known here came_is before after =
    wakes_both (IsPassedPlace net js later c hop n) (IsPortFor net js later port came conn.vc) (IsPassedPlace net js later c hop (n + 1)) old now new before after
    (λ i at. elim (cases_eq at.0.place n) [
      | inr differ ↦ inl (at.0, (let low = at.1 in omega (arith, low, differ)))
      | inl same ↦ (
          let its : at.0.conn ≡ conn = some_same (sym at.0.known ∙ known) in
          let port_is : slice_index at.0.conn.path at.0.place ≡ port = ap (λ (k : Conn). slice_index k.path at.0.place) its ∙ ap (slice_index conn.path) same ∙ here in
          inr (
            at.0.number ∙ ap (λ q. length net.conns + q) port_is,
            elim at.0.why [
              | inl hop_is ↦ inl (came_is (ap (λ m. m + 1) (sym same) ∙ hop_is))
              | inr about ↦ inr (subst (λ (k : Conn). IsAbout net js later port k.vc) its (subst (λ q. IsAbout net js later q at.0.conn.vc) port_is about.1))
            ],
          ))
    ])

-- none stands below the hop before that of the event
pub path_begun : (net : Topology) (js : RunJournals) (later : List Event) (c hop n : ℕ) (queue : Queue) → n ≤ hop - 2 → Wakes (IsPassedPlace net js later c hop n) queue queue
path_begun net js later c hop n queue low = wakes_none (IsPassedPlace net js later c hop n) queue (λ i at. absurd (elim at.0.why [
  | inl here ↦ (let below = at.1 in omega (arith, low, below, here))
  | inr about ↦ (let below = at.1 in let near = about.0.1 in omega (arith, low, below, near))
]))

-- and all stand below the hop behind it, and below the end of the path
min_either : (a b : ℕ) → (min a b ≡ a) ⊎ (min a b ≡ b)
min_either a b = elim (cases_Bool (nat_lt b a)) [
  | inl less ↦ inr (min-eq_right (let low = below_if b a less in omega (arith, low)))
  | inr more ↦ inl (min-eq_left (below_else b a more))
]

pub path_whole : (net : Topology) (js : RunJournals) (later : List Event) (c hop n : ℕ) (conn : Conn) (old new : Queue) → conn_at net c ≡ Some conn → min (length conn.path) (hop + 1) ≤ n →
    Wakes (IsPassedPlace net js later c hop n) old new → Wakes (AreOnPath net js later c hop) old new
path_whole net js later c hop n conn old new known high before = record {
  marks = before.marks;
  count = before.count;
  keeps = before.keeps;
  wakes = λ i on. before.wakes i (
    on,
    elim (min_either (length conn.path) (hop + 1)) [
      | inl whole ↦ (let its : length on.conn.path ≡ length conn.path = ap (λ (k : Conn). length k.path) (some_same (sym on.known ∙ known)) in let low = on.low in omega (arith, low, its, high, whole))
      | inr behind ↦ elim on.why [
        | inl here ↦ omega (arith, high, behind, here)
        | inr about ↦ (let near = about.0.0 in omega (arith, high, behind, near))
      ]
    ],
  );
}

-- a connection that the net doesn't have
pub unknown_conn : (net : Topology) (js : RunJournals) (later : List Event) (c hop i : ℕ) → length net.conns ≤ c → AreOfConn net js later c hop i → ⊥
unknown_conn net js later c hop i high (inl source) = (let low = source.1 in omega (arith, low, high))
unknown_conn net js later c hop i high (inr on) = (let low = slice_get_within net.conns c on.conn on.known in omega (arith, low, high))

-- the source, if the event happened there or came to the first hop
pub source_woken : (c hop : ℕ) (old new : Queue) → Wakes (λ i. i ≡ c) old new → Wakes (IsSourceFor c hop) old new
source_woken c hop old new woken = wakes_sub (IsSourceFor c hop) (λ i. i ≡ c) old new (λ i source. source.0) woken

pub source_apart : (c hop : ℕ) (queue : Queue) → 1 < hop → Wakes (IsSourceFor c hop) queue queue
source_apart c hop queue high = wakes_none (IsSourceFor c hop) queue (λ i source. absurd (let low = source.1 in omega (arith, low, high)))

-- both
pub conn_whole : (net : Topology) (js : RunJournals) (later : List Event) (c hop : ℕ) (old now new : Queue) → Wakes (IsSourceFor c hop) old now → Wakes (AreOnPath net js later c hop) now new → Wakes (AreOfConn net js later c hop) old new
conn_whole net js later c hop old now new first second =
    wakes_both (IsSourceFor c hop) (AreOnPath net js later c hop) (AreOfConn net js later c hop) old now new first second
    (λ i which. elim which [
      | inl source ↦ inl source.0
      | inr on ↦ inr on
    ])
