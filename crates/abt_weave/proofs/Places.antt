-- Entries that stand beside a step name its place, and each such step has one.
use Rattle.std.proofs.Common.{◌≡◌, ℕ, ◌-◌, ◌<◌, ◌≤◌, inl, inr, refl, ap, true, false, List, [], ◌∷◌, ◌++◌, length, ◌∙◌, sym, subst, Option, Some, arith}
use Rattle.std.specs.Prelude.{◌==◌, ◌&&◌, nat_lt, slice_get, slice_index}
use Rattle.std.proofs.lemmas.Bool.{cond-true, cases_Bool, cases_eq, eq-eqb, eqb-true}
use Rattle.std.proofs.lemmas.Bool.Decides.{nat_tests}
use Rattle.std.proofs.lemmas.Option.{slice_get_within, get_or_from_slice_get}
use Rattle.std.proofs.lemmas.List.{length-append}
use Rattle.abt_cell.specs.Channel.{Channel}
use Rattle.abt_net.specs.declared.conn.Conn.{Conn}
use Rattle.abt_net.specs.Topology.{Topology, IsWithinRules, conn_at}
use Rattle.abt_facts.specs.declared.fact.Fact.{Fact}
use Rattle.abt_model.specs.declared.event.Event.{Event}
use Rattle.abt_model.specs.declared.event.Event.TheVariants.{Arrive, Request, Turn, Answer, Told, Capacity}
use Rattle.abt_model.specs.Outcomes.{conn_of, outcome_of}
use Rattle.abt_cell.specs.Message.{answer_to}
use Rattle.abt_source.specs.SourceFacts.{request_of}
use Rattle.abt_model.specs.Past.{facts_of}
use Rattle.abt_net.specs.Paths.{hop_of}
use Rattle.abt_model.proofs.Served.{conn_within}
use Rattle.abt_model.proofs.Worlds.{cases_option, conn_cases}
use Rattle.abt_model.specs.PortTable.{hop_visited}
use Rattle.abt_journal.specs.declared.input.PortInput.{PortInput}
use Rattle.abt_journal.specs.declared.input.PortInput.TheVariants.{Request as RequestIn, Answer as AnswerIn, Arrive as ArriveIn, Capacity as CapacityIn}
use Rattle.abt_model.specs.declared.entry.SourceEntry.{SourceEntry}
use Rattle.abt_model.specs.declared.entry.SourceEntry.TheVariants.{Did, Sent, Arrived as ArrivedAt}
use Rattle.abt_weave.specs.Projections.{Step, Visit, is_enabled, input_of, first_port, place_at_first, past_of, visit, step_at, steps_on, entry_made, entry_at, entries_on}
use Rattle.abt_weave.proofs.Candidates.{cond_some, and_both}
use Rattle.abt_weave.proofs.Growth.{entries_other, entries_none, steps_none, steps_other}
use Rattle.abt_weave.proofs.PortEvents.{visit_by_input, visit_made, has_reply, reply_enabled, made_beside, some_same}
use Rattle.abt_weave.proofs.PortLooks.{first_hop}
use Rattle.abt_weave.proofs.Prefixes.{begins_more, get_whole, get_last, get_more}
use Rattle.abt_net.proofs.PathLemmas.{hop_at}
use Rattle.abt_weave.proofs.Replays.{hop_here}
use Rattle.abt_weave.specs.Comes.{entry_beside}

-- the place that an entry beside a step names
abbrev pub Names : SourceEntry → ℕ → Type 0
Names (Did event outcome) n = ⊥
Names (Sent place) n = place ≡ n
Names (ArrivedAt cell place) n = place ≡ n

-- steps never get fewer
pub steps_grow : (net : Topology) (p : ℕ) (earlier : List Event) (event : Event) → length (steps_on net p earlier) ≤ length (steps_on net p (event ∷ earlier))
steps_grow net p earlier event =
    let e = length-append (steps_on net p earlier) (step_at p (length (steps_on net p earlier)) (visit net (past_of net earlier) event)) in omega (arith, e)

-- an event that comes to a port of this number makes its next step
pub step_made : (net : Topology) (earlier : List Event) (event : Event) (v : Visit) → visit net (past_of net earlier) event ≡ Some v →
    steps_on net v.port (event ∷ earlier) ≡ steps_on net v.port earlier ++ record { place = length (steps_on net v.port earlier); input = v.input; reply = v.reply } ∷ []
step_made net earlier event v is =
    ap (λ (o : Option Visit). steps_on net v.port earlier ++ step_at v.port (length (steps_on net v.port earlier)) o) is
    ∙ ap (λ (l : List Step). steps_on net v.port earlier ++ l) (cond-true _ _ _ (eq-eqb v.port v.port refl))

-- an event beside whose step an entry stands, by that
pub record IsBesideStep (net : Topology) (earlier : List Event) (c : ℕ) (conn : Conn) (event : Event) : Type 0 where
  pub v : Visit
  pub visits : visit net (past_of net earlier) event ≡ Some v
  pub first : v.port ≡ slice_index conn.path 0

first_at : (net : Topology) (c : ℕ) (conn : Conn) → conn_at net c ≡ Some conn → first_port (conn_at net c) ≡ slice_index conn.path 0
first_at net c conn known = ap first_port known

visits_first : (net : Topology) → IsWithinRules net → (earlier : List Event) (c : ℕ) (conn : Conn) (event : Event) (input : PortInput) → conn_at net c ≡ Some conn → conn_of event ≡ Some c → hop_visited event ≡ 1 →
    input_of conn.vc (facts_of c (past_of net earlier)) event ≡ Some input → is_enabled (outcome_of net (past_of net earlier) event) ≡ true → IsBesideStep net earlier c conn event
visits_first net rules earlier c conn event input known whose one brings on =
    let past = past_of net earlier in
    let reply = has_reply net past event c conn input whose known (first_hop net rules c conn known) brings on in
    record {
      v = record { port = slice_index conn.path (hop_visited event - 1); input = input; reply = reply.reply };
      visits = visit_made net past event c conn input reply.reply whose known brings reply.is;
      first = ap (λ n. slice_index conn.path (n - 1)) one;
    }

-- an entry that is made beside a step names the place that the step takes
pub named_now : (net : Topology) → IsWithinRules net → (earlier : List Event) (c : ℕ) (conn : Conn) (event : Event) (x : SourceEntry) (n : ℕ) → conn_at net c ≡ Some conn → conn_of event ≡ Some c →
    entry_made net earlier event ≡ Some x → Names x n → (n ≡ length (steps_on net (slice_index conn.path 0) earlier)) × IsBesideStep net earlier c conn event
named_now net rules earlier c conn (Request d hop seq) x n known whose made names =
    let event = Request d hop seq in
    let o = outcome_of net (past_of net earlier) event in
    let both = cond_some (is_enabled o && hop == 1) (Some (Sent (place_at_first net earlier event))) x made in
    let parts = and_both (is_enabled o) (hop == 1) both.0 in
    let is : x ≡ Sent (place_at_first net earlier event) = sym (some_same both.1) in
    let place : place_at_first net earlier event ≡ n = subst (λ y. Names y n) is names in
    let first = first_at net d conn (ap (conn_at net) (some_same whose) ∙ known) in
    (sym place ∙ ap (λ p. length (steps_on net p earlier)) first, visits_first net rules earlier c conn event _ known whose (eqb-true hop 1 parts.1) refl parts.0)
named_now net rules earlier c conn (Arrive d cell at) x n known whose made names =
    let event = Arrive d cell at in
    let o = outcome_of net (past_of net earlier) event in
    let both = cond_some (is_enabled o) (Some (ArrivedAt cell (place_at_first net earlier event))) x made in
    let is : x ≡ ArrivedAt cell (place_at_first net earlier event) = sym (some_same both.1) in
    let place : place_at_first net earlier event ≡ n = subst (λ y. Names y n) is names in
    let first = first_at net d conn (ap (conn_at net) (some_same whose) ∙ known) in
    (sym place ∙ ap (λ p. length (steps_on net p earlier)) first, visits_first net rules earlier c conn event _ known whose refl refl both.0)
named_now net rules earlier c conn (Told d seq granted) x n known whose made names =
    let event = Told d seq granted in
    let o = outcome_of net (past_of net earlier) event in
    let both = cond_some (is_enabled o) (Some (Did event o)) x made in
    let is : x ≡ Did event o = sym (some_same both.1) in absurd (subst (λ y. Names y n) is names)
named_now net rules earlier c conn (Turn d seq) x n known whose made names = absurd (cc)
named_now net rules earlier c conn (Answer d hop seq granted) x n known whose made names = absurd (cc)
named_now net rules earlier c conn (Capacity p u) x n known whose made names = absurd (cc)
named_now net rules earlier c conn other x n known whose made names = absurd (subst (λ y. Names y n) (sym (some_same made)) names)

-- the entries of a source after an event
pub entries_made : (net : Topology) (earlier : List Event) (event : Event) (c : ℕ) (x : SourceEntry) → entry_made net earlier event ≡ Some x → conn_of event ≡ Some c →
    entries_on net c (event ∷ earlier) ≡ entries_on net c earlier ++ x ∷ []
entries_made net earlier event c x made same =
    ap (λ (o : Option SourceEntry). entries_on net c earlier ++ entry_at (conn_of event) c o) made
    ∙ ap (λ (own : Option ℕ). entries_on net c earlier ++ entry_at own c (Some x)) same
    ∙ ap (λ (l : List SourceEntry). entries_on net c earlier ++ l) (cond-true _ _ _ (eq-eqb c c refl))

-- whatever place an entry names, there is a step
pub named_low : (net : Topology) → IsWithinRules net → (c : ℕ) (conn : Conn) → conn_at net c ≡ Some conn → (earlier : List Event) (i n : ℕ) (x : SourceEntry) → slice_get (entries_on net c earlier) i ≡ Some x → Names x n →
    n < length (steps_on net (slice_index conn.path 0) earlier)
named_low net rules c conn known [] i n x at names = absurd (cc)
named_low net rules c conn known (event ∷ earlier) i n x at names =
    let p = slice_index conn.path 0 in
    let old : slice_get (entries_on net c earlier) i ≡ Some x → n < length (steps_on net p (event ∷ earlier))
    = λ before. (let low = named_low net rules c conn known earlier i n x before names in let more = steps_grow net p earlier event in omega (arith, low, more)) in
    elim (conn_cases event c) [
      | inr differ ↦ old (ap (λ l. slice_get l i) (sym (entries_other net earlier event c differ)) ∙ at)
      | inl same ↦ (elim (cases_option (entry_made net earlier event)) [
        | inl none ↦ old (ap (λ l. slice_get l i) (sym (entries_none net earlier event c none)) ∙ at)
        | inr some ↦ get_more (entries_on net c earlier) some.0 i x (ap (λ l. slice_get l i) (sym (entries_made net earlier event c some.0 some.1 same)) ∙ at) (n < length (steps_on net p (event ∷ earlier))) old
            (λ last is. (let now = named_now net rules earlier c conn event some.0 n known same some.1 (subst (λ y. Names y n) (sym is) names) in
            let made = ap (λ l. length l) (step_made net earlier event now.1.v now.1.visits) ∙ length-append (steps_on net now.1.v.port earlier) _ in
            let longer : n < length (steps_on net now.1.v.port (event ∷ earlier)) = subst (λ q. n < length (steps_on net q (event ∷ earlier))) refl
            (let count : n ≡ length (steps_on net now.1.v.port earlier) = now.0 ∙ ap (λ q. length (steps_on net q earlier)) (sym now.1.first) in omega (arith, made, count)) in
            subst (λ q. n < length (steps_on net q (event ∷ earlier))) now.1.first longer))
      ])
    ]

pub less_if : (m n : ℕ) → nat_lt m n ≡ true → m < n
less_if m n h = grind (arith, nat_tests)

less_else : (m n : ℕ) → nat_lt m n ≡ false → n ≤ m
less_else m n h = grind (arith, nat_tests)

-- no two connections of a net have the same channel
before_differs : (net : Topology) → IsWithinRules net → (c d : ℕ) (a b : Conn) → conn_at net c ≡ Some a → conn_at net d ≡ Some b → a.vc ≡ b.vc → c < d → ⊥
before_differs net rules c d a b one other same less =
    rules.own_channels c d a less (slice_get_within net.conns d b other)
    (ap (λ (k : Conn). k.vc) (get_or_from_slice_get net.conns c a a one) ∙ same ∙ ap (λ (k : Conn). k.vc) (sym (get_or_from_slice_get net.conns d b a other)))

pub own_number : (net : Topology) → IsWithinRules net → (c d : ℕ) (a b : Conn) → conn_at net c ≡ Some a → conn_at net d ≡ Some b → a.vc ≡ b.vc → c ≡ d
own_number net rules c d a b one other same = elim (cases_eq c d) [
  | inl equal ↦ equal
  | inr differ ↦ absurd (elim (cases_Bool (nat_lt c d)) [
    | inl less ↦ before_differs net rules c d a b one other same (less_if c d less)
    | inr more ↦ before_differs net rules d c b a other one (sym same) (let low = less_else c d more in omega (arith, low, differ))
  ])
]

-- a step of a connection at the first port of its path: a request or a cell comes
abbrev pub IsFirstStep : Channel → PortInput → Type 0
IsFirstStep vc (RequestIn request) = request.vc ≡ vc
IsFirstStep vc (ArriveIn channel at) = channel ≡ vc
IsFirstStep vc (AnswerIn answer) = ⊥
IsFirstStep vc (CapacityIn capacity) = ⊥

-- what stands in a source's journal beside a step
pub record IsNamed (net : Topology) (earlier : List Event) (c n : ℕ) : Type 0 where
  pub i : ℕ
  pub entry : SourceEntry
  pub at : slice_get (entries_on net c earlier) i ≡ Some entry
  pub names : Names entry n

named_on : (net : Topology) (earlier : List Event) (event : Event) (c n : ℕ) → IsNamed net earlier c n → IsNamed net (event ∷ earlier) c n
named_on net earlier event c n its = record {
  i = its.i;
  entry = its.entry;
  at = get_whole (entries_on net c earlier) (entries_on net c (event ∷ earlier)) its.i its.entry (begins_more (entries_on net c earlier) (entry_at (conn_of event) c (entry_made net earlier event))) its.at;
  names = its.names;
}

-- the event that makes such a step is of the connection, and comes to its first hop
first_event : (vc : Channel) (facts : List Fact) (event : Event) (input : PortInput) → input_of vc facts event ≡ Some input → (w : Channel) → IsFirstStep w input → (w ≡ vc) × ((place : ℕ) → hop_visited event ≡ 1 → (x : SourceEntry) × (entry_beside place event ≡ Some x) × Names x place)
first_event vc facts (Request c hop seq) input h w is =
    let same : RequestIn (request_of vc facts seq) ≡ input = some_same h in
    (sym (subst (λ i. IsFirstStep w i) (sym same) is), λ place one. (Sent place, cond-true _ _ _ (eq-eqb hop 1 one), refl))
first_event vc facts (Answer c hop seq granted) input h w is =
    let same : AnswerIn (answer_to (request_of vc facts seq) granted) ≡ input = some_same h in
    absurd (subst (λ i. IsFirstStep w i) (sym same) is)
first_event vc facts (Arrive c cell at) input h w is =
    let same : ArriveIn vc at ≡ input = some_same h in
    (sym (subst (λ i. IsFirstStep w i) (sym same) is), λ place one. (ArrivedAt cell place, refl, refl))
first_event vc facts other input h w is = absurd (cc)

named_new : (net : Topology) → IsWithinRules net → (earlier : List Event) (c : ℕ) (conn : Conn) (event : Event) (v : Visit) → conn_at net c ≡ Some conn → visit net (past_of net earlier) event ≡ Some v →
    v.port ≡ slice_index conn.path 0 → IsFirstStep conn.vc v.input → IsNamed net (event ∷ earlier) c (length (steps_on net (slice_index conn.path 0) earlier))
named_new net rules earlier c conn event v known is here first =
    let past = past_of net earlier in
    let p = slice_index conn.path 0 in
    let n = length (steps_on net p earlier) in
    let parts = visit_by_input net past event v (λ u e. subst (IsFirstStep conn.vc) e first) is in
    let its = first_event parts.conn.vc (facts_of parts.c past) event v.input parts.input conn.vc first in
    let at_c : parts.c ≡ c = own_number net rules parts.c c parts.conn conn parts.known known (sym its.0) in
    let whose : conn_of event ≡ Some c = parts.whose ∙ ap Some at_c in
    let same : parts.conn ≡ conn = some_same (sym parts.known ∙ ap (conn_at net) at_c ∙ known) in
    let within = conn_within net rules c conn known in
    let one : hop_visited event ≡ 1 =
    sym (hop_here net past rules event v parts) ∙ ap (λ q. hop_of parts.conn.path q) here ∙ ap (λ (k : Conn). hop_of k.path p) same ∙ hop_at conn.path 0 within.visits_once within.has_hop in
    let enabled = reply_enabled (outcome_of net past event) v.reply parts.reply in
    let made = made_beside net earlier event p n parts.c parts.conn (outcome_of net past event) v.input (facts_of parts.c past) parts.whose parts.known (parts.port ∙ here) refl parts.input enabled in
    let x = its.1 n one in
    record {
      i = length (entries_on net c earlier);
      entry = x.0;
      at = ap (λ l. slice_get l (length (entries_on net c earlier))) (entries_made net earlier event c x.0 (made ∙ x.1) whose) ∙ get_last (entries_on net c earlier) x.0;
      names = x.2;
    }

-- each request and each cell at the first port of a path has its entry in the source's journal
pub step_named : (net : Topology) → IsWithinRules net → (c : ℕ) (conn : Conn) → conn_at net c ≡ Some conn → (earlier : List Event) (n : ℕ) (step : Step) → slice_get (steps_on net (slice_index conn.path 0) earlier) n ≡ Some step →
    IsFirstStep conn.vc step.input → IsNamed net earlier c n
step_named net rules c conn known [] n step at first = absurd (cc)
step_named net rules c conn known (event ∷ earlier) n step at first =
    let p = slice_index conn.path 0 in
    let old : slice_get (steps_on net p earlier) n ≡ Some step → IsNamed net (event ∷ earlier) c n = λ before. named_on net earlier event c n (step_named net rules c conn known earlier n step before first) in
    elim (cases_option (visit net (past_of net earlier) event)) [
      | inl none ↦ old (ap (λ l. slice_get l n) (sym (steps_none net earlier event p none)) ∙ at)
      | inr some ↦ (elim (cases_eq some.0.port p) [
        | inr differ ↦ old (ap (λ l. slice_get l n) (sym (steps_other net earlier event p some.0 some.1 differ)) ∙ at)
        | inl same ↦ (
            let v = some.0 in
            let made = subst (λ q. steps_on net q (event ∷ earlier) ≡ steps_on net q earlier ++ record { place = length (steps_on net q earlier); input = v.input; reply = v.reply } ∷ []) same (step_made net earlier event v some.1) in
            get_more (steps_on net p earlier) (record { place = length (steps_on net p earlier); input = v.input; reply = v.reply }) n step (ap (λ l. slice_get l n) (sym made) ∙ at) (IsNamed net (event ∷ earlier) c n) old
            (λ last is. subst (IsNamed net (event ∷ earlier) c) (sym last)
            (named_new net rules earlier c conn event v known some.1 same (subst (λ (s : Step). IsFirstStep conn.vc s.input) (sym is) first))))
      ])
    ]
