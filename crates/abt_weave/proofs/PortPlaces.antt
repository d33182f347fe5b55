-- Placing a port's next entry.
use Rattle.std.proofs.Common.{◌≡◌, ℕ, ◌+◌, ◌-◌, ◌<◌, ◌≤◌, inl, inr, refl, ap, Bool, true, false, List, [], ◌∷◌, ◌++◌, length, reverse, ◌∙◌, sym, subst, None, Some, arith}
use Rattle.std.specs.Prelude.{if◌then◌else◌, slice_index}
use Rattle.std.proofs.Math.ListN.{set, length-set}
use Rattle.std.proofs.lemmas.Bool.{false≢true, cond-false, cond-true}
use Rattle.std.proofs.lemmas.List.{set-get_or}
use Rattle.abt_net.specs.Topology.{Topology}
use Rattle.abt_model.specs.declared.event.Event.{Event}
use Rattle.abt_model.specs.declared.event.Event.TheVariants.{Arrive, Request}
use Rattle.abt_model.specs.Outcomes.{conn_of, outcome_of}
use Rattle.abt_model.specs.Past.{facts_of}
use Rattle.abt_model.specs.Run.{facts_after}
use Rattle.abt_model.specs.PortTable.{hop_visited}
use Rattle.abt_journal.specs.declared.input.PortInput.{PortInput}
use Rattle.abt_journal.specs.declared.input.PortReply.{PortReply}
use Rattle.abt_model.specs.declared.entry.SourceEntry.{SourceEntry}
use Rattle.abt_model.specs.declared.entry.SourceEntry.TheVariants.{Sent, Arrived as ArrivedAt}
use Rattle.abt_world.specs.Standing.{WorldView, StandsFor}
use Rattle.abt_weave.specs.Projections.{Step, Visit, reply_of, past_of, steps_on, entry_made, entries_on}
use Rattle.abt_weave.specs.Stuck.{RunJournals, port_journal, source_journal, next_step, ArePlaced, IsBeginning}
use Rattle.abt_weave.proofs.Placing.{fits_placed}
use Rattle.abt_weave.proofs.Turns.{steps_turn, entries_turn}
use Rattle.abt_weave.specs.Candidates.{is_beside}
use Rattle.abt_weave.specs.Comes.{entry_beside, IsComing, IsTurnOf, IsExpected, reached_by}
use Rattle.abt_weave.specs.Progress.{total, IsPlacing}
use Rattle.abt_weave.specs.Shown.{AreShown, IsNeeded}
use Rattle.abt_weave.proofs.Pasts.{past-is, pushed}
use Rattle.abt_weave.proofs.Growth.{ArePlaces, entries_none, entries_one, entries_other, steps_other, steps_one, places_same, places_set}
use Rattle.abt_weave.proofs.SourceLooks.{sum-set_up}
use Rattle.abt_weave.proofs.PortEvents.{some_same, told_same, visit_made, reply_enabled, made_beside, comes_fits}

pub beside_some : (place : ℕ) (event : Event) → is_beside event ≡ true → (x : SourceEntry) × (entry_beside place event ≡ Some x)
beside_some place (Request c hop seq) h = (Sent place, cond-true _ _ _ h)
beside_some place (Arrive c cell at) h = (ArrivedAt cell place, refl)
beside_some place other h = absurd (false≢true h)

beside_none : (place : ℕ) (event : Event) → is_beside event ≡ false → entry_beside place event ≡ None
beside_none place (Request c hop seq) h = cond-false _ _ _ h
beside_none place (Arrive c cell at) h = absurd (false≢true (sym h))
beside_none place other h = refl

sources_placed : (net : Topology) (earlier : List Event) (event : Event) (sp : List ℕ) (c place : ℕ) → entry_made net earlier event ≡ entry_beside place event → conn_of event ≡ Some c → c < length sp →
    ArePlaces sp (λ d. length (entries_on net d earlier)) → (b : Bool) → is_beside event ≡ b →
    ArePlaces (set sp c (if b then slice_index sp c + 1 else slice_index sp c)) (λ d. length (entries_on net d (event ∷ earlier)))
sources_placed net earlier event sp c place made whose low are true beside =
    let some = beside_some place event beside in
    places_set sp c (λ d. length (entries_on net d earlier)) (λ d. length (entries_on net d (event ∷ earlier))) low
    (entries_one net earlier event c some.0 (made ∙ some.1) whose)
    (λ d differ. ap (λ (l : List SourceEntry). length l) (entries_other net earlier event d (λ e. differ (some_same (sym whose ∙ e))))) are
sources_placed net earlier event sp c place made whose low are false beside =
    subst (λ l. ArePlaces l (λ d. length (entries_on net d (event ∷ earlier)))) (sym (set-get_or sp c 0))
    (places_same sp (λ d. length (entries_on net d earlier)) (λ d. length (entries_on net d (event ∷ earlier)))
    (λ d. ap (λ (l : List SourceEntry). length l) (entries_none net earlier event d (made ∙ beside_none place event beside))) are)

total_kept : (sp : List ℕ) (c : ℕ) → c < length sp → (b : Bool) → total sp ≤ total (set sp c (if b then slice_index sp c + 1 else slice_index sp c))
total_kept sp c low true = omega (arith, sum-set_up sp c (slice_index sp c) low refl)
total_kept sp c low false = let e = ap total (set-get_or sp c 0) in omega (arith, e)

pub port_placed : (net : Topology) (js : RunJournals) (events : List Event) (world new : WorldView) (sp pp : List ℕ) (p place c come : ℕ) (event : Event) (input : PortInput) (reply : PortReply) →
    IsPlacing net js events world sp pp → p < length pp → c < length sp → IsComing net js (reverse events) p place input c event →
    reply_of (outcome_of net (facts_after net events) event) ≡ Some reply → next_step net js (reverse events) p ≡ Some (record { place = place; input = input; reply = reply }) →
    StandsFor net (events ++ event ∷ []) new → come ≡ reached_by event (slice_index sp c) →
    IsPlacing net js (events ++ event ∷ []) new (set sp c come) (set pp p (slice_index pp p + 1)) × (total sp + total pp < total (set sp c come) + total (set pp p (slice_index pp p + 1)))
port_placed net js events world new sp pp p place c come event input reply progress low lowc coming replies next stands reached =
    let earlier = reverse events in
    let past = past_of net earlier in
    let comes = coming.comes in
    let answers : reply_of (outcome_of net past event) ≡ Some reply = subst (λ w. reply_of (outcome_of net w event) ≡ Some reply) (past-is net events) replies in
    let brings = told_same net earlier comes.conn.vc comes.c event ∙ comes.brings in
    let is = visit_made net past event comes.c comes.conn input reply comes.whose comes.known brings answers in
    let enabled = reply_enabled (outcome_of net past event) reply answers in
    let made : entry_made net earlier event ≡ entry_beside place event =
    made_beside net earlier event p place comes.c comes.conn (outcome_of net past event) input (facts_of comes.c past) comes.whose comes.known comes.port comes.at brings enabled in
    let now = sym (pushed events event) in
    let v : Visit = record { port = slice_index comes.conn.path (hop_visited event - 1); input = input; reply = reply } in
    let fits = comes_fits net js earlier event p place input reply comes answers next in
    let whole : IsPlacing net js (events ++ event ∷ []) new (set sp c (reached_by event (slice_index sp c))) (set pp p (slice_index pp p + 1)) = record {
      stands = stands;
      placed = subst (ArePlaced net js) now (fits_placed net js earlier event progress.placed fits);
      shown = subst (AreShown net js) now (inl fits, progress.shown);
      source_count = length-set sp c (reached_by event (slice_index sp c)) ∙ progress.source_count;
      port_count = length-set pp p (slice_index pp p + 1) ∙ progress.port_count;
      source_places = subst (λ l. ArePlaces (set sp c (reached_by event (slice_index sp c))) (λ d. length (entries_on net d l))) now
          (sources_placed net earlier event sp c place made coming.conn lowc progress.source_places (is_beside event) refl);
      port_places = subst (λ l. ArePlaces (set pp p (slice_index pp p + 1)) (λ q. length (steps_on net q l))) now
          (places_set pp p (λ q. length (steps_on net q earlier)) (λ q. length (steps_on net q (event ∷ earlier))) low
          (steps_one net earlier event p v is comes.port)
          (λ q differ. ap (λ (l : List Step). length l) (steps_other net earlier event q v is (λ e. differ (sym comes.port ∙ e))))
          progress.port_places);
    } in (
      subst (λ n. IsPlacing net js (events ++ event ∷ []) new (set sp c n) (set pp p (slice_index pp p + 1))) (sym reached) whole,
      (let a = total_kept sp c lowc (is_beside event) in
          let b = sum-set_up pp p (slice_index pp p) low refl in
          let d = ap (λ n. total (set sp c n)) reached in
          omega (arith, a, b, d)),
    )

-- a Turn stands in no journal
pub turn_placed : (net : Topology) (js : RunJournals) (events : List Event) (world new : WorldView) (sp pp : List ℕ) (event turn : Event) → IsPlacing net js events world sp pp → IsTurnOf net event turn →
    StandsFor net (events ++ turn ∷ []) new → IsNeeded net js (reverse events) turn → IsPlacing net js (events ++ turn ∷ []) new sp pp
turn_placed net js events world new sp pp event turn progress its stands needed =
    let earlier = reverse events in
    let now : turn ∷ earlier ≡ reverse (events ++ turn ∷ []) = sym (pushed events turn) in
    let steps : (q : ℕ) → steps_on net q (turn ∷ earlier) ≡ steps_on net q earlier = λ q. ap (λ e. steps_on net q (e ∷ earlier)) its.turn_is ∙ steps_turn net earlier its.c its.seq q in
    let entries : (d : ℕ) → entries_on net d (turn ∷ earlier) ≡ entries_on net d earlier = λ d. ap (λ e. entries_on net d (e ∷ earlier)) its.turn_is ∙ entries_turn net earlier its.c its.seq d in
    record {
      stands = stands;
      placed = subst (ArePlaced net js) now (record {
        ports = λ q. subst (λ l. IsBeginning l (port_journal js q)) (sym (steps q)) (progress.placed.ports q);
        conns = λ d. subst (λ l. IsBeginning l (source_journal js d)) (sym (entries d)) (progress.placed.conns d);
      });
      shown = subst (AreShown net js) now (inr needed, progress.shown);
      source_count = progress.source_count;
      port_count = progress.port_count;
      source_places = subst (λ l. ArePlaces sp (λ d. length (entries_on net d l))) now
          (places_same sp (λ d. length (entries_on net d earlier)) (λ d. length (entries_on net d (turn ∷ earlier))) (λ d. ap (λ (l : List SourceEntry). length l) (entries d)) progress.source_places);
      port_places = subst (λ l. ArePlaces pp (λ q. length (steps_on net q l))) now
          (places_same pp (λ q. length (steps_on net q earlier)) (λ q. length (steps_on net q (turn ∷ earlier))) (λ q. ap (λ (l : List Step). length l) (steps q)) progress.port_places);
    }

-- the expected event is placed
pub expected_placed : (net : Topology) (js : RunJournals) (events more : List Event) (world new : WorldView) (sp pp : List ℕ) (p kp at place c kc reached : ℕ) (event : Event) (input : PortInput) (reply : PortReply) →
    IsPlacing net js events world sp pp → IsExpected net js (reverse events) sp p place input reply c reached event → reply_of (outcome_of net (facts_after net events) event) ≡ Some reply →
    StandsFor net (events ++ event ∷ []) new → kp ≡ p → kc ≡ c → p < length pp → at ≡ slice_index pp p → more ≡ events ++ event ∷ [] →
    IsPlacing net js more new (set sp kc reached) (set pp kp (at + 1)) × (total sp + total pp < total (set sp kc reached) + total (set pp kp (at + 1)))
expected_placed net js events more world new sp pp p kp at place c kc reached event input reply progress it replies stands sp_is sc_is low at_is is =
    let whole = port_placed net js events world new sp pp p place c reached event input reply progress low it.low it.coming replies it.next stands it.reached_is in
    subst (λ l. IsPlacing net js l new (set sp kc reached) (set pp kp (at + 1)) × (total sp + total pp < total (set sp kc reached) + total (set pp kp (at + 1)))) (sym is)
    (subst (λ n. IsPlacing net js (events ++ event ∷ []) new (set sp n reached) (set pp kp (at + 1)) × (total sp + total pp < total (set sp n reached) + total (set pp kp (at + 1)))) (sym sc_is)
    (subst (λ n. IsPlacing net js (events ++ event ∷ []) new (set sp c reached) (set pp n (at + 1)) × (total sp + total pp < total (set sp c reached) + total (set pp n (at + 1)))) (sym sp_is)
    (subst (λ n. IsPlacing net js (events ++ event ∷ []) new (set sp c reached) (set pp p (n + 1)) × (total sp + total pp < total (set sp c reached) + total (set pp p (n + 1)))) (sym at_is) whole)))
