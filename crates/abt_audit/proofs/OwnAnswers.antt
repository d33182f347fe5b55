-- What a source answered in events is what it answers by its own journal.
use Rattle.std.proofs.Common.{◌≡◌, ◌∙◌, ℕ, inl, inr, Bool, true, false, List, [], ◌∷◌, ◌++◌, length, refl, sym, ap, subst, append-nil, Option, None, Some}
use Rattle.std.specs.Prelude.{◌+◌, ◌==◌, ◌&&◌, not, nat_lt, if◌then◌else◌, min, fold, reverse, slice_get}
use Rattle.std.proofs.lemmas.Bool.{cond-true, eq-eqb, false≢true}
use Rattle.abt_rate.specs.Limits.{emit_max, number_max, start_max}
use Rattle.abt_rate.specs.Rate.{spacing_of}
use Rattle.abt_cell.specs.Channel.{Channel}
use Rattle.abt_keep.specs.declared.plan.StorePlan.{StorePlan}
use Rattle.abt_keep.specs.declared.plan.StorePlan.TheVariants.{FailsAfter}
use Rattle.abt_net.specs.declared.conn.Conn.{Conn}
use Rattle.abt_net.specs.Topology.{Topology, conn_at}
use Rattle.abt_facts.specs.declared.fact.Fact.{Fact}
use Rattle.abt_facts.specs.Source.{SourceState, Down, Idle, Asking, state_of, rate_of, last_of, clock_of, next_of, writes}
use Rattle.abt_facts.specs.Sent.{answer_is_home}
use Rattle.abt_facts.specs.Cells.{emitted_of}
use Rattle.abt_shaper.specs.declared.fault.ShapeFault.TheVariants.{TimeRange, Zero, TooSoon}
use Rattle.abt_source.specs.declared.fault.AskFault.TheVariants.{SeqExhausted, Keep}
use Rattle.abt_source.specs.declared.fault.StartFault.TheVariants.{TimeRange as StartTimeRange}
use Rattle.abt_journal.specs.declared.entry.Entry.{Entry}
use Rattle.abt_model.specs.Answers.{if_up, start_answer, kept_answer, ask_answer, again_answer, emit_answer, told_answer, answer_by}
use Rattle.abt_model.specs.Outcomes.{conn_of, outcome_of, facts_added, port_of}
use Rattle.abt_model.specs.Past.{facts_of}
use Rattle.abt_model.specs.Reserved.{reserved_on, capacity_of}
use Rattle.abt_model.specs.Targets.{target_of, event_at, event_at_source}
use Rattle.abt_model.specs.declared.entry.SourceEntry.{SourceEntry}
use Rattle.abt_model.specs.declared.entry.SourceEntry.TheVariants.{Did, Sent, Arrived as ArrivedAt}
use Rattle.abt_model.specs.declared.event.Event.{Event}
use Rattle.abt_model.specs.declared.journal.SourceJournal.{SourceJournal}
use Rattle.abt_model.specs.declared.outcome.Cause.TheVariants.{ClockBack, NotSent}
use Rattle.abt_model.specs.declared.outcome.Heard.{Heard}
use Rattle.abt_model.specs.declared.outcome.Heard.TheVariants.{Raised, Refused}
use Rattle.abt_model.specs.declared.outcome.Outcome.{Outcome}
use Rattle.abt_model.specs.declared.outcome.Outcome.TheVariants.{Started, StartRefused, Asked, AskRefused, Repeated, Crashed, Emitted, EmitRefused, Told as HasTold, NotEnabled}
use Rattle.abt_model.specs.declared.target.SourceEvent.{SourceEvent}
use Rattle.abt_model.specs.declared.target.SourceEvent.TheVariants as source
use Rattle.abt_model.specs.declared.target.Target.{Target}
use Rattle.abt_model.specs.declared.target.Target.TheVariants as target
use Rattle.abt_model.proofs.Targets.{event_there}
use Rattle.abt_model.proofs.Worlds.{conn_cases, outcome_of-known}
use Rattle.abt_weave.specs.Candidates.{is_at_source, is_told_in}
use Rattle.abt_weave.specs.Leaving.{facts_done}
use Rattle.abt_weave.specs.Projections.{is_enabled, is_told_by, past_of, entry_at, entry_made, entries_on}
use Rattle.abt_weave.specs.Woven.{IsWoven}
use Rattle.abt_weave.proofs.AskedRates.{other_same}
use Rattle.abt_weave.proofs.OwnEvents.{made_own}
use Rattle.abt_weave.proofs.OwnFacts.{own, state_of-own, rate_of-own, last_of-own, clock_of-own, next_of-own, emitted_of-own, writes-own, request_of-own}
use Rattle.abt_weave.proofs.OwnReplays.{done-append, own_replayed}
use Rattle.abt_audit.specs.Protocol.{own_answer, answer_at, facts_at, answer_in, facts_past, facts_through}
use Rattle.abt_audit.specs.Settling.{told_in, FitsFrom, FitsTo}

start_own : (facts : List Fact) (now : ℕ) (state : SourceState) → start_answer state (own facts) now ≡ start_answer state facts now
start_own facts now Down = ap (λ (n : ℕ). if nat_lt now n then NotEnabled ClockBack else (if nat_lt start_max now then StartRefused StartTimeRange else Started)) (clock_of-own facts)
start_own facts now Idle = refl
start_own facts now (Asking s) = refl

abbrev ask_by : Channel → (last rate_now : ℕ) (writes : Bool) (rate : ℕ) → StorePlan → Outcome
ask_by vc last rate_now writes rate plan =
    if last == number_max then AskRefused SeqExhausted else kept_answer writes plan (record { vc = vc; seq = last + 1; floor = min rate_now rate; ask = rate })

ask_own : (vc : Channel) (facts : List Fact) (rate : ℕ) (plan : StorePlan) → ask_answer vc (own facts) rate plan ≡ ask_answer vc facts rate plan
ask_own vc facts rate plan =
    ap (λ (n : ℕ). ask_by vc n (rate_of (own facts)) (writes (own facts) rate) rate plan) (last_of-own facts)
    ∙ ap (λ (n : ℕ). ask_by vc (last_of facts) n (writes (own facts) rate) rate plan) (rate_of-own facts)
    ∙ ap (λ (b : Bool). ask_by vc (last_of facts) (rate_of facts) b rate plan) (writes-own facts rate)

again_own : (vc : Channel) (facts : List Fact) (state : SourceState) → again_answer vc state (own facts) ≡ again_answer vc state facts
again_own vc facts Down = refl
again_own vc facts Idle = refl
again_own vc facts (Asking s) = ap Repeated (request_of-own vc facts s)

abbrev emit_by : (clock rate next cells now : ℕ) → Outcome
emit_by clock rate next cells now =
    if nat_lt now clock then NotEnabled ClockBack
    else (if nat_lt emit_max now then EmitRefused TimeRange
    else (if rate == 0 then EmitRefused Zero
    else (if nat_lt now next then EmitRefused (TooSoon next)
    else Emitted cells (now + spacing_of rate))))

emit_own : (facts : List Fact) (now : ℕ) → emit_answer (own facts) now ≡ emit_answer facts now
emit_own facts now =
    let others = own facts in
    ap (λ (n : ℕ). emit_by n (rate_of others) (next_of others) (emitted_of others) now) (clock_of-own facts)
    ∙ ap (λ (n : ℕ). emit_by (clock_of facts) n (next_of others) (emitted_of others) now) (rate_of-own facts)
    ∙ ap (λ (n : ℕ). emit_by (clock_of facts) (rate_of facts) n (emitted_of others) now) (next_of-own facts)
    ∙ ap (λ (n : ℕ). emit_by (clock_of facts) (rate_of facts) (next_of facts) n now) (emitted_of-own facts)

-- facts of hops change nothing of what a source answers
answer-own : (vc : Channel) (facts : List Fact) (x : SourceEvent) → own_answer vc (own facts) x ≡ own_answer vc facts x
answer-own vc facts (source.Start now) = start_own facts now (state_of (own facts)) ∙ ap (λ (s : SourceState). start_answer s facts now) (state_of-own facts)
answer-own vc facts (source.Ask rate plan) =
    ap (if_up (state_of (own facts))) (ask_own vc facts rate plan) ∙ ap (λ (s : SourceState). if_up s (ask_answer vc facts rate plan)) (state_of-own facts)
answer-own vc facts source.Again = again_own vc facts (state_of (own facts)) ∙ ap (λ (s : SourceState). again_answer vc s facts) (state_of-own facts)
answer-own vc facts source.Crash = ap (λ (s : SourceState). if_up s Crashed) (state_of-own facts)
answer-own vc facts (source.Emit now) =
    ap (if_up (state_of (own facts))) (emit_own facts now) ∙ ap (λ (s : SourceState). if_up s (emit_answer facts now)) (state_of-own facts)
answer-own vc facts (source.Told seq granted) = ap (λ (s : SourceState). HasTold (told_answer s seq granted)) (state_of-own facts)

told_home : (heard : Heard) (home : Bool) → not (is_enabled (if not home then NotEnabled NotSent else HasTold heard)) ≡ false
    → (if not home then NotEnabled NotSent else HasTold heard) ≡ HasTold heard
told_home heard true on = refl
told_home heard false on = absurd (false≢true (sym on))

-- what an event at a source answers, if it stands in its journal, is what the source answers
answered : (conn : Conn) (r u : ℕ) (facts : List Fact) (c : ℕ) (x : SourceEvent) → is_told_by x && not (is_enabled (answer_by conn r u facts (event_at_source c x))) ≡ false
    → answer_by conn r u facts (event_at_source c x) ≡ own_answer conn.vc facts x
answered conn r u facts c (source.Start now) on = refl
answered conn r u facts c (source.Ask rate plan) on = refl
answered conn r u facts c source.Again on = refl
answered conn r u facts c source.Crash on = refl
answered conn r u facts c (source.Emit now) on = refl
answered conn r u facts c (source.Told seq granted) on = told_home (told_answer (state_of facts) seq granted) (answer_is_home facts seq granted) on

-- the facts that it adds are the same at each connection
added_there : (c d : ℕ) (x : SourceEvent) (facts : List Fact) (outcome : Outcome) → facts_added facts (event_at_source c x) outcome ≡ facts_added facts (event_at_source d x) outcome
added_there c d (source.Start now) facts Started = refl
added_there c d (source.Ask rate plan) facts (Asked request) = refl
added_there c d (source.Ask rate FailsAfter) facts (AskRefused Keep) = refl
added_there c d source.Crash facts Crashed = refl
added_there c d (source.Emit now) facts (Emitted cell next) = refl
added_there c d (source.Told seq granted) facts (HasTold Raised) = refl
added_there c d (source.Told seq granted) facts (HasTold Refused) = refl
added_there c d x facts outcome = refl

-- An entry behind others tells what its source answers, and adds the facts that it tells.
pub record Answers (vc : Channel) (entries : List SourceEntry) (one : SourceEntry) : Type 0 where
  pub told : answer_in vc (facts_through vc entries) one ≡ told_in one
  pub adds : facts_past vc (facts_through vc entries) one ≡ facts_done (facts_done [] entries) (one ∷ [])

-- A journal tells what its source answers, and its facts are those that it tells.
pub record Fits (vc : Channel) (entries : List SourceEntry) : Type 0 where
  pub all : FitsTo vc entries (length entries)
  pub facts : facts_through vc entries ≡ facts_done [] entries

fits_append : (vc : Channel) (facts : List Fact) (entries : List SourceEntry) (one : SourceEntry) → FitsFrom vc facts entries (length entries)
    → answer_in vc (fold (facts_past vc) facts entries) one ≡ told_in one → FitsFrom vc facts (entries ++ one ∷ []) (length (entries ++ one ∷ []))
fits_append vc facts [] one fits is = (is, tt)
fits_append vc facts (entry ∷ entries) one fits is = (fits.0, fits_append vc (facts_past vc facts entry) entries one fits.1 is)

through_append : (vc : Channel) (facts : List Fact) (entries : List SourceEntry) (one : SourceEntry)
    → fold (facts_past vc) facts (entries ++ one ∷ []) ≡ facts_past vc (fold (facts_past vc) facts entries) one
through_append vc facts [] one = refl
through_append vc facts (entry ∷ entries) one = through_append vc (facts_past vc facts entry) entries one

fits_behind : (vc : Channel) (entries : List SourceEntry) (one : SourceEntry) → Fits vc entries → Answers vc entries one → Fits vc (entries ++ one ∷ [])
fits_behind vc entries one p a = record {
  all = fits_append vc [] entries one p.all a.told;
  facts = through_append vc [] entries one ∙ a.adds ∙ sym (done-append [] entries (one ∷ []));
}

-- the entry of an event, if it is one
abbrev as_list : Option SourceEntry → List SourceEntry
as_list None = []
as_list (Some entry) = entry ∷ []

fits_behind_any : (vc : Channel) (entries : List SourceEntry) (made : Option SourceEntry) → Fits vc entries → ((one : SourceEntry) → made ≡ Some one → Answers vc entries one)
    → Fits vc (entries ++ as_list made)
fits_behind_any vc entries None p each = subst (Fits vc) (sym (append-nil entries)) p
fits_behind_any vc entries (Some one) p each = fits_behind vc entries one p (each one refl)

made_here : (whose : Option ℕ) (c : ℕ) (made : Option SourceEntry) → whose ≡ Some c → entry_at whose c made ≡ as_list made
made_here whose c None same = refl
made_here whose c (Some one) same = ap (λ (d : Option ℕ). entry_at d c (Some one)) same ∙ cond-true _ _ _ (eq-eqb c c refl)

-- what a source did is answered by its own facts
did_there : (conn : Conn) (r u : ℕ) (facts through done : List Fact) (t : Target) (d : ℕ) (told : Outcome) → is_at_source d t ≡ true → through ≡ done → done ≡ own facts
    → told ≡ answer_by conn r u facts (event_at t) → is_told_in t && not (is_enabled told) ≡ false
    → (answer_at conn.vc through t ≡ Some told) × (facts_at conn.vc through t ≡ facts_added done (event_at t) told ++ done)
did_there conn r u facts through done (target.Source e x) d told here same own_is is on =
    let vc = conn.vc in
    let on_there : is_told_by x && not (is_enabled (answer_by conn r u facts (event_at_source e x))) ≡ false = subst (λ (o : Outcome). is_told_by x && not (is_enabled o) ≡ false) is on in
    let by_done : own_answer vc done x ≡ told =
    ap (λ (l : List Fact). own_answer vc l x) own_is ∙ answer-own vc facts x ∙ sym (answered conn r u facts e x on_there) ∙ sym is in (
      ap (λ (l : List Fact). Some (own_answer vc l x)) same ∙ ap (λ (o : Outcome). Some o) by_done,
      ap (λ (l : List Fact). facts_added l (event_at_source 0 x) (own_answer vc l x) ++ l) same
          ∙ ap (λ (o : Outcome). facts_added done (event_at_source 0 x) o ++ done) by_done
          ∙ ap (λ (l : List Fact). l ++ done) (added_there 0 e x done told),
    )
did_there conn r u facts through done (target.Hop e x) d told here same own_is is on = absurd (false≢true here)
did_there conn r u facts through done (target.End e s) d told here same own_is is on = absurd (false≢true here)
did_there conn r u facts through done (target.Port p k) d told here same own_is is on = absurd (false≢true here)

-- the entry that an event makes behind others
pub made_answers : (net : Topology) (c : ℕ) (conn : Conn) → conn_at net c ≡ Some conn → (earlier : List Event) (event : Event) → conn_of event ≡ Some c
    → Fits conn.vc (entries_on net c earlier) → (one : SourceEntry) → entry_made net earlier event ≡ Some one → Answers conn.vc (entries_on net c earlier) one
made_answers net c conn known earlier event whose p (Sent place) made = record { told = refl; adds = p.facts }
made_answers net c conn known earlier event whose p (ArrivedAt cell place) made = record { told = refl; adds = p.facts }
made_answers net c conn known earlier event whose p (Did done told) made =
    let past = past_of net earlier in
    let facts = facts_of c past in
    let outcome = outcome_of net past event in
    let its = made_own _ event outcome done told made in
    let port = port_of conn.path event in
    let same_event : event_at (target_of done) ≡ event = event_there done ∙ its.event_is in
    let is : told ≡ answer_by conn (reserved_on net past port) (capacity_of net past port) facts (event_at (target_of done)) =
    its.outcome_is ∙ outcome_of-known net past event c conn whose known
    ∙ ap (answer_by conn (reserved_on net past port) (capacity_of net past port) facts) (sym same_event) in
    let here : is_at_source its.c (target_of done) ≡ true = subst (λ (e : Event). is_at_source its.c (target_of e) ≡ true) (sym its.event_is) its.own in
    let on : is_told_in (target_of done) && not (is_enabled told) ≡ false =
    subst (λ (e : Event). is_told_in (target_of e) && not (is_enabled told) ≡ false) (sym its.event_is)
    (subst (λ (o : Outcome). is_told_in (target_of event) && not (is_enabled o) ≡ false) (sym its.outcome_is) its.enabled) in
    let both = did_there conn (reserved_on net past port) (capacity_of net past port) facts (facts_through conn.vc (entries_on net c earlier))
    (facts_done [] (entries_on net c earlier)) (target_of done) its.c told here p.facts (sym (own_replayed net c earlier)) is on in
    record {
      told = both.0;
      adds = both.1 ∙ ap (λ (e : Event). facts_added (facts_done [] (entries_on net c earlier)) e told ++ facts_done [] (entries_on net c earlier)) (event_there done);
    }

-- the entries that events make of a source tell what it answers
pub played_fits : (net : Topology) (c : ℕ) (conn : Conn) → conn_at net c ≡ Some conn → (earlier : List Event) → Fits conn.vc (entries_on net c earlier)
played_fits net c conn known [] = record { all = tt; facts = refl }
played_fits net c conn known (event ∷ earlier) = elim (conn_cases event c) [
  | inl same ↦ subst (λ (l : List SourceEntry). Fits conn.vc (entries_on net c earlier ++ l)) (sym (made_here (conn_of event) c (entry_made net earlier event) same))
      (fits_behind_any conn.vc (entries_on net c earlier) (entry_made net earlier event) (played_fits net c conn known earlier)
      (made_answers net c conn known earlier event same (played_fits net c conn known earlier)))
  | inr differ ↦ subst (Fits conn.vc) (sym (other_same (conn_of event) c (entries_on net c earlier) differ (entry_made net earlier event)))
      (played_fits net c conn known earlier)
]

-- so does the whole journal of a source, where some events are woven from the journals
pub woven_fits : (net : Topology) (ports : List (List Entry)) (sources : List SourceJournal) (events : List Event) → IsWoven net ports sources events
    → (c : ℕ) (conn : Conn) (journal : SourceJournal) → conn_at net c ≡ Some conn → slice_get sources c ≡ Some journal
    → FitsTo conn.vc journal.entries (length journal.entries)
woven_fits net ports sources events woven c conn journal known at =
    subst (λ (es : List SourceEntry). FitsTo conn.vc es (length es)) (woven.conns c journal at) (played_fits net c conn known (reverse events)).all
