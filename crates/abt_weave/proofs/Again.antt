-- An event that comes where the journals stand as they stood answers the same again.
use Rattle.std.proofs.Common.{◌≡◌, ℕ, ◌+◌, refl, ap, Bool, true, false, List, [], ◌∙◌, sym, Some, arith}
use Rattle.std.specs.Prelude.{◌==◌, ◌&&◌, not, nat_lt, if◌then◌else◌, min}
use Rattle.std.proofs.lemmas.Bool.{false≢true}
use Rattle.abt_rate.specs.Rate.{spacing_of}
use Rattle.abt_cell.specs.Channel.{Channel}
use Rattle.abt_cell.specs.Message.{Terms}
use Rattle.abt_keep.specs.declared.plan.StorePlan.{StorePlan}
use Rattle.abt_shaper.specs.declared.fault.ShapeFault.TheVariants.{TimeRange, Zero, TooSoon}
use Rattle.abt_source.specs.declared.fault.AskFault.TheVariants.{SeqExhausted}
use Rattle.abt_net.specs.declared.conn.Conn.{Conn}
use Rattle.abt_net.specs.Topology.{Topology, IsWithinRules, conn_at}
use Rattle.abt_facts.specs.declared.fact.Fact.{Fact}
use Rattle.abt_facts.specs.Requests.{floor_of, ask_of}
use Rattle.abt_facts.specs.Source.{SourceState, Down, Idle, Asking, state_of, rate_of, last_of, clock_of, next_of, writes}
use Rattle.abt_facts.specs.Sent.{answer_is_home}
use Rattle.abt_facts.specs.Cells.{emitted_of}
use Rattle.abt_model.specs.declared.event.Event.{Event}
use Rattle.abt_model.specs.declared.event.Event.TheVariants.{Start, Ask, Again, Crash, Emit, Told}
use Rattle.abt_model.specs.declared.outcome.Cause.TheVariants.{ClockBack, NotSent}
use Rattle.abt_model.specs.declared.outcome.Outcome.{Outcome}
use Rattle.abt_model.specs.declared.outcome.Outcome.TheVariants.{AskRefused, Crashed, Emitted, EmitRefused, Repeated, Told as HasTold, NotEnabled}
use Rattle.abt_rate.specs.Limits.{emit_max, number_max, start_max}
use Rattle.abt_model.specs.Answers.{if_up, start_answer, kept_answer, ask_answer, again_answer, emit_answer, told_answer, answer_by}
use Rattle.abt_model.specs.Outcomes.{conn_of, outcome_of}
use Rattle.abt_source.specs.SourceFacts.{request_of}
use Rattle.abt_model.specs.Past.{Past, facts_of}
use Rattle.abt_model.proofs.Worlds.{outcome_of-known}
use Rattle.abt_source.specs.declared.fault.StartFault.TheVariants.{TimeRange as StartTimeRange}
use Rattle.abt_model.specs.declared.outcome.Outcome.TheVariants.{Started, StartRefused}
use Rattle.abt_model.proofs.Served.{conn_within}
use Rattle.abt_weave.specs.Projections.{is_enabled, past_of, entries_on}
use Rattle.abt_weave.specs.Candidates.{is_own_of, is_told}
use Rattle.abt_weave.specs.Leaving.{facts_done}
use Rattle.abt_weave.proofs.OwnReplays.{own_replayed}
use Rattle.abt_weave.proofs.SentBelow.{IsBelow, IsHopOf, AreBegunAt, begun_at, back_below, shut_below}
use Rattle.abt_weave.proofs.OwnFacts.{own, state_of-own, clock_of-own, last_of-own, rate_of-own, next_of-own, emitted_of-own, floor_of-own, ask_of-own, writes-own}

-- what a source answers is what its own facts say
start_own : (facts : List Fact) (now : ℕ) (state : SourceState) → start_answer state (own facts) now ≡ start_answer state facts now
start_own facts now Down = ap (λ (n : ℕ). if nat_lt now n then NotEnabled ClockBack else (if nat_lt start_max now then StartRefused StartTimeRange else Started)) (clock_of-own facts)
start_own facts now Idle = refl
start_own facts now (Asking s) = refl

abbrev ask_by : Channel → (last rate_now : ℕ) (writes : Bool) (rate : ℕ) → StorePlan → Outcome
ask_by vc last rate_now writes rate plan =
    if last == number_max then AskRefused SeqExhausted else kept_answer writes plan (record { vc = vc; seq = last + 1; floor = min rate_now rate; ask = rate })

ask_own : (vc : Channel) (facts : List Fact) (rate : ℕ) (plan : StorePlan) → ask_answer vc (own facts) rate plan ≡ ask_answer vc facts rate plan
ask_own vc facts rate plan =
    ap (λ (n : ℕ). ask_by vc n (rate_of (own facts)) (writes (own facts) rate) rate plan) (last_of-own facts)
    ∙ ap (λ (n : ℕ). ask_by vc (last_of facts) n (writes (own facts) rate) rate plan) (rate_of-own facts)
    ∙ ap (λ (b : Bool). ask_by vc (last_of facts) (rate_of facts) b rate plan) (writes-own facts rate)

request_own : (vc : Channel) (facts : List Fact) (s : ℕ) → request_of vc (own facts) s ≡ request_of vc facts s
request_own vc facts s =
    ap (λ (n : ℕ). (let made : Terms = record { vc = vc; seq = s; floor = n; ask = ask_of (own facts) s } in made)) (floor_of-own facts s)
    ∙ ap (λ (n : ℕ). (let made : Terms = record { vc = vc; seq = s; floor = floor_of facts s; ask = n } in made)) (ask_of-own facts s)

again_own : (vc : Channel) (facts : List Fact) (state : SourceState) → again_answer vc state (own facts) ≡ again_answer vc state facts
again_own vc facts Down = refl
again_own vc facts Idle = refl
again_own vc facts (Asking s) = ap Repeated (request_own vc facts s)

abbrev emit_by : (clock rate next cells now : ℕ) → Outcome
emit_by clock rate next cells now =
    if nat_lt now clock then NotEnabled ClockBack
    else (if nat_lt emit_max now then EmitRefused TimeRange
    else (if rate == 0 then EmitRefused Zero
    else (if nat_lt now next then EmitRefused (TooSoon next)
    else Emitted cells (now + spacing_of rate))))

emit_own : (facts : List Fact) (now : ℕ) → emit_answer (own facts) now ≡ emit_answer facts now
emit_own facts now =
    let others = own facts in
    ap (λ (n : ℕ). emit_by n (rate_of others) (next_of others) (emitted_of others) now) (clock_of-own facts)
    ∙ ap (λ (n : ℕ). emit_by (clock_of facts) n (next_of others) (emitted_of others) now) (rate_of-own facts)
    ∙ ap (λ (n : ℕ). emit_by (clock_of facts) (rate_of facts) n (emitted_of others) now) (next_of-own facts)
    ∙ ap (λ (n : ℕ). emit_by (clock_of facts) (rate_of facts) (next_of facts) n now) (emitted_of-own facts)

-- a command, or an answer that lies at the source
abbrev IsAtSource : List Fact → Event → Type 0
IsAtSource facts (Told c seq granted) = answer_is_home facts seq granted ≡ true
IsAtSource facts event = Unit {0}

told_own : (conn : Conn) (r u : ℕ) (facts : List Fact) (c seq : ℕ) (granted : Bool) → answer_is_home facts seq granted ≡ true → answer_by conn r u facts (Told c seq granted) ≡ HasTold (told_answer (state_of (own facts)) seq granted)
told_own conn r u facts c seq granted home =
    ap (λ (b : Bool). if not b then NotEnabled NotSent else HasTold (told_answer (state_of facts) seq granted)) home
    ∙ ap (λ (state : SourceState). HasTold (told_answer state seq granted)) (sym (state_of-own facts))

-- where two connections' own facts are the same, a source answers the same
own_answer : (conn : Conn) (c r u q w : ℕ) (facts others : List Fact) → own facts ≡ own others → (event : Event) → is_own_of c event ≡ true → IsAtSource facts event → IsAtSource others event →
    answer_by conn r u facts event ≡ answer_by conn q w others event
own_answer conn c r u q w facts others same (Start d now) mine home there =
    sym (start_own facts now (state_of facts)) ∙ ap (λ s. start_answer s (own facts) now) (sym (state_of-own facts))
    ∙ ap (λ (l : List Fact). start_answer (state_of l) l now) same
    ∙ ap (λ s. start_answer s (own others) now) (state_of-own others) ∙ start_own others now (state_of others)
own_answer conn c r u q w facts others same (Ask d rate plan) mine home there =
    ap (if_up (state_of facts)) (sym (ask_own conn.vc facts rate plan)) ∙ ap (λ s. if_up s (ask_answer conn.vc (own facts) rate plan)) (sym (state_of-own facts))
    ∙ ap (λ (l : List Fact). if_up (state_of l) (ask_answer conn.vc l rate plan)) same
    ∙ ap (λ s. if_up s (ask_answer conn.vc (own others) rate plan)) (state_of-own others) ∙ ap (if_up (state_of others)) (ask_own conn.vc others rate plan)
own_answer conn c r u q w facts others same (Again d) mine home there =
    sym (again_own conn.vc facts (state_of facts)) ∙ ap (λ s. again_answer conn.vc s (own facts)) (sym (state_of-own facts))
    ∙ ap (λ (l : List Fact). again_answer conn.vc (state_of l) l) same
    ∙ ap (λ s. again_answer conn.vc s (own others)) (state_of-own others) ∙ again_own conn.vc others (state_of others)
own_answer conn c r u q w facts others same (Crash d) mine home there =
    ap (λ s. if_up s Crashed) (sym (state_of-own facts)) ∙ ap (λ (l : List Fact). if_up (state_of l) Crashed) same ∙ ap (λ s. if_up s Crashed) (state_of-own others)
own_answer conn c r u q w facts others same (Emit d now) mine home there =
    ap (if_up (state_of facts)) (sym (emit_own facts now)) ∙ ap (λ s. if_up s (emit_answer (own facts) now)) (sym (state_of-own facts))
    ∙ ap (λ (l : List Fact). if_up (state_of l) (emit_answer l now)) same
    ∙ ap (λ s. if_up s (emit_answer (own others) now)) (state_of-own others) ∙ ap (if_up (state_of others)) (emit_own others now)
own_answer conn c r u q w facts others same (Told d seq granted) mine home there =
    told_own conn r u facts d seq granted home ∙ ap (λ (l : List Fact). HasTold (told_answer (state_of l) seq granted)) same ∙ sym (told_own conn q w others d seq granted there)
own_answer conn c r u q w facts others same other mine home there = absurd (false≢true mine)

-- an answer that was told lies at the source
home_told : (facts : List Fact) (c seq : ℕ) (granted : Bool) (b : Bool) → is_enabled (if not b then NotEnabled NotSent else HasTold (told_answer (state_of facts) seq granted)) ≡ true → b ≡ true
home_told facts c seq granted true on = refl
home_told facts c seq granted false on = absurd (false≢true on)

-- each path has a first hop
pub hop_one : (net : Topology) → IsWithinRules net → (c : ℕ) (conn : Conn) → conn_at net c ≡ Some conn → IsHopOf net c conn 1
hop_one net rules c conn known = record { rules = rules; known = known; low = omega arith; high = (let h = (conn_within net rules c conn known).has_hop in omega (arith, h)) }

home_below : (net : Topology) → IsWithinRules net → (c : ℕ) (conn : Conn) → conn_at net c ≡ Some conn → (less more : List Event) → AreBegunAt net conn 1 less more → (seq : ℕ) (granted : Bool) →
    answer_is_home (facts_of c (past_of net less)) seq granted ≡ true → answer_is_home (facts_of c (past_of net more)) seq granted ≡ true
home_below net rules c conn known less more begins seq true home = back_below net c conn seq 1 (hop_one net rules c conn known) less more begins home
home_below net rules c conn known less more begins seq false home = shut_below net c conn seq 1 (hop_one net rules c conn known) less more begins home

at_source : (net : Topology) (past : Past) (c : ℕ) (conn : Conn) (event : Event) → conn_of event ≡ Some c → conn_at net c ≡ Some conn → is_told event && not (is_enabled (outcome_of net past event)) ≡ false → IsAtSource (facts_of c past) event
at_source net past c conn (Told d seq granted) whose known on =
    let known_is = outcome_of-known net past (Told d seq granted) c conn whose known in
    home_told (facts_of c past) d seq granted (answer_is_home (facts_of c past) seq granted) (sym (ap is_enabled known_is) ∙ on_is (is_enabled (outcome_of net past (Told d seq granted))) on)
  where
    on_is : (b : Bool) → not b ≡ false → b ≡ true
    on_is true h = refl
    on_is false h = sym h
at_source net past c conn other whose known on = tt

source_below : (net : Topology) → IsWithinRules net → (c : ℕ) (conn : Conn) (less more : List Event) → AreBegunAt net conn 1 less more → (event : Event) → conn_at net c ≡ Some conn → IsAtSource (facts_of c (past_of net less)) event →
    IsAtSource (facts_of c (past_of net more)) event
source_below net rules c conn less more begins (Told d seq granted) known home = home_below net rules c conn known less more begins seq granted home
source_below net rules c conn less more begins other known home = tt

-- what a source did where its journal stood so, it does again there; an answer comes to it from the first hop alone
pub own_repeats : (net : Topology) → IsWithinRules net → (less more : List Event) (c : ℕ) (conn : Conn) → AreBegunAt net conn 1 less more → (event : Event) → conn_of event ≡ Some c → conn_at net c ≡ Some conn → is_own_of c event ≡ true →
    is_told event && not (is_enabled (outcome_of net (past_of net less) event)) ≡ false → entries_on net c less ≡ entries_on net c more →
    outcome_of net (past_of net less) event ≡ outcome_of net (past_of net more) event
own_repeats net rules less more c conn begins event whose known mine on same =
    let home = at_source net (past_of net less) c conn event whose known on in
    let facts : own (facts_of c (past_of net less)) ≡ own (facts_of c (past_of net more)) = own_replayed net c less ∙ ap (facts_done []) same ∙ sym (own_replayed net c more) in
    outcome_of-known net (past_of net less) event c conn whose known
    ∙ own_answer conn c _ _ _ _ (facts_of c (past_of net less)) (facts_of c (past_of net more)) facts event mine home (source_below net rules c conn less more begins event known home)
    ∙ sym (outcome_of-known net (past_of net more) event c conn whose known)

pub own_again : (net : Topology) → IsWithinRules net → (less more : List Event) → IsBelow net less more → (c : ℕ) (conn : Conn) (event : Event) → conn_of event ≡ Some c → conn_at net c ≡ Some conn → is_own_of c event ≡ true →
    is_told event && not (is_enabled (outcome_of net (past_of net less) event)) ≡ false → entries_on net c less ≡ entries_on net c more →
    outcome_of net (past_of net less) event ≡ outcome_of net (past_of net more) event
own_again net rules less more below c conn event whose known mine on same =
    own_repeats net rules less more c conn (begun_at net c conn 1 (hop_one net rules c conn known) less more below) event whose known mine on same
