-- What a source's deed is to its access line.
use Rattle.std.proofs.Common.{◌≡◌, ◌≢◌, ◌⊎◌, inl, inr, ℕ, ◌≤◌, Bool, true, false, List, [], ◌∷◌, ◌++◌, length, refl, ap, sym, subst, ◌∙◌, arith, Some}
use Rattle.std.specs.Prelude.{◌==◌, ◌||◌, if◌then◌else◌, nat_lt}
use Rattle.std.proofs.lemmas.Bool.{cond-true, eq-eqb}
use Rattle.abt_rate.specs.Limits.{emit_max, number_max}
use Rattle.abt_cell.specs.Channel.{Channel}
use Rattle.abt_cell.specs.Message.{Terms}
use Rattle.abt_keep.specs.Record.{KeptRecord}
use Rattle.abt_keep.specs.declared.plan.StorePlan.{StorePlan}
use Rattle.abt_keep.specs.declared.plan.StorePlan.TheVariants.{Works, FailsBefore, FailsAfter}
use Rattle.abt_shaper.specs.declared.fault.ShapeFault.TheVariants.{TimeRange, Zero, TooSoon}
use Rattle.abt_net.specs.declared.conn.Conn.{Conn}
use Rattle.abt_net.specs.Topology.{Topology, conn_at}
use Rattle.abt_facts.specs.declared.fact.Fact.{Fact}
use Rattle.abt_facts.specs.declared.fact.Fact.TheVariants.{Asked as FactAsked}
use Rattle.abt_facts.specs.Cells.{emitted_of, fence_of, last_arrival_of}
use Rattle.abt_facts.specs.Requests.{was_asked, floor_of, mark_of}
use Rattle.abt_facts.specs.Source.{SourceState, Down, Idle, Asking, clock_of, last_of, next_of, rate_of, state_of, writes, written_for}
use Rattle.abt_source.specs.SourceFacts.{request_of}
use Rattle.abt_source.specs.declared.fault.AskFault.TheVariants.{SeqExhausted, Keep}
use Rattle.abt_model.specs.declared.command.SourceCommand.{SourceCommand}
use Rattle.abt_model.specs.declared.command.SourceCommand.TheVariants as command
use Rattle.abt_model.specs.declared.event.Event.{Event}
use Rattle.abt_model.specs.declared.outcome.Cause.TheVariants.{ClockBack, Down as IsDown}
use Rattle.abt_model.specs.declared.outcome.Heard.TheVariants.{Raised, Refused}
use Rattle.abt_model.specs.declared.outcome.Outcome.{Outcome}
use Rattle.abt_model.specs.declared.outcome.Outcome.TheVariants.{Started, Asked, AskRefused, Crashed, Emitted, EmitRefused, Told as HasTold, NotEnabled}
use Rattle.abt_model.specs.Answers.{ask_answer, emit_answer, if_up, kept_answer, next_request, stored_answer}
use Rattle.abt_model.specs.Outcomes.{facts_added, write_adds}
use Rattle.abt_model.specs.Past.{facts_of}
use Rattle.abt_actor.specs.Commands.{command_answer, event_of}
use Rattle.abt_weave.specs.Projections.{past_of}
use Rattle.abt_processes.specs.Lists.{IsIn}
use Rattle.abt_processes.specs.Processes.{AccessLine, LeftCell, LeftRequest}
use Rattle.abt_processes.specs.Sources.{with_left}
use Rattle.abt_processes.proofs.Lasting.{IsRequestLeft, IsCellLeft, request_lasts, cell_lasts}
use Rattle.abt_processes.proofs.Lines.{IsLineOf}
use Rattle.abt_processes.proofs.Own.{HasDone}

-- the request of an ask that goes out
stored_asked : (plan : StorePlan) (next request : Terms) → Asked request ≡ stored_answer plan next → request ≡ next
stored_asked Works next request is = cc
stored_asked FailsBefore next request is = absurd (cc)
stored_asked FailsAfter next request is = absurd (cc)

kept_asked : (b : Bool) (plan : StorePlan) (next request : Terms) → Asked request ≡ kept_answer b plan next → request ≡ next
kept_asked true plan next request is = stored_asked plan next request is
kept_asked false plan next request is = cc

full_asked : (b : Bool) (o : Outcome) (request : Terms) → Asked request ≡ (if b then AskRefused SeqExhausted else o) → Asked request ≡ o
full_asked true o request is = absurd (cc)
full_asked false o request is = is

up_same : (state : SourceState) (o p : Outcome) → p ≢ NotEnabled IsDown → p ≡ if_up state o → p ≡ o
up_same Down o p some is = absurd (some is)
up_same Idle o p some is = is
up_same (Asking seq) o p some is = is

asked_is : (vc : Channel) (facts : List Fact) (rate : ℕ) (plan : StorePlan) (request : Terms) → Asked request ≡ if_up (state_of facts) (ask_answer vc facts rate plan) → request ≡ next_request vc facts rate
asked_is vc facts rate plan request is =
    kept_asked (writes facts rate) plan (next_request vc facts rate) request
    (full_asked (last_of facts == number_max) _ request (up_same (state_of facts) _ (Asked request) (λ e. cc) is))

-- the number of a cell that leaves
cell_by : (a b d e : Bool) (cell next number after soon : ℕ) → Emitted cell next ≡ (if a then NotEnabled ClockBack else (if b then EmitRefused TimeRange else (if d then EmitRefused Zero else (if e then EmitRefused (TooSoon soon) else Emitted number after)))) → cell ≡ number
cell_by true b d e cell next number after soon is = absurd (cc)
cell_by false true d e cell next number after soon is = absurd (cc)
cell_by false false true e cell next number after soon is = absurd (cc)
cell_by false false false true cell next number after soon is = absurd (cc)
cell_by false false false false cell next number after soon is = cc

cell_is : (facts : List Fact) (now cell next : ℕ) → Emitted cell next ≡ if_up (state_of facts) (emit_answer facts now) → cell ≡ emitted_of facts
cell_is facts now cell next is =
    cell_by (nat_lt now (clock_of facts)) (nat_lt emit_max now) (rate_of facts == 0) (nat_lt now (next_of facts)) cell next (emitted_of facts) _ (next_of facts)
    (up_same (state_of facts) _ (Emitted cell next) (λ e. cc) is)

-- No deed of a source brings anything to its first port.
fence_stored : (b : Bool) (kept : KeptRecord) (facts : List Fact) → fence_of (write_adds b kept ++ facts) ≡ fence_of facts
fence_stored true kept facts = refl
fence_stored false kept facts = refl

fence_own : (facts : List Fact) (c : ℕ) (command : SourceCommand) (o : Outcome) → fence_of (facts_added facts (event_of c command) o ++ facts) ≡ fence_of facts
fence_own facts c (command.Start now) Started = refl
fence_own facts c (command.Start now) other = refl
fence_own facts c (command.Ask rate plan) (Asked request) = fence_stored (writes facts rate) (written_for facts rate) facts
fence_own facts c (command.Ask rate FailsAfter) (AskRefused Keep) = refl
fence_own facts c (command.Ask rate plan) other = refl
fence_own facts c command.Again o = refl
fence_own facts c command.Crash Crashed = refl
fence_own facts c command.Crash other = refl
fence_own facts c (command.Emit now) (Emitted cell next) = refl
fence_own facts c (command.Emit now) other = refl
fence_own facts c (command.Told answer) (HasTold Raised) = refl
fence_own facts c (command.Told answer) (HasTold Refused) = refl
fence_own facts c (command.Told answer) other = refl

arrival_stored : (b : Bool) (kept : KeptRecord) (facts : List Fact) → last_arrival_of (write_adds b kept ++ facts) ≡ last_arrival_of facts
arrival_stored true kept facts = refl
arrival_stored false kept facts = refl

arrival_own : (facts : List Fact) (c : ℕ) (command : SourceCommand) (o : Outcome) → last_arrival_of (facts_added facts (event_of c command) o ++ facts) ≡ last_arrival_of facts
arrival_own facts c (command.Start now) Started = refl
arrival_own facts c (command.Start now) other = refl
arrival_own facts c (command.Ask rate plan) (Asked request) = arrival_stored (writes facts rate) (written_for facts rate) facts
arrival_own facts c (command.Ask rate FailsAfter) (AskRefused Keep) = refl
arrival_own facts c (command.Ask rate plan) other = refl
arrival_own facts c command.Again o = refl
arrival_own facts c command.Crash Crashed = refl
arrival_own facts c command.Crash other = refl
arrival_own facts c (command.Emit now) (Emitted cell next) = refl
arrival_own facts c (command.Emit now) other = refl
arrival_own facts c (command.Told answer) (HasTold Raised) = refl
arrival_own facts c (command.Told answer) (HasTold Refused) = refl
arrival_own facts c (command.Told answer) other = refl

count_stored : (b : Bool) (kept : KeptRecord) (facts : List Fact) → emitted_of (write_adds b kept ++ facts) ≡ emitted_of facts
count_stored true kept facts = refl
count_stored false kept facts = refl

count_own : (line : AccessLine) (facts : List Fact) (c : ℕ) (command : SourceCommand) (o : Outcome) → length line.cells ≡ emitted_of facts → length (with_left line command o).cells ≡ emitted_of (facts_added facts (event_of c command) o ++ facts)
count_own line facts c (command.Start now) Started is = is
count_own line facts c (command.Start now) other is = is
count_own line facts c (command.Ask rate plan) (Asked request) is = is ∙ sym (count_stored (writes facts rate) (written_for facts rate) facts)
count_own line facts c (command.Ask rate FailsAfter) (AskRefused Keep) is = is
count_own line facts c (command.Ask rate plan) other is = is
count_own line facts c command.Again o is = is
count_own line facts c command.Crash Crashed is = is
count_own line facts c command.Crash other is = is
count_own line facts c (command.Emit now) (Emitted cell next) is = omega (arith, is)
count_own line facts c (command.Emit now) other is = is
count_own line facts c (command.Told answer) (HasTold Raised) is = is
count_own line facts c (command.Told answer) (HasTold Refused) is = is
count_own line facts c (command.Told answer) other is = is

-- what is on the line then was there, or has just left
request_left : (vc : Channel) (line : AccessLine) (facts : List Fact) (c : ℕ) (command : SourceCommand) (o : Outcome) (left : LeftRequest) → length line.cells ≡ emitted_of facts → o ≡ command_answer vc facts command → IsIn left (with_left line command o).requests →
    IsIn left line.requests ⊎ IsRequestLeft vc (facts_added facts (event_of c command) o ++ facts) left
request_left vc line facts c (command.Ask rate plan) (Asked request) left count is (inr old) = inl old
request_left vc line facts c (command.Ask rate plan) (Asked request) left count is (inl same) =
    let next = asked_is vc facts rate plan request is in
    let more = FactAsked request.seq request.floor request.ask (emitted_of facts) ∷ (write_adds (writes facts rate) (written_for facts rate) ++ facts) in
    let here : (request.seq == request.seq) ≡ true = eq-eqb request.seq request.seq refl in
    let channel : request.vc ≡ vc = ap (λ (t : Terms). t.vc) next in
    let terms : request ≡ request_of vc more request.seq =
    ap (λ (v : Channel). (let t : Terms = record { vc = v; seq = request.seq; floor = request.floor; ask = request.ask } in t)) channel
    ∙ ap (λ (n : ℕ). (let t : Terms = record { vc = vc; seq = request.seq; floor = n; ask = request.ask } in t)) (sym (cond-true _ _ _ here))
    ∙ ap (λ (n : ℕ). (let t : Terms = record { vc = vc; seq = request.seq; floor = floor_of more request.seq; ask = n } in t)) (sym (cond-true _ _ _ here)) in
    let mark : mark_of more request.seq ≡ emitted_of facts = cond-true _ _ _ here in
    inr (subst (IsRequestLeft vc more) (sym same) (record {
      asked = ap (λ b. b || was_asked (write_adds (writes facts rate) (written_for facts rate) ++ facts) request.seq) here;
      terms = terms;
      mark = omega (arith, mark, count);
    }))
request_left vc line facts c (command.Ask rate plan) other left count is there = inl there
request_left vc line facts c (command.Emit now) (Emitted cell next) left count is there = inl there
request_left vc line facts c (command.Emit now) other left count is there = inl there
request_left vc line facts c command o left count is there = inl there

cell_left : (line : AccessLine) (vc : Channel) (facts : List Fact) (c : ℕ) (command : SourceCommand) (o : Outcome) (left : LeftCell) → o ≡ command_answer vc facts command → IsIn left (with_left line command o).cells →
    IsIn left line.cells ⊎ IsCellLeft (facts_added facts (event_of c command) o ++ facts) left
cell_left line vc facts c (command.Emit now) (Emitted cell next) left is (inr old) = inl old
cell_left line vc facts c (command.Emit now) (Emitted cell next) left is (inl same) =
    let number = cell_is facts now cell next is in
    let more = facts_added facts (event_of c (command.Emit now)) (Emitted cell next) ++ facts in
    inr (subst (IsCellLeft more) (sym same) (record { low = omega (arith, number); moment = cond-true _ _ _ (eq-eqb cell cell refl) }))
cell_left line vc facts c (command.Emit now) other left is there = inl there
cell_left line vc facts c (command.Ask rate plan) (Asked request) left is there = inl there
cell_left line vc facts c (command.Ask rate plan) other left is there = inl there
cell_left line vc facts c command o left is there = inl there

first_same : (line : AccessLine) (command : SourceCommand) (outcome : Outcome) → (with_left line command outcome).first ≡ line.first
first_same line (command.Ask rate plan) (Asked request) = refl
first_same line (command.Ask rate plan) other = refl
first_same line (command.Emit now) (Emitted cell next) = refl
first_same line (command.Emit now) other = refl
first_same line other outcome = refl

last_same : (line : AccessLine) (command : SourceCommand) (outcome : Outcome) → (with_left line command outcome).last ≡ line.last
last_same line (command.Ask rate plan) (Asked request) = refl
last_same line (command.Ask rate plan) other = refl
last_same line (command.Emit now) (Emitted cell next) = refl
last_same line (command.Emit now) other = refl
last_same line other outcome = refl

low_both : (a b x y : ℕ) → a ≡ b → x ≡ y → b ≤ y → a ≤ x
low_both a b x y same other low = omega (arith, same, other, low)

-- the access line of a source that carried out a command
pub line_did : (net : Topology) (earlier : List Event) (c : ℕ) (conn : Conn) (command : SourceCommand) (outcome : Outcome) (line : AccessLine) → conn_at net c ≡ Some conn → outcome ≡ command_answer conn.vc (facts_of c (past_of net earlier)) command →
    HasDone net earlier c command outcome → IsLineOf conn.vc (facts_of c (past_of net earlier)) line → IsLineOf conn.vc (facts_of c (past_of net (event_of c command ∷ earlier))) (with_left line command outcome)
line_did net earlier c conn command outcome line known answers done is =
    let facts = facts_of c (past_of net earlier) in
    let later = event_of c command ∷ earlier in
    let rates = done.beside.rates in
    record {
      requests = λ left there. elim (request_left conn.vc line facts c command outcome left is.count answers there) [
        | inl old ↦ request_lasts net (event_of c command ∷ []) earlier c conn left known rates (is.requests left old)
        | inr new ↦ subst (λ (l : List Fact). IsRequestLeft conn.vc l left) (sym done.facts) new
      ];
      cells = λ left there. elim (cell_left line conn.vc facts c command outcome left answers there) [
        | inl old ↦ cell_lasts net (event_of c command ∷ []) earlier c conn left known rates (is.cells left old)
        | inr new ↦ subst (λ (l : List Fact). IsCellLeft l left) (sym done.facts) new
      ];
      count = count_own line facts c command outcome is.count ∙ sym (ap emitted_of done.facts);
      first = low_both _ _ _ _ (ap fence_of done.facts ∙ fence_own facts c command outcome) (first_same line command outcome) is.first;
      last = ap last_arrival_of done.facts ∙ arrival_own facts c command outcome ∙ is.last ∙ sym (last_same line command outcome);
    }
