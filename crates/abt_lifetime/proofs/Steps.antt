-- What each call leaves in order.
use Rattle.std.proofs.Common.{◌≡◌, ℕ, ◌+◌, ◌≤◌, refl, Bool, true, false, arith}
use Rattle.std.specs.Prelude.{◌==◌, nat_le, nat_lt, Option, None, Some, Result}
use Rattle.std.proofs.lemmas.Bool.{cond_both, eqb-false}
use Rattle.abt_rate.specs.Limits.{number_max, emit_max, start_max}
use Rattle.abt_rate.specs.Rate.{spacing_of}
use Rattle.abt_cell.specs.Message.{Terms, Reply}
use Rattle.abt_keep.specs.Record.{KeptRecord}
use Rattle.abt_keep.specs.declared.plan.StorePlan.{StorePlan}
use Rattle.abt_keep.specs.declared.plan.StorePlan.TheVariants.{Works, FailsBefore, FailsAfter}
use Rattle.abt_shaper.specs.declared.fault.ShapeFault.{ShapeFault}
use Rattle.abt_source.specs.SourceView.{SourceView}
use Rattle.abt_source.specs.Calls.{result_of_start, crashed_source, has_to_write, is_behind, result_of_emission, same_terms, heard_source, result_of_answer_to, result_of_answer}
use Rattle.abt_source.specs.declared.start.StartRefused.{StartRefused}
use Rattle.abt_source.specs.declared.answer.Answered.{Answered}
use Rattle.abt_lifetime.specs.declared.call.SourceCall.{SourceCall}
use Rattle.abt_lifetime.specs.declared.call.SourceCall.TheVariants.{Start, Ask, Answer, Emit, Crash}
use Rattle.abt_lifetime.specs.Lifetime.{StoredView, Called, silent, read_answer, started_by, request_out, written_ask, asked, heard_in, emitted_by, called_up, called_down, called, out_of}
use Rattle.abt_lifetime.specs.Numbers.{used_up_to, RiseWithin, numbers_of}
use Rattle.abt_lifetime.specs.Sound.{IsAhead, IsSoundIf, IsSound}
use Rattle.abt_lifetime.proofs.Sound.{started_ahead, asked_ahead, written_ahead, failed_ahead, raised_ahead, refused_ahead, emitted_ahead, crashed_covers}

-- a source that is up, and one that is down
abbrev pub up : SourceView → KeptRecord → StoredView
up s held = record { is_up = true; was_started = true; source = s; held = held }

abbrev pub down : (was_started : Bool) → SourceView → KeptRecord → StoredView
down was_started s held = record { is_up = false; was_started = was_started; source = s; held = held }

-- A call leaves all in order, and a request that goes out has the next number.
pub record Goes (v : StoredView) (result : Called) : Type 0 where
  pub sound : IsSound result.after
  pub rise : RiseWithin (used_up_to v) (numbers_of (out_of result.request)) (used_up_to result.after)
  pub within : result.after.held.number ≤ number_max

stays : (s : SourceView) (held : KeptRecord) → IsAhead s held → Goes (up s held) (silent (up s held))
stays s held old = record { sound = old; rise = omega arith; within = old.within }

-- a call after which the source is another, whose last number is the same
moves : (s t : SourceView) (held : KeptRecord) → IsAhead t held → s.last ≤ t.last → Goes (up s held) (silent (up t held))
moves s t held new low = record { sound = new; rise = low; within = new.within }

last_left : (s : SourceView) (held : KeptRecord) → IsAhead s held → (s.last == number_max) ≡ false → s.last + 1 ≤ number_max
last_left s held old e =
    let differ = eqb-false s.last number_max e in
    let ahead = old.ahead in
    let behind = old.behind in
    let within = old.within in
    omega arith

write_goes : (s : SourceView) (held : KeptRecord) (rate : ℕ) → IsAhead s held → has_to_write s rate ≡ true → s.last + 1 ≤ number_max → (plan : StorePlan) → Goes (up s held) (written_ask plan (up s held) rate)
write_goes s held rate old does room Works =
    let new = written_ahead s held rate does room old in
    record { sound = new; rise = (omega arith, omega arith); within = new.within }
write_goes s held rate old does room FailsBefore = stays s held old
write_goes s held rate old does room FailsAfter =
    let new = failed_ahead s held rate does room old in
    record { sound = new; rise = omega arith; within = new.within }

request_goes : (s : SourceView) (held : KeptRecord) (rate : ℕ) → IsAhead s held → has_to_write s rate ≡ false → Goes (up s held) (request_out (up s held) rate held)
request_goes s held rate old does = record { sound = asked_ahead s held rate does old; rise = (omega arith, omega arith); within = old.within }

pub ask_goes : (s : SourceView) (held : KeptRecord) → IsAhead s held → (plan : StorePlan) (rate : ℕ) → Goes (up s held) (asked plan (up s held) rate)
ask_goes s held old plan rate =
    cond_both (s.last == number_max) _ _ (Goes (up s held)) (λ e. stays s held old)
    (λ e. cond_both (has_to_write s rate) _ _ (Goes (up s held)) (λ does. write_goes s held rate old does (last_left s held old e) plan) (λ does. request_goes s held rate old does))

hears : (s : SourceView) (held : KeptRecord) → IsAhead s held → (request : Terms) → s.newest ≡ Some request → (granted : Bool) → Goes (up s held) (silent (up (heard_in (heard_source s request granted)) held))
hears s held old request is true = moves s (record s { rate = request.ask; newest = None }) held (raised_ahead s held request is old) (omega arith)
hears s held old request is false = moves s (record s { newest = None }) held (refused_ahead s held old) (omega arith)

answer_by_goes : (s : SourceView) (held : KeptRecord) → IsAhead s held → (reply : Reply) (o : Option Terms) → s.newest ≡ o → Goes (up s held) (silent (up (heard_in (result_of_answer_to o s reply)) held))
answer_by_goes s held old reply None is = stays s held old
answer_by_goes s held old reply (Some request) is =
    cond_both (same_terms request reply.terms) _ _ (λ (a : Answered). Goes (up s held) (silent (up (heard_in a) held))) (λ e. hears s held old request is reply.granted) (λ e. stays s held old)

pub answer_goes : (s : SourceView) (held : KeptRecord) → IsAhead s held → (reply : Reply) → Goes (up s held) (silent (up (heard_in (result_of_answer s reply)) held))
answer_goes s held old reply = answer_by_goes s held old reply s.newest refl

pub emit_goes : (s : SourceView) (held : KeptRecord) → IsAhead s held → (now : ℕ) → Goes (up s held) (emitted_by (up s held) now (result_of_emission s now))
emit_goes s held old now =
    let P : Result ℕ ShapeFault → Type 0 = λ r. Goes (up s held) (emitted_by (up s held) now r) in
    cond_both (is_behind s.emitted now) _ _ P (λ e. stays s held old)
    (λ e. cond_both (nat_lt emit_max now) _ _ P (λ e2. stays s held old)
    (λ e2. cond_both (s.rate == 0) _ _ P (λ e3. stays s held old)
    (λ e3. cond_both (nat_lt now s.next) _ _ P (λ e4. stays s held old)
    (λ e4. (
    let next = now + spacing_of s.rate in
    moves s (record s { gap = spacing_of s.rate; next = next; emitted = Some now }) held (emitted_ahead s held now next (eqb-false s.rate 0 e3) old) (omega arith))))))

pub crash_goes : (s : SourceView) (held : KeptRecord) → IsAhead s held → Goes (up s held) (silent (down true (crashed_source s) held))
crash_goes s held old =
    let ahead = old.ahead in
    let behind = old.behind in
    record { sound = (old.within, crashed_covers s held.spacing old.covers); rise = omega arith; within = old.within }

pub up_goes : (s : SourceView) (held : KeptRecord) → IsAhead s held → (call : SourceCall) (plan : StorePlan) → Goes (up s held) (called_up call plan (up s held))
up_goes s held old (Start now) plan = stays s held old
up_goes s held old (Ask rate) plan = ask_goes s held old plan rate
up_goes s held old (Answer reply) plan = answer_goes s held old reply
up_goes s held old (Emit now) plan = emit_goes s held old now
up_goes s held old Crash plan = crash_goes s held old

-- a source that is down, started before or not
waits : (b : Bool) (s : SourceView) (held : KeptRecord) → IsSound (down b s held) → held.number ≤ number_max → Goes (down b s held) (silent (down b s held))
waits b s held old within = record { sound = old; rise = omega arith; within = within }

pub start_goes : (b : Bool) (s : SourceView) (held : KeptRecord) → IsSound (down b s held) → held.number ≤ number_max → (now : ℕ) (plan : StorePlan) →
    Goes (down b s held) (started_by (down b s held) (result_of_start s now (read_answer plan held)))
start_goes b s held old within now Works =
    cond_both (nat_le now start_max) _ _ (λ (r : Result SourceView StartRefused). Goes (down b s held) (started_by (down b s held) r))
    (λ e. record { sound = started_ahead s held now within; rise = omega arith; within = within }) (λ e. waits b s held old within)
start_goes b s held old within now FailsBefore = waits b s held old within
start_goes b s held old within now FailsAfter = waits b s held old within

pub down_goes : (b : Bool) (s : SourceView) (held : KeptRecord) → IsSound (down b s held) → held.number ≤ number_max → (call : SourceCall) (plan : StorePlan) → Goes (down b s held) (called_down call plan (down b s held))
down_goes b s held old within (Start now) plan = start_goes b s held old within now plan
down_goes b s held old within (Ask rate) plan = waits b s held old within
down_goes b s held old within (Answer reply) plan = waits b s held old within
down_goes b s held old within (Emit now) plan = waits b s held old within
down_goes b s held old within Crash plan = waits b s held old within

-- any call, whatever the source's state
pub call_goes : (is_up was_started : Bool) (s : SourceView) (held : KeptRecord) → IsSoundIf is_up was_started s held → held.number ≤ number_max → (call : SourceCall) (plan : StorePlan) →
    (let v : StoredView = record { is_up = is_up; was_started = was_started; source = s; held = held } in Goes v (called call plan v))
call_goes true true s held old within call plan = up_goes s held old call plan
call_goes true false s held old within call plan = absurd old
call_goes false b s held old within call plan = down_goes b s held old within call plan

-- numbers rise in any call, also of a source whose store holds what no code can name
pub call_rises : (is_up was_started : Bool) (s : SourceView) (held : KeptRecord) → IsSoundIf is_up was_started s held → (call : SourceCall) (plan : StorePlan) →
    (let v : StoredView = record { is_up = is_up; was_started = was_started; source = s; held = held } in RiseWithin (used_up_to v) (numbers_of (out_of (called call plan v).request)) (used_up_to (called call plan v).after))
call_rises true true s held old call plan = (up_goes s held old call plan).rise
call_rises true false s held old call plan = absurd old
call_rises false b s held old (Start now) Works =
    let v = down b s held in
    cond_both (nat_le now start_max) _ _ (λ (r : Result SourceView StartRefused). RiseWithin held.number (numbers_of (out_of (started_by v r).request)) (used_up_to (started_by v r).after)) (λ e. omega arith) (λ e. omega arith)
call_rises false b s held old (Start now) FailsBefore = omega arith
call_rises false b s held old (Start now) FailsAfter = omega arith
call_rises false b s held old (Ask rate) plan = omega arith
call_rises false b s held old (Answer reply) plan = omega arith
call_rises false b s held old (Emit now) plan = omega arith
call_rises false b s held old Crash plan = omega arith
