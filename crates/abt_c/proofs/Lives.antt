-- What the exports of a source come to, as calls of a source in Rust.
use Rattle.std.proofs.Common.{◌≡◌, ◌≢◌, ℕ, ◌⊎◌, inl, inr, refl, ap, Bool, true, false, ◌∙◌, sym, subst}
use Rattle.std.specs.Prelude.{◌==◌, not, if◌then◌else◌, Option, None, Some, Result, Ok, Err, MatchResult}
use Rattle.std.proofs.lemmas.Bool.{cond-true, cond-false, cond_both, eq-eqb, ne_eqb}
use Rattle.abt_rate.specs.Limits.{number_max}
use Rattle.abt_rate.specs.Rate.{units_of}
use Rattle.abt_cell.specs.Message.{Terms, Reply}
use Rattle.abt_cell.specs.declared.message.Rm.TheVariants.{Request as RequestRm}
use Rattle.abt_keep.specs.Record.{KeptRecord}
use Rattle.abt_keep.specs.declared.plan.StorePlan.{StorePlan}
use Rattle.abt_keep.specs.declared.plan.StorePlan.TheVariants.{Works, FailsBefore, FailsAfter}
use Rattle.abt_source.specs.SourceView.{SourceView}
use Rattle.abt_source.specs.Calls.{has_to_write, record_to_write, next_request, asking_source, crashed_source, result_of_emission, result_of_answer}
use Rattle.abt_source.specs.declared.answer.Answered.{Answered}
use Rattle.abt_source.specs.declared.answer.Answered.TheVariants.{Raised, Refused, Ignored}
use Rattle.abt_shaper.specs.declared.fault.ShapeFault.{ShapeFault}
use Rattle.abt_lifetime.specs.declared.call.SourceCall.{SourceCall}
use Rattle.abt_lifetime.specs.declared.call.SourceCall.TheVariants.{Start, Ask, Answer, Emit, Crash}
use Rattle.abt_lifetime.specs.Lifetime.{StoredView, Called, silent, request_out, written_ask, asked, heard_in, emitted_by, called_up, called_down, called}
use Rattle.abt_lifetime.specs.Numbers.{IsCarriedOut}
use Rattle.abt_lifetime.specs.Sound.{IsAhead, IsSoundIf, IsSound}
use Rattle.abt_lifetime.proofs.Carried.{carried}
use Rattle.abt_lifetime.proofs.Steps.{Goes, up_goes}
use Rattle.abt_c.specs.Lifetimes.{IsSentAs, stored_in, up_in}
use Rattle.abt_c.specs.Records.{record_of}
use Rattle.abt_c.specs.Sources.{AreParts, IsSource, IsReady, IsWriting, IsAsked, source_in, emitted_source, later_of, down_phase, heard_in as heard_in_c}
use Rattle.abt_c.specs.declared.record.AbtRm.{AbtRm}
use Rattle.abt_c.specs.declared.source_state.AbtSource.{AbtSource}

-- An ask went by one of the plans, and this record went out, if one did.
abbrev pub WentBy : (before after : AbtSource) (old new : KeptRecord) (rate : ℕ) → Option AbtRm → Type 0
WentBy before after old new rate rm =
    (plan : StorePlan) × (request : Option Terms) × IsSentAs rm request × (let is : Called = record { after = up_in after new; request = request } in is ≡ asked plan (up_in before old) rate)

-- what a plan comes to where a number is left
left_asked : (s : SourceView) (old : KeptRecord) (rate : ℕ) (plan : StorePlan) → s.last ≢ number_max →
    (let v : StoredView = record { is_up = true; was_started = true; source = s; held = old } in asked plan v rate ≡ (if has_to_write s rate then written_ask plan v rate else request_out v rate old))
left_asked s old rate plan some = cond-false _ _ _ (ne_eqb s.last number_max some)

-- the request of an ask that had nothing to write, and of one whose record was written
pub went_out : (before after : AbtSource) (old : KeptRecord) (rate : ℕ) (rm : AbtRm) → before.last ≢ number_max → has_to_write (source_in before) rate ≡ false → IsAsked before rate after →
    rm ≡ record_of (RequestRm (next_request (source_in before) rate)) → WentBy before after old old rate (Some rm)
went_out before after old rate rm some not is says = (
  Works,
  Some (next_request (source_in before) rate),
  says,
  ap (λ (t : SourceView). let c : Called = record { after = record { is_up = true; was_started = true; source = t; held = old }; request = Some (next_request (source_in before) rate) } in c) is.source
      ∙ sym (left_asked (source_in before) old rate Works some ∙ cond-false _ _ _ not),
)

pub went_out_written : (before after : AbtSource) (old new : KeptRecord) (rate : ℕ) (rm : AbtRm) → before.last ≢ number_max → has_to_write (source_in before) rate ≡ true → IsAsked before rate after →
    rm ≡ record_of (RequestRm (next_request (source_in before) rate)) → new ≡ record_to_write (source_in before) rate → WentBy before after old new rate (Some rm)
went_out_written before after old new rate rm some does is says holds = (
  Works,
  Some (next_request (source_in before) rate),
  says,
  ap (λ (t : SourceView). let c : Called = record { after = record { is_up = true; was_started = true; source = t; held = new }; request = Some (next_request (source_in before) rate) } in c) is.source
      ∙ ap (λ (h : KeptRecord). let c : Called = record { after = record { is_up = true; was_started = true; source = asking_source (source_in before) (next_request (source_in before) rate); held = h }; request = Some (next_request (source_in before) rate) } in c) holds
      ∙ sym (left_asked (source_in before) old rate Works some ∙ cond-true _ _ _ does),
)

-- an ask whose write failed
pub went_nowhere : (before after : AbtSource) (old new : KeptRecord) (rate : ℕ) → before.last ≢ number_max → has_to_write (source_in before) rate ≡ true → source_in after ≡ source_in before →
    (new ≡ old) ⊎ (new ≡ record_to_write (source_in before) rate) → WentBy before after old new rate None
went_nowhere before after old new rate some does same holds = elim holds [
  | inl stayed ↦ (
    FailsBefore,
    None,
    tt,
    ap (λ (t : SourceView). let c : Called = silent (record { is_up = true; was_started = true; source = t; held = new }) in c) same
        ∙ ap (λ (h : KeptRecord). let c : Called = silent (record { is_up = true; was_started = true; source = source_in before; held = h }) in c) stayed
        ∙ sym (left_asked (source_in before) old rate FailsBefore some ∙ cond-true _ _ _ does),
  )
  | inr written ↦ (
    FailsAfter,
    None,
    tt,
    ap (λ (t : SourceView). let c : Called = silent (record { is_up = true; was_started = true; source = t; held = new }) in c) same
        ∙ ap (λ (h : KeptRecord). let c : Called = silent (record { is_up = true; was_started = true; source = source_in before; held = h }) in c) written
        ∙ sym (left_asked (source_in before) old rate FailsAfter some ∙ cond-true _ _ _ does),
  )
]

-- a state in which a write is to be made, and one in which it was given up, keep what makes it a source's
parts_again : (s : AbtSource) (writing wanted : ℕ) → AreParts s → AreParts (record s { is_writing = writing; wanted = wanted })
parts_again s writing wanted old = record { kind = old.kind; vpi = old.vpi; kept = old.kept; gap = old.gap; shaping = old.shaping }

pub source_again : (s : AbtSource) (writing wanted : ℕ) → IsSource s → IsSource (record s { is_writing = writing; wanted = wanted })
source_again s writing wanted is = (parts_again s writing wanted is.0, is.1, is.2)

pub ready_again : (s : AbtSource) (wanted : ℕ) → IsReady s → IsReady (record s { is_writing = 0; wanted = wanted })
ready_again s wanted ready = (source_again s 0 wanted ready.0, ready.1, refl)

pub writing_then : (s : AbtSource) (wanted : ℕ) → IsReady s → IsWriting (record s { is_writing = 1; wanted = wanted })
writing_then s wanted ready = (source_again s 1 wanted ready.0, ready.1, λ none. absurd (cc))

-- a request that goes out after its write goes out of the source that asked
pub asked_then : (before between after : AbtSource) (code : ℕ) → between ≡ record before { is_writing = 1; wanted = code } → IsAsked between (units_of between.wanted) after → IsAsked before (units_of code) after
asked_then before between after code is asked =
    let there = subst (λ (s : AbtSource). IsAsked s (units_of s.wanted) after) is asked in
    record { state = there.state; phase = there.phase; writing = there.writing; source = there.source }

-- what became of a write: it was made, and the request goes out, or it failed, and the source is as it was
pub given_up : (before between after : AbtSource) (code : ℕ) → between ≡ record before { is_writing = 1; wanted = code } → after ≡ record between { is_writing = 0 } → after ≡ record before { is_writing = 0; wanted = code }
given_up before between after code is left = left ∙ ap (λ (s : AbtSource). record s { is_writing = 0 }) is

-- a state of a source that is up, in the view of a call
pub view_up : (s : AbtSource) (was : Bool) (held : KeptRecord) → s.phase ≢ down_phase → was ≡ true → stored_in s was held ≡ up_in s held
view_up s was held up started =
    let is_up : not (s.phase == down_phase) ≡ true = ap not (ne_eqb s.phase down_phase up) in
    ap (λ (b : Bool). let v : StoredView = record { is_up = b; was_started = was; source = source_in s; held = held } in v) is_up
    ∙ ap (λ (b : Bool). let v : StoredView = record { is_up = true; was_started = b; source = source_in s; held = held } in v) started

up_sound : (was : Bool) (s : SourceView) (held : KeptRecord) → IsSoundIf true was s held → (was ≡ true) × IsAhead s held
up_sound true s held sound = (refl, sound)
up_sound false s held sound = absurd sound

started_of : (s : AbtSource) (was : Bool) (held : KeptRecord) → s.phase ≢ down_phase → IsSound (stored_in s was held) → (was ≡ true) × IsAhead (source_in s) held
started_of s was held up sound =
    let is_up : not (s.phase == down_phase) ≡ true = ap not (ne_eqb s.phase down_phase up) in
    up_sound was (source_in s) held (subst (λ (b : Bool). IsSoundIf b was (source_in s) held) is_up sound)

-- a call that leaves the source up
pub carried_up : (s t : AbtSource) (was : Bool) (held left : KeptRecord) (call : SourceCall) (plan : StorePlan) (request : Option Terms) → s.phase ≢ down_phase → t.phase ≢ down_phase → IsSound (stored_in s was held) →
    (let is : Called = record { after = up_in t left; request = request } in is ≡ called_up call plan (up_in s held)) →
    IsSound (stored_in t was left) × IsCarriedOut (stored_in s was held) call request (stored_in t was left)
carried_up s t was held left call plan request up still sound is =
    let whole = started_of s was held up sound in
    let goes = subst (Goes (up_in s held)) (sym is) (up_goes (source_in s) held whole.1 call plan) in
    let sound_left : IsSound (stored_in t was left) = subst IsSound (sym (view_up t was left still whole.0)) goes.sound in
    let value : (let it : Called = record { after = stored_in t was left; request = request } in it ≡ called call plan (stored_in s was held)) =
    ap (λ (v : StoredView). let it : Called = record { after = v; request = request } in it) (view_up t was left still whole.0) ∙ is ∙ ap (called call plan) (sym (view_up s was held up whole.0)) in
    (sound_left, carried (stored_in s was held) (stored_in t was left) call plan request sound sound_left value)

-- a crash
pub carried_crash : (s t : AbtSource) (was : Bool) (held : KeptRecord) → s.phase ≢ down_phase → t.phase ≡ down_phase → source_in t ≡ crashed_source (source_in s) → IsSound (stored_in s was held) →
    IsSound (stored_in t was held) × IsCarriedOut (stored_in s was held) Crash None (stored_in t was held)
carried_crash s t was held up fell is sound =
    let whole = started_of s was held up sound in
    let goes = up_goes (source_in s) held whole.1 Crash Works in
    let is_down : not (t.phase == down_phase) ≡ false = ap not (eq-eqb t.phase down_phase fell) in
    let view : stored_in t was held ≡ record { is_up = false; was_started = true; source = crashed_source (source_in s); held = held } =
    ap (λ (b : Bool). let v : StoredView = record { is_up = b; was_started = was; source = source_in t; held = held } in v) is_down
    ∙ ap (λ (b : Bool). let v : StoredView = record { is_up = false; was_started = b; source = source_in t; held = held } in v) whole.0
    ∙ ap (λ (x : SourceView). let v : StoredView = record { is_up = false; was_started = true; source = x; held = held } in v) is in
    let sound_left : IsSound (stored_in t was held) = subst IsSound (sym view) goes.sound in
    (sound_left, carried (stored_in s was held) (stored_in t was held) Crash Works None sound sound_left (ap silent view ∙ ap (called Crash Works) (sym (view_up s was held up whole.0))))

-- calls that a source which is down doesn't take
abbrev pub IsNoStart : SourceCall → Type 0
IsNoStart (Start now) = ⊥
IsNoStart call = Unit {0}

not_taken : (call : SourceCall) (v : StoredView) → IsNoStart call → called_down call Works v ≡ silent v
not_taken (Start now) v other = absurd other
not_taken (Ask rate) v other = refl
not_taken (Answer reply) v other = refl
not_taken (Emit now) v other = refl
not_taken Crash v other = refl

pub carried_down : (s t : AbtSource) (was : Bool) (held left : KeptRecord) (call : SourceCall) → IsNoStart call → s.phase ≡ down_phase → t ≡ s → left ≡ held → IsSound (stored_in s was held) →
    IsSound (stored_in t was left) × IsCarriedOut (stored_in s was held) call None (stored_in t was left)
carried_down s t was held left call other down same kept sound =
    let view : stored_in t was left ≡ stored_in s was held = ap (λ (x : AbtSource). stored_in x was left) same ∙ ap (stored_in s was) kept in
    let is_down : not (s.phase == down_phase) ≡ false = ap not (eq-eqb s.phase down_phase down) in
    let value : silent (stored_in s was held) ≡ called call Works (stored_in s was held) = sym (cond-false _ _ _ is_down ∙ not_taken call (stored_in s was held) other) in
    let sound_left : IsSound (stored_in t was left) = subst IsSound (sym view) sound in
    (sound_left, carried (stored_in s was held) (stored_in t was left) call Works None sound sound_left (ap silent view ∙ value))

-- a start that leaves all as it was
pub carried_no_start : (s t : AbtSource) (was : Bool) (held left : KeptRecord) (now : ℕ) → t ≡ s → left ≡ held → IsSound (stored_in s was held) →
    IsSound (stored_in t was left) × IsCarriedOut (stored_in s was held) (Start now) None (stored_in t was left)
carried_no_start s t was held left now same kept sound =
    let view : stored_in t was left ≡ stored_in s was held = ap (λ (x : AbtSource). stored_in x was left) same ∙ ap (stored_in s was) kept in
    let v = stored_in s was held in
    let value : silent v ≡ called (Start now) FailsBefore v = cond_both (not (s.phase == down_phase)) (called_up (Start now) FailsBefore v) (called_down (Start now) FailsBefore v) (λ (c : Called). silent v ≡ c) (λ e. refl) (λ e. refl) in
    let sound_left : IsSound (stored_in t was left) = subst IsSound (sym view) sound in
    (sound_left, carried v (stored_in t was left) (Start now) FailsBefore None sound sound_left (ap silent view ∙ value))

-- an emission
pub carried_emit : (s t : AbtSource) (was : Bool) (held : KeptRecord) (now next before : ℕ) (r : Result ℕ ShapeFault) → r ≡ result_of_emission (source_in s) now → IsReady s → IsSound (stored_in s was held) →
    MatchResult r (λ moment. (next ≡ moment) × IsSource t × (t.phase ≡ s.phase) × (t.is_writing ≡ 0) × (source_in t ≡ emitted_source (source_in s) now moment)) (λ fault. (next ≡ later_of fault before) × (t ≡ s)) →
    IsSource t × (t.is_writing ≡ 0) × IsSound (stored_in t was held) × IsCarriedOut (stored_in s was held) (Emit now) None (stored_in t was held)
carried_emit s t was held now next before (Ok moment) is ready sound said =
    let still : t.phase ≢ down_phase = λ e. ready.1 (sym said.2 ∙ e) in
    let value : silent (up_in t held) ≡ called_up (Emit now) Works (up_in s held) =
    ap (λ (x : SourceView). silent (record { is_up = true; was_started = true; source = x; held = held })) said.4 ∙ ap (emitted_by (up_in s held) now) is in
    let both = carried_up s t was held held (Emit now) Works None ready.1 still sound value in
    (said.1, said.3, both.0, both.1)
carried_emit s t was held now next before (Err fault) is ready sound said =
    let still : t.phase ≢ down_phase = λ e. ready.1 (sym (ap (λ (x : AbtSource). x.phase) said.1) ∙ e) in
    let value : silent (up_in t held) ≡ called_up (Emit now) Works (up_in s held) =
    ap (λ (x : AbtSource). silent (up_in x held)) said.1 ∙ ap (emitted_by (up_in s held) now) is in
    let both = carried_up s t was held held (Emit now) Works None ready.1 still sound value in
    (subst IsSource (sym said.1) ready.0, ap (λ (x : AbtSource). x.is_writing) said.1 ∙ ready.2, both.0, both.1)

-- an answer
heard_same : (a : Answered) → heard_in_c a ≡ heard_in a
heard_same (Raised s) = refl
heard_same (Refused s) = refl
heard_same (Ignored s) = refl

pub carried_answer : (s t : AbtSource) (was : Bool) (held : KeptRecord) (reply : Reply) → s.phase ≢ down_phase → t.phase ≢ down_phase → source_in t ≡ heard_in_c (result_of_answer (source_in s) reply) → IsSound (stored_in s was held) →
    IsSound (stored_in t was held) × IsCarriedOut (stored_in s was held) (Answer reply) None (stored_in t was held)
carried_answer s t was held reply up still is sound =
    carried_up s t was held held (Answer reply) Works None up still sound
    (ap (λ (x : SourceView). silent (record { is_up = true; was_started = true; source = x; held = held })) (is ∙ heard_same (result_of_answer (source_in s) reply)))

-- what is in order in a state that is as it was
pub same_state : (s t : AbtSource) → t ≡ s → IsSource s × (s.is_writing ≡ 0) → IsSource t × (t.is_writing ≡ 0)
same_state s t is old = subst (λ (x : AbtSource). IsSource x × (x.is_writing ≡ 0)) (sym is) old
