-- What the code carries out.
use Rattle.std.proofs.Common.{◌≡◌, ℕ, refl, ap, Bool, true, false, ◌∙◌, sym, subst}
use Rattle.std.specs.Prelude.{nat_le, Option, None, Result, Ok, Err}
use Rattle.std.proofs.lemmas.Bool.{false≢true, cond_both}
use Rattle.abt_rate.specs.Limits.{start_max}
use Rattle.abt_cell.specs.Message.{Terms, Reply}
use Rattle.abt_keep.specs.Record.{KeptRecord}
use Rattle.abt_keep.specs.declared.fault.StoreFault.{StoreFault}
use Rattle.abt_keep.specs.declared.plan.StorePlan.{StorePlan}
use Rattle.abt_keep.specs.declared.plan.StorePlan.TheVariants.{Works, FailsBefore}
use Rattle.abt_source.specs.SourceView.{SourceView}
use Rattle.abt_source.specs.Calls.{result_of_start, result_of_answer}
use Rattle.abt_source.specs.declared.start.StartRefused.{StartRefused}
use Rattle.abt_source.specs.declared.fault.StartFault.TheVariants.{Keep, TimeRange}
use Rattle.abt_lifetime.specs.declared.any_source.AnySource.{AnySource}
use Rattle.abt_lifetime.specs.declared.any_source.AnySource.TheVariants.{Down, Idle, Asking}
use Rattle.abt_lifetime.specs.declared.call.SourceCall.{SourceCall}
use Rattle.abt_lifetime.specs.declared.call.SourceCall.TheVariants.{Start, Ask, Answer}
use Rattle.abt_lifetime.specs.Lifetime.{StoredView, Called, silent, asked, heard_in, called, out_of}
use Rattle.abt_lifetime.specs.Numbers.{used_up_to, RiseWithin, numbers_of, IsCarriedOut}
use Rattle.abt_lifetime.specs.Sound.{IsAhead, IsSound}
use Rattle.abt_lifetime.specs.Sources.{source_in, is_up_in, stored_in}
use Rattle.abt_lifetime.proofs.Lives.{sound_number, sound_spacing}
use Rattle.abt_lifetime.proofs.Steps.{Goes, up, ask_goes, answer_goes, call_rises}

-- what goes as a plan says is carried out
pub carried : (v after : StoredView) (call : SourceCall) (plan : StorePlan) (request : Option Terms) → IsSound v → IsSound after → (let is : Called = record { after = after; request = request } in is ≡ called call plan v) →
    IsCarriedOut v call request after
carried v after call plan request sound left is = record {
  plan = plan;
  value = is;
  rise = subst (λ (c : Called). RiseWithin (used_up_to v) (numbers_of (out_of c.request)) (used_up_to c.after)) (sym is) (call_rises v.is_up v.was_started v.source v.held sound call plan);
  number = sound_number after left;
  spacing = sound_spacing after left;
}

-- a source that is up was started, and what holds of it
pub up_is : (running : AnySource) (was : Bool) (held : KeptRecord) → is_up_in running ≡ true → IsSound (stored_in running was held) →
    (was ≡ true) × (stored_in running was held ≡ up (source_in running) held) × IsAhead (source_in running) held
up_is (Down s) was held is sound = absurd (false≢true is)
up_is (Idle s) true held is sound = (refl, refl, sound)
up_is (Idle s) false held is sound = absurd sound
up_is (Asking s) true held is sound = (refl, refl, sound)
up_is (Asking s) false held is sound = absurd sound

up_view : (running : AnySource) (held : KeptRecord) → is_up_in running ≡ true → stored_in running true held ≡ up (source_in running) held
up_view running held is = ap (λ (b : Bool). let v : StoredView = record { is_up = b; was_started = true; source = source_in running; held = held } in v) is

pub ask_carried : (running left : AnySource) (was : Bool) (old new : KeptRecord) (request : Option Terms) (plan : StorePlan) (rate : ℕ) → is_up_in running ≡ true → IsSound (stored_in running was old) →
    (let is : Called = record { after = stored_in left true new; request = request } in is ≡ asked plan (stored_in running true old) rate) →
    IsSound (stored_in left was new) × IsCarriedOut (stored_in running was old) (Ask rate) request (stored_in left was new)
ask_carried running left was old new request plan rate is_up sound is =
    let whole = up_is running was old is_up sound in
    let s = source_in running in
    let by : (let it : Called = record { after = stored_in left true new; request = request } in it ≡ asked plan (up s old) rate) = is ∙ ap (λ (v : StoredView). asked plan v rate) (up_view running old is_up) in
    let goes = subst (Goes (up s old)) (sym by) (ask_goes s old whole.2 plan rate) in
    let left_sound : IsSound (stored_in left was new) = subst (λ (b : Bool). IsSound (stored_in left b new)) (sym whole.0) goes.sound in
    let value : (let it : Called = record { after = stored_in left was new; request = request } in it ≡ called (Ask rate) plan (stored_in running was old)) =
    subst (λ (b : Bool). (let it : Called = record { after = stored_in left b new; request = request } in it ≡ called (Ask rate) plan (stored_in running b old))) (sym whole.0)
    (by ∙ ap (called (Ask rate) plan) (sym (up_view running old is_up))) in
    (left_sound, carried (stored_in running was old) (stored_in left was new) (Ask rate) plan request sound left_sound value)

pub answer_carried : (running left : AnySource) (was : Bool) (held : KeptRecord) (reply : Reply) → is_up_in running ≡ true → IsSound (stored_in running was held) →
    is_up_in left ≡ true → source_in left ≡ heard_in (result_of_answer (source_in running) reply) →
    IsSound (stored_in left was held) × IsCarriedOut (stored_in running was held) (Answer reply) None (stored_in left was held)
answer_carried running left was held reply is_up sound left_up is =
    let whole = up_is running was held is_up sound in
    let s = source_in running in
    let goes = answer_goes s held whole.2 reply in
    let left_is : stored_in left true held ≡ up (heard_in (result_of_answer s reply)) held = up_view left held left_up ∙ ap (λ (t : SourceView). up t held) is in
    let left_sound : IsSound (stored_in left was held) = subst (λ (b : Bool). IsSound (stored_in left b held)) (sym whole.0) (subst IsSound (sym left_is) goes.sound) in
    let value : silent (stored_in left was held) ≡ called (Answer reply) Works (stored_in running was held) =
    subst (λ (b : Bool). silent (stored_in left b held) ≡ called (Answer reply) Works (stored_in running b held)) (sym whole.0) (ap silent left_is ∙ ap (called (Answer reply) Works) (sym (up_view running held is_up))) in
    (left_sound, carried (stored_in running was held) (stored_in left was held) (Answer reply) Works None sound left_sound value)

-- a start that was refused leaves the source
refused_source : (s : SourceView) (now : ℕ) (r : StartRefused) (answer : Result KeptRecord StoreFault) → Err r ≡ result_of_start s now answer → r.source ≡ s
refused_source s now r (Err fault) e = (let is : r ≡ record { source = s; fault = Keep } = cc in ap (λ (x : StartRefused). x.source) is)
refused_source s now r (Ok kept) e =
    (cond_both (nat_le now start_max) _ _ (λ (x : Result SourceView StartRefused). Err r ≡ x → r.source ≡ s)
    (λ e1 no. absurd (cc)) (λ e1 is. (let same : r ≡ record { source = s; fault = TimeRange } = cc in ap (λ (x : StartRefused). x.source) same))) e

pub refused_carried : (s : SourceView) (was : Bool) (old new : KeptRecord) (now : ℕ) (r : StartRefused) (answer : Result KeptRecord StoreFault) → IsSound (stored_in (Down s) was old) → Err r ≡ result_of_start s now answer → new ≡ old →
    IsSound (stored_in (Down r.source) was new) × IsCarriedOut (stored_in (Down s) was old) (Start now) None (stored_in (Down r.source) was new)
refused_carried s was old new now r answer sound is same =
    let view : stored_in (Down r.source) was new ≡ stored_in (Down s) was old = ap (λ (x : SourceView). stored_in (Down x) was new) (refused_source s now r answer is) ∙ ap (stored_in (Down s) was) same in
    let left : IsSound (stored_in (Down r.source) was new) = subst IsSound (sym view) sound in
    (left, carried (stored_in (Down s) was old) (stored_in (Down r.source) was new) (Start now) FailsBefore None sound left (ap silent view))
