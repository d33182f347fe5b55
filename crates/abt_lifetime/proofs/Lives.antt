-- What lists of calls leave in order.
use Rattle.std.proofs.Common.{◌≡◌, ℕ, ◌≤◌, Bool, true, false, List, [], ◌∷◌, ◌++◌, arith}
use Rattle.std.specs.Prelude.{Option, None, Some}
use Rattle.abt_rate.specs.Limits.{number_max}
use Rattle.abt_cell.specs.Message.{Terms}
use Rattle.abt_keep.specs.Record.{KeptRecord}
use Rattle.abt_keep.specs.declared.plan.StorePlan.{StorePlan}
use Rattle.abt_source.specs.SourceView.{SourceView}
use Rattle.abt_lifetime.specs.declared.call.SourceCall.{SourceCall}
use Rattle.abt_lifetime.specs.Lifetime.{StoredView, called, out_of, lived}
use Rattle.abt_lifetime.specs.Numbers.{used_up_to, RiseWithin, numbers_of, CoversSource, new_stored, NumbersAreKept}
use Rattle.abt_lifetime.specs.Sound.{IsSoundIf, IsSound}
use Rattle.abt_lifetime.proofs.Steps.{call_goes}

-- numbers that rise above a bound rise above a lower one, and one rise goes on another
pub rise_lower : (a b c : ℕ) (ns : List ℕ) → a ≤ b → RiseWithin b ns c → RiseWithin a ns c
rise_lower a b c [] low rise = omega arith
rise_lower a b c (n ∷ ns) low rise = (let first = rise.0 in omega arith, rise.1)

pub rise_on : (a b c : ℕ) (first : Option Terms) (rest : List Terms) → RiseWithin a (numbers_of (out_of first)) b → RiseWithin b (numbers_of rest) c → RiseWithin a (numbers_of (out_of first ++ rest)) c
rise_on a b c None rest one two = rise_lower a b c (numbers_of rest) one two
rise_on a b c (Some request) rest one two = (one.0, rise_lower request.seq b c (numbers_of rest) one.1 two)

lives : (calls : List (SourceCall × StorePlan)) (v : StoredView) → IsSound v → v.held.number ≤ number_max →
    IsSound (lived calls v).after × RiseWithin (used_up_to v) (numbers_of (lived calls v).requests) (used_up_to (lived calls v).after)
lives [] v sound within = (sound, omega arith)
lives (first ∷ calls) v sound within =
    let goes = call_goes v.is_up v.was_started v.source v.held sound within first.0 first.1 in
    let now = called first.0 first.1 v in
    let rest = lives calls now.after goes.sound goes.within in
    (rest.0, rise_on (used_up_to v) (used_up_to now.after) (used_up_to (lived calls now.after).after) now.request (lived calls now.after).requests goes.rise rest.1)

-- what is in order is kept
number_kept : (is_up was_started : Bool) (s : SourceView) (held : KeptRecord) → IsSoundIf is_up was_started s held →
    used_up_to (record { is_up = is_up; was_started = was_started; source = s; held = held }) ≤ held.number
number_kept true true s held sound =
    let ahead = sound.ahead in
    let behind = sound.behind in
    omega arith
number_kept true false s held sound = absurd sound
number_kept false b s held sound = omega arith

spacing_kept : (is_up was_started : Bool) (s : SourceView) (held : KeptRecord) → IsSoundIf is_up was_started s held → was_started ≡ true → CoversSource s held.spacing
spacing_kept true true s held sound was = sound.covers
spacing_kept true false s held sound was = absurd sound
spacing_kept false true s held sound was = sound.1
spacing_kept false false s held sound was = absurd (cc)

pub sound_number : (v : StoredView) → IsSound v → used_up_to v ≤ v.held.number
sound_number v sound = number_kept v.is_up v.was_started v.source v.held sound

pub sound_spacing : (v : StoredView) → IsSound v → v.was_started ≡ true → CoversSource v.source v.held.spacing
sound_spacing v sound was = spacing_kept v.is_up v.was_started v.source v.held sound was

pub numbers_kept : NumbersAreKept
numbers_kept vc held calls within =
    let v = new_stored vc held in
    let both = lives calls v tt within in
    record { rise = both.1; number = sound_number (lived calls v).after both.0; spacing = sound_spacing (lived calls v).after both.0 }
