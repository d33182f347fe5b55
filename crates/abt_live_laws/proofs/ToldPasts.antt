-- What a source that starts again has from its journal is what the journal's lines tell.
use Rattle.std.proofs.Common.{◌≡◌, ℕ, ◌+◌, ◌^◌, ◌≤◌, Bool, true, false, List, [], ◌∷◌, ◌++◌, refl, ap, sym, subst, ◌∙◌, arith, Option, None, Some}
use Rattle.std.specs.Prelude.{◌==◌, ◌&&◌, fold, if◌then◌else◌, max, nat_le, nat_lt}
use Rattle.std.proofs.lemmas.Bool.{cond_both, eqb-true, leb-true, ltb-false}
use Rattle.abt_model.specs.declared.event.Event.{Event}
use Rattle.abt_model.specs.declared.event.Event.TheVariants as event
use Rattle.abt_model.specs.declared.event.Event.TheVariants.{Start, Crash, Emit}
use Rattle.abt_model.specs.declared.outcome.Outcome.{Outcome}
use Rattle.abt_model.specs.declared.outcome.Outcome.TheVariants.{Started, Crashed, Emitted}
use Rattle.abt_weave.proofs.Candidates.{and_both}
use Rattle.abt_processes.specs.Processes.{JournalLine, About, Open, Deed}
use Rattle.std.proofs.lemmas.List.{append-nil}
use Rattle.abt_processes.specs.Journals.{Told, crash_lines, nothing_told, open_lines, told_by, with_deed, with_line}
use Rattle.abt_live.specs.History.{crash_text, open_text}
use Rattle.abt_live.specs.Source.{new_actor}
use Rattle.abt_live.specs.FailedLine.{failed_line}
use Rattle.abt_live.specs.SourceJournal.{deed_line}
use Rattle.abt_live_laws.specs.Machine.{lines_text}
use Rattle.abt_live_laws.proofs.SourceMoves.{lines_text-append}
use Rattle.abt_live.specs.declared.past.Past.{Past}
use Rattle.abt_live.specs.Past.{deed_after, emitted_past, no_past, settled, started_past}
use Rattle.abt_live_laws.specs.Pasts.{BeginsSo, IsPastOf, PastsAreTold, past_behind, past_with}

-- a past that follows is what is told with the line
abbrev Follows : Told → Option Past → Type 0
Follows told past = (next : Past) → past ≡ Some next → IsPastOf told next

same_past : {a b : Past} → Some a ≡ Some b → a ≡ b
same_past e = cc

plain : (told : Told) (past : Past) → IsPastOf told past → Follows told (Some past)
plain told past is next same = subst (IsPastOf told) (same_past same) is

latest : (clock now : ℕ) → clock ≤ now → now ≡ max now clock
latest clock now low = omega (arith, low)

follows_start : (told : Told) (past : Past) (now : ℕ) → IsPastOf told past → Follows (record told { clock = max now told.clock; is_up = true }) (started_past past now)
follows_start told past now is =
    let new : Told = record told { clock = max now told.clock; is_up = true } in
    let next : Past = record past { clock = now; is_up = true } in
    cond_both (nat_lt now past.clock) None (Some next) (λ o. Follows new o) (λ early other same. absurd (cc))
    (λ late. plain new next (record { cells = is.cells; clock = latest past.clock now (ltb-false now past.clock late) ∙ ap (λ (n : ℕ). max now n) is.clock; is_up = refl; about = is.about }))

follows_cell : (told : Told) (past : Past) (cell now : ℕ) → IsPastOf told past → Follows (record told { cells = told.cells + 1; clock = max now told.clock }) (emitted_past past cell now)
follows_cell told past cell now is =
    let new : Told = record told { cells = told.cells + 1; clock = max now told.clock } in
    let next : Past = record past { cells = cell + 1; clock = now } in
    let first = nat_lt (cell + 1) (2 ^ 64) && (cell == past.cells) in
    cond_both (first && nat_le past.clock now) (Some next) None (λ o. Follows new o) (λ can. (
    let both = and_both first (nat_le past.clock now) can in
    let number = eqb-true cell past.cells (and_both (nat_lt (cell + 1) (2 ^ 64)) (cell == past.cells) both.0).1 in
    plain new next (record {
      cells = ap (λ (n : ℕ). n + 1) (number ∙ is.cells);
      clock = latest past.clock now (leb-true past.clock now both.1) ∙ ap (λ (n : ℕ). max now n) is.clock;
      is_up = is.is_up;
      about = is.about;
    }))) (λ cannot other same. absurd (cc))

follows_deed : (told : Told) (past : Past) (event : Event) (outcome : Outcome) → IsPastOf told past → Follows (with_deed told event outcome) (deed_after past event outcome)
follows_deed told past (Start c now) Started is = follows_start told past now is
follows_deed told past (Start c now) other is = plain told past is
follows_deed told past (Emit c now) (Emitted cell next) is = follows_cell told past cell now is
follows_deed told past (Emit c now) other is = plain told past is
follows_deed told past (Crash c) Crashed is = plain (record told { is_up = false }) (record past { is_up = false }) (record { cells = is.cells; clock = is.clock; is_up = refl; about = is.about })
follows_deed told past (Crash c) other is = plain told past is
follows_deed told past other outcome is = plain told past is

nothing_about : (told : Told) (past : Past) → IsPastOf told past → IsPastOf (record told { about = None }) (settled past)
nothing_about told past is = record { cells = is.cells; clock = is.clock; is_up = is.is_up; about = refl }

follows_line : (told : Told) (past : Past) (line : JournalLine) → IsPastOf told past → Follows (with_line told line) (past_with past line)
follows_line told past (About rate) is = plain (record told { about = Some rate }) (record past { about = Some rate }) (record { cells = is.cells; clock = is.clock; is_up = is.is_up; about = refl })
follows_line told past (Open rate) is = plain (record told { about = None }) (settled past) (nothing_about told past is)
follows_line told past (Deed event outcome) is = follows_deed (record told { about = None }) (settled past) event outcome (nothing_about told past is)

behind : (told : Told) (before : Option Past) (lines : List JournalLine) (past : Past) → Follows told before → past_behind before lines ≡ Some past → IsPastOf (fold with_line told lines) past
behind told None lines past is read = absurd (cc)
behind told (Some first) [] past is read = is past read
behind told (Some first) (line ∷ lines) past is read = behind (with_line told line) (past_with first line) lines past (follows_line told first line (is first refl)) read

pub pasts_are_told : PastsAreTold
pasts_are_told lines past read = behind nothing_told (Some no_past) lines past (plain nothing_told no_past (record { cells = refl; clock = refl; is_up = refl; about = refl })) read

open_same : (conn : ℕ) (about : Option ℕ) → open_text conn about ≡ lines_text conn (open_lines about)
open_same conn None = refl
open_same conn (Some rate) = sym (append-nil (failed_line conn rate))

crash_same : (conn : ℕ) (up : Bool) → (if up then deed_line conn (event.Crash conn) Crashed else []) ≡ lines_text conn (crash_lines conn up)
crash_same conn true = sym (append-nil (deed_line conn (event.Crash conn) Crashed))
crash_same conn false = refl

pub begins_so : BeginsSo
begins_so conn vc stored lines past read =
    let told = told_by lines in
    let is = pasts_are_told lines past read in (
      ap (λ (n : ℕ). new_actor vc stored n past.clock) is.cells ∙ ap (λ (n : ℕ). new_actor vc stored told.cells n) is.clock,
      ap (λ (o : Option ℕ). open_text conn o ++ crash_text conn past) is.about
          ∙ ap (λ (l : List ℕ). l ++ crash_text conn past) (open_same conn told.about)
          ∙ ap (λ (b : Bool). lines_text conn (open_lines told.about) ++ (if b then deed_line conn (event.Crash conn) Crashed else [])) is.is_up
          ∙ ap (λ (l : List ℕ). lines_text conn (open_lines told.about) ++ l) (crash_same conn told.is_up)
          ∙ sym (lines_text-append conn (open_lines told.about) (crash_lines conn told.is_up)),
    )
