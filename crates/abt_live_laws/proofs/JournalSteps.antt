-- What the journal of a switch says of its ports, over any lines.
use Rattle.std.proofs.Common.{◌≡◌, ◌≢◌, ◌∙◌, ◌⊎◌, inl, inr, ℕ, ◌+◌, ◌<◌, List, [], ◌∷◌, ◌++◌, refl, sym, ap, subst, length, length-set}
use Rattle.std.specs.Prelude.{Option, Some, slice_get, slice_set}
use Rattle.std.proofs.KnownBytes.{Appends-nil, Appends-trans}
use Rattle.std.proofs.lemmas.Bool.{cases_eq, cond-true, cond-false, eq-eqb, ne_eqb}
use Rattle.std.proofs.lemmas.List.{get_or-set_same, get_or-set_other}
use Rattle.std.proofs.lemmas.Option.{get_or_from_slice_get, slice_get-get_or, slice_get_within}
use Rattle.std.specs.Io.KnownBytes.{Appends}
use Rattle.abt_net.specs.Topology.{Topology}
use Rattle.abt_journal.specs.declared.entry.Entry.{Entry}
use Rattle.abt_journal.specs.declared.input.PortInput.{PortInput}
use Rattle.abt_live.specs.declared.live_port.LivePort.{LivePort}
use Rattle.abt_live.specs.declared.switch.SwitchLines.{SwitchLines}
use Rattle.abt_live.specs.declared.switch_asked.SwitchAsked.{SwitchAsked}
use Rattle.abt_live.specs.declared.switch_asked.SwitchAsked.TheVariants.{Step, Wrong}
use Rattle.abt_live_laws.specs.Journals.{AreSteps, DoneStep, JournalsAreSteps, entries_at, lines_text}
use Rattle.abt_live.specs.Ports.{entry_at, past_step, switch_line}
use Rattle.abt_live.specs.Switch.{IsDone}
use Rattle.abt_live.specs.SwitchAsked.{asked_on}
use Rattle.abt_live.proofs.SwitchSteps.{same_port}

pub set_same : (ports : List LivePort) (place : ℕ) (old new : LivePort) → slice_get ports place ≡ Some old → slice_get (slice_set ports place new) place ≡ Some new
set_same ports place old new is =
    let low : place < length ports = slice_get_within ports place old is in
    let low' : place < length (slice_set ports place new) = subst (λ n. place < n) (sym (length-set ports place new)) low in
    slice_get-get_or (slice_set ports place new) place new low' ∙ ap Some (get_or-set_same ports place new new low)

pub set_other : (ports : List LivePort) (place other : ℕ) (new live : LivePort) → other ≢ place → slice_get ports other ≡ Some live
    → slice_get (slice_set ports place new) other ≡ Some live
set_other ports place other new live ne is =
    let low : other < length ports = slice_get_within ports other live is in
    let low' : other < length (slice_set ports place new) = subst (λ n. other < n) (sym (length-set ports place new)) low in
    slice_get-get_or (slice_set ports place new) other live low'
    ∙ ap Some (get_or-set_other ports place other new live ne ∙ get_or_from_slice_get ports other live live is)

-- what a line does to the ports, and what it writes: nothing, or a step
pub record IsOneStep (ports : List LivePort) (written : List ℕ) (new : List LivePort) : Type 0 where
  pub place : ℕ
  pub id : ℕ
  pub input : PortInput
  pub cell : Option ℕ
  pub live : LivePort
  pub is : slice_get ports place ≡ Some live
  pub entry : written ≡ switch_line id (entry_at live input) cell
  pub past : new ≡ slice_set ports place (past_step live input)

abbrev Happened : List LivePort → List ℕ → List LivePort → Type 0
Happened ports written new = ((written ≡ []) × (new ≡ ports)) ⊎ IsOneStep ports written new

happened : (net : Topology) (ports : List LivePort) (asked : SwitchAsked) (said written : List ℕ) (new : List LivePort)
    → IsDone net ports asked said written new → Happened ports written new
happened net ports (Step id input cell) said written new (inl s) = inr (record {
  place = s.place;
  id = id;
  input = input;
  cell = cell;
  live = s.live;
  is = s.takes.is;
  entry = s.entry;
  past = s.past;
})
happened net ports (Step id input cell) said written new (inr (fault, why, f)) = inl (f.silent, f.same)
happened net ports (Wrong fault) said written new f = inl (f.silent, f.same)

hit : (place other : ℕ) (live after : LivePort) (id : ℕ) (input : PortInput) (cell : Option ℕ) (steps : List DoneStep) → place ≡ other
    → AreSteps (past_step live input) (entries_at other steps) after
    → AreSteps live (entries_at other (record { place = place; id = id; entry = entry_at live input; cell = cell } ∷ steps)) after
hit place other live after id input cell steps e more =
    subst (λ es. AreSteps live es after) (sym (cond-true _ _ _ (eq-eqb place other e))) (input, refl, more)

miss : (place other : ℕ) (live after : LivePort) (id : ℕ) (entry : Entry) (cell : Option ℕ) (steps : List DoneStep) → place ≢ other
    → AreSteps live (entries_at other steps) after
    → AreSteps live (entries_at other (record { place = place; id = id; entry = entry; cell = cell } ∷ steps)) after
miss place other live after id entry cell steps ne more =
    subst (λ es. AreSteps live es after) (sym (cond-false _ _ _ (ne_eqb place other ne))) more

-- From these ports on the ports became those, by these steps.
abbrev Lead : List LivePort → List DoneStep → List LivePort → Type 0
Lead ports steps new = (place : ℕ) (live : LivePort) → slice_get ports place ≡ Some live
    → (after : LivePort) × (slice_get new place ≡ Some after) × AreSteps live (entries_at place steps) after

first_step : (ports mid new : List LivePort) (place id : ℕ) (input : PortInput) (cell : Option ℕ) (live : LivePort) (steps : List DoneStep)
    → slice_get ports place ≡ Some live → mid ≡ slice_set ports place (past_step live input) → Lead mid steps new
    → Lead ports (record { place = place; id = id; entry = entry_at live input; cell = cell } ∷ steps) new
first_step ports mid new place id input cell live steps is past more other at_other seen = elim (cases_eq place other) [
  | inl e ↦ (
      let same : live ≡ at_other = same_port ports other live at_other (subst (λ p. slice_get ports p ≡ Some live) e is) seen in
      let there : slice_get mid other ≡ Some (past_step live input) =
      ap (λ (m : List LivePort). slice_get m other) past
      ∙ subst (λ p. slice_get (slice_set ports place (past_step live input)) p ≡ Some (past_step live input)) e (set_same ports place live (past_step live input) is) in
      let rest = more other (past_step live input) there in (
        rest.0,
        rest.1,
        subst (λ (l : LivePort). AreSteps l (entries_at other (record { place = place; id = id; entry = entry_at live input; cell = cell } ∷ steps)) rest.0) same
            (hit place other live rest.0 id input cell steps e rest.2),
      ))
  | inr ne ↦ (
      let there : slice_get mid other ≡ Some at_other =
      ap (λ (m : List LivePort). slice_get m other) past ∙ set_other ports place other (past_step live input) at_other (λ e. ne (sym e)) seen in
      let rest = more other at_other there in
      (rest.0, rest.1, miss place other at_other rest.0 id (entry_at live input) cell steps ne rest.2))
]

pub journals_are_steps : {J : Type 0} (contents : J → Option (List ℕ)) → JournalsAreSteps contents
journals_are_steps {J = J} contents old new number [] said (none, same) = (
  [],
  subst (λ (n : SwitchLines J). Appends (contents old.journal) (contents n.journal) []) (sym same) (Appends-nil (contents old.journal)),
  λ place live is. (live, ap (λ (n : SwitchLines J). slice_get n.ports.items place) same ∙ is, refl),
)
journals_are_steps contents old new number (line ∷ lines) said (mid, first, rest, is, step, run) =
    let more = journals_are_steps contents mid new (number + 1) lines rest run in
    elim (happened old.net.now old.ports.items (asked_on line) first step.written mid.ports.items step.done) [
      | inl (none, same) ↦ (
        more.0,
        subst (λ t. Appends (contents old.journal) (contents new.journal) (t ++ lines_text more.0)) none
            (Appends-trans (contents old.journal) (contents mid.journal) (contents new.journal) step.written (lines_text more.0) step.journal more.1),
        λ place live at. more.2 place live (subst (λ (p : List LivePort). slice_get p place ≡ Some live) (sym same) at),
      )
      | inr s ↦ (
        record { place = s.place; id = s.id; entry = entry_at s.live s.input; cell = s.cell } ∷ more.0,
        subst (λ t. Appends (contents old.journal) (contents new.journal) (t ++ lines_text more.0)) s.entry
            (Appends-trans (contents old.journal) (contents mid.journal) (contents new.journal) step.written (lines_text more.0) step.journal more.1),
        first_step old.ports.items mid.ports.items new.ports.items s.place s.id s.input s.cell s.live more.0 s.is s.past more.2,
      )
    ]
