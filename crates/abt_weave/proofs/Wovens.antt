-- What is answered in the end.
use Rattle.std.proofs.Common.{◌≡◌, ◌≢◌, ℕ, ◌+◌, ◌-◌, inl, inr, refl, ap, Bool, true, false, List, [], ◌∷◌, length, reverse, ◌∙◌, sym, subst, Some, arith}
use Rattle.std.proofs.lemmas.Bool.{cases_Bool, eqb-true, false≢true}
use Rattle.std.specs.Prelude.{◌==◌, nat_lt, slice_get}
use Rattle.std.proofs.lemmas.Option.{slice_get_within}
use Rattle.abt_net.specs.Topology.{Topology}
use Rattle.abt_model.specs.declared.event.Event.{Event}
use Rattle.abt_world.specs.Standing.{WorldView}
use Rattle.abt_weave.specs.declared.actor.Actor.TheVariants.{Source, Port}
use Rattle.abt_weave.specs.declared.actor.Stuck.{Stuck}
use Rattle.abt_weave.specs.Projections.{steps_on, entries_on}
use Rattle.abt_weave.specs.Woven.{IsWoven}
use Rattle.abt_weave.specs.Stuck.{RunJournals, steps_in, entries_in, port_journal, source_journal}
use Rattle.abt_weave.specs.Actors.{actor_count, actor_at, place_in}
use Rattle.abt_weave.specs.Progress.{IsPlacing, AreSettled}
use Rattle.abt_weave.specs.Marks.{AreUnmarked, IsFirstMark}
use Rattle.abt_weave.specs.Faults.{source_left, port_left, all_left, IsFirstMismatch, NoneMismatches}
use Rattle.abt_weave.proofs.Ends.{beyond_source, beyond_port, whole_beginning}
use Rattle.abt_weave.proofs.Lefts.{at_end, all_at_end}
use Rattle.abt_weave.specs.OneFault.{AreJournalsOf}
use Rattle.abt_weave.proofs.Numbers.{below_if, below_else, source_at, port_at, source_settled, port_settled}

-- the first actor that is marked is the first whose next entry mismatches
pub first_is : (net : Topology) (js : RunJournals) → AreJournalsOf net js → (events : List Event) (world : WorldView) (sp pp : List ℕ) (marks : List Bool) (stuck : Stuck) → IsPlacing net js events world sp pp →
    AreSettled net js (reverse events) (actor_count net) marks → IsFirstMark net marks sp pp stuck → IsFirstMismatch net js (reverse events) stuck.actor stuck.place
first_is net js are events world sp pp marks stuck progress settled first =
    let earlier = reverse events in
    let n = length net.conns in
    let i = first.number in
    elim (cases_Bool (nat_lt i n)) [
      | inl less ↦ (
          let low = below_if i n less in
          let is : stuck.actor ≡ Source i = first.actor_is ∙ source_at net i low in
          subst (λ a. IsFirstMismatch net js earlier a stuck.place) (sym is) (
            first.place_is ∙ ap (place_in sp pp) is ∙ progress.source_places i (omega (arith, low, progress.source_count, are.conns)),
            (source_settled net js earlier marks i true settled low first.marked).marks,
            λ d before m. (source_settled net js earlier marks d false settled (omega (arith, before, low)) (first.before d before)).marks m,
          ))
      | inr not_less ↦ (
          let p = i - n in
          let high = below_else i n not_less in
          let at : i ≡ n + p = omega (arith, high) in
          let is : stuck.actor ≡ Port p = first.actor_is ∙ ap (actor_at net) at ∙ port_at net p in
          let low = slice_get_within marks i true first.marked in
          subst (λ a. IsFirstMismatch net js earlier a stuck.place) (sym is) (
            first.place_is ∙ ap (place_in sp pp) is ∙ progress.port_places p (omega (arith, low, at, settled.count_is, progress.port_count, are.ports)),
            (port_settled net js earlier marks p true settled (subst (λ k. slice_get marks k ≡ Some true) at first.marked)).marks,
            λ d. beyond_source net js are earlier marks settled d (λ within. first.before d (omega (arith, within, high))),
            λ q before m. (port_settled net js earlier marks q false settled (first.before (n + q) (omega (arith, before, at)))).marks m,
          ))
    ]

pub none_mismatch : (net : Topology) (js : RunJournals) → AreJournalsOf net js → (earlier : List Event) (marks : List Bool) → AreSettled net js earlier (actor_count net) marks → AreUnmarked marks (length marks) → NoneMismatches net js earlier
none_mismatch net js are earlier marks settled none = record {
  sources = λ c. beyond_source net js are earlier marks settled c (λ low. none c (omega (arith, low, settled.count_is)));
  ports = λ p. beyond_port net js are earlier marks settled p (λ low. none (length net.conns + p) (omega (arith, low, settled.count_is)));
}

pub all_woven : (net : Topology) (js : RunJournals) (events : List Event) (world : WorldView) (sp pp : List ℕ) → IsPlacing net js events world sp pp → all_left net js (reverse events) ≡ [] → IsWoven net js.ports js.sources events
all_woven net js events world sp pp progress none =
    let earlier = reverse events in
    let ends = all_at_end (source_left net js earlier) (port_left net js earlier) (length js.sources) (length js.ports) none in
    record {
      ports = λ p entries is.
          (let low = slice_get_within js.ports p entries is in
          let last = at_end (Port p) (length (steps_on net p earlier)) (length (port_journal js p)) (ends.1 p low) in
          whole_beginning (steps_on net p earlier) (port_journal js p) (progress.placed.ports p) last ∙ ap steps_in is);
      conns = λ c journal is.
          (let low = slice_get_within js.sources c journal is in
          let last = at_end (Source c) (length (entries_on net c earlier)) (length (source_journal js c)) (ends.0 c low) in
          whole_beginning (entries_on net c earlier) (source_journal js c) (progress.placed.conns c) last ∙ ap entries_in is);
    }

pub empty_is : (left : List Stuck) → (length left == 0) ≡ true → left ≡ []
empty_is [] h = refl
empty_is (x ∷ left) h = absurd (let e = eqb-true (length (x ∷ left)) 0 h in omega (arith, e))

pub some_left : (left : List Stuck) → (length left == 0) ≡ false → left ≢ []
some_left left h = λ none. false≢true (sym h ∙ ap (λ (l : List Stuck). length l == 0) none)
