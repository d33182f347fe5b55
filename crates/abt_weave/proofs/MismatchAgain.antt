-- A mismatch of a port's next entry is one again where the port has had the same steps.
use Rattle.std.proofs.Common.{◌≡◌, ℕ, refl, ap, List, ◌++◌, length, ◌∙◌, sym, Some}
use Rattle.std.specs.Prelude.{slice_get}
use Rattle.abt_net.specs.Topology.{Topology}
use Rattle.abt_model.specs.declared.event.Event.{Event}
use Rattle.abt_model.specs.Outcomes.{conn_of}
use Rattle.abt_journal.specs.declared.input.PortReply.{PortReply}
use Rattle.abt_model.specs.declared.entry.SourceEntry.{SourceEntry}
use Rattle.abt_weave.specs.Projections.{Step, steps_on, entry_made, entries_on}
use Rattle.abt_weave.specs.Stuck.{RunJournals, port_journal, source_journal, PortMismatches}
use Rattle.abt_weave.proofs.Turns.{steps_turns, entries_turns}
use Rattle.abt_weave.proofs.AgainAt.{AgainAt}

-- The next entry of a port that mismatched does so, with the same step and reply.
pub record MismatchesAs (net : Topology) (js : RunJournals) (earlier : List Event) (p : ℕ) (step : Step) (reply : PortReply) : Type 0 where
  pub mismatch : PortMismatches net js earlier p
  pub step_is : mismatch.step ≡ step
  pub reply_is : mismatch.visits.reply ≡ reply

pub mismatch_again : (net : Topology) (js : RunJournals) (less more : List Event) (p : ℕ) → (m : PortMismatches net js less p) → AgainAt net more (m.turns ++ less) m.event m.visits → steps_on net p less ≡ steps_on net p more →
    ((c : ℕ) (x : SourceEntry) → conn_of m.event ≡ Some c → entry_made net (m.turns ++ less) m.event ≡ Some x → entries_on net c less ≡ entries_on net c more) → MismatchesAs net js more p m.step m.visits.reply
mismatch_again net js less more p m at same beside =
    let before = m.turns ++ less in
    let level : steps_on net p before ≡ steps_on net p (at.turns ++ more) = steps_turns net less m.turns m.turned p ∙ same ∙ sym (steps_turns net more at.turns at.all p) in
    record {
      mismatch = record {
        turns = at.turns;
        turned = at.all;
        event = m.event;
        visits = m.visits;
        comes = at.again.visits;
        here = m.here;
        step = m.step;
        next = ap (λ (l : List Step). slice_get (port_journal js p) (length l)) (sym level) ∙ m.next;
        place = m.place ∙ ap (λ (l : List Step). length l) level;
        input = m.input;
        beside = λ c x whose made.
            (let was = sym at.again.beside ∙ made in
            let entries : entries_on net c before ≡ entries_on net c (at.turns ++ more) =
            entries_turns net less m.turns m.turned c ∙ beside c x whose was ∙ sym (entries_turns net more at.turns at.all c) in
            ap (λ (l : List SourceEntry). slice_get (source_journal js c) (length l)) (sym entries) ∙ m.beside c x whose was);
      };
      step_is = refl;
      reply_is = refl;
    }
