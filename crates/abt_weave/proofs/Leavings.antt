-- What events leave that are woven from journals.
use Rattle.std.proofs.Common.{◌≡◌, ℕ, suc, refl, ap, List, [], ◌∷◌, ◌++◌, ◌∙◌, sym, subst, Some, arith, reverse, map}
use Rattle.std.specs.Prelude.{All, slice_get}
use Rattle.std.proofs.lemmas.List.{reverse-append}
use Rattle.std.proofs.lemmas.List.Elements.{All-append, All-cons, All-nil}
use Rattle.abt_net.specs.declared.conn.Conn.{Conn}
use Rattle.abt_net.specs.Topology.{Topology, IsWithinRules}
use Rattle.abt_facts.specs.declared.fact.Fact.{Fact}
use Rattle.abt_actor.specs.Actor.{actor_of}
use Rattle.abt_model.specs.declared.event.Event.{Event}
use Rattle.abt_model.specs.Events.{AsksRate}
use Rattle.abt_model.specs.Past.{Past, facts_of}
use Rattle.abt_model.specs.PortTable.{port_table}
use Rattle.abt_model.specs.Run.{facts_after}
use Rattle.abt_journal.specs.declared.entry.Entry.{Entry}
use Rattle.abt_journal.specs.Replay.{replay}
use Rattle.abt_model.specs.declared.entry.SourceEntry.{SourceEntry}
use Rattle.abt_model.specs.declared.journal.SourceJournal.{SourceJournal}
use Rattle.abt_weave.specs.Projections.{Step, step_of, past_of, steps_on, entries_on}
use Rattle.abt_weave.specs.Woven.{IsWoven}
use Rattle.abt_weave.specs.Leaving.{facts_done, LeavesAsJournaled}
use Rattle.abt_weave.proofs.OwnFacts.{own, actor_of-own}
use Rattle.abt_weave.proofs.OwnReplays.{own_replayed}
use Rattle.abt_weave.proofs.Pasts.{past-is}
use Rattle.abt_weave.proofs.Replays.{replayed, replay-steps, tables_replayed}

pub all_reversed : {A : Type 0} → (P : A → Type 0) → (xs : List A) → All P xs → All P (reverse xs)
all_reversed P [] all = all
all_reversed P (x ∷ xs) all =
    subst (All P) (sym (reverse-append (x ∷ []) xs))
    (All-append P (reverse xs) (x ∷ []) (all_reversed P xs (λ k y low. all (suc k) y (omega (arith, low)))) (All-cons P x [] (all 0 x (omega arith)) (All-nil P)))

pub leaves : (net : Topology) (journals : List (List Entry)) (sources : List SourceJournal) (events : List Event) → IsWithinRules net → All AsksRate events → IsWoven net journals sources events →
    LeavesAsJournaled net journals sources (facts_after net events)
leaves net journals sources events rules rates woven =
    let earlier = reverse events in
    record {
      tables = λ p entries is.
          ap (λ (past : Past). port_table net past p) (past-is net events)
          ∙ tables_replayed net rules earlier (all_reversed AsksRate events rates) p
          ∙ ap (replayed (port_table net [] p)) (woven.ports p entries is)
          ∙ sym (replay-steps (port_table net [] p) entries);
      actors = λ c conn journal known is.
          sym (actor_of-own conn.vc (facts_of c (facts_after net events)))
          ∙ ap (λ (past : Past). actor_of conn.vc (own (facts_of c past))) (past-is net events)
          ∙ ap (actor_of conn.vc) (own_replayed net c earlier)
          ∙ ap (λ (entries : List SourceEntry). actor_of conn.vc (facts_done [] entries)) (woven.conns c journal is);
    }
