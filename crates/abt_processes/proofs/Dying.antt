-- Live processes after a process of a source was killed.
use Rattle.std.proofs.Common.{◌≡◌, ◌≢◌, ℕ, inl, inr, List, [], ◌∷◌, ◌++◌, ap, sym, subst, ◌∙◌, None}
use Rattle.std.proofs.lemmas.List.{append-nil}
use Rattle.abt_rate.specs.Limits.{number_max}
use Rattle.abt_keep.specs.Record.{KeptRecord}
use Rattle.abt_net.specs.Topology.{Topology, IsWithinRules}
use Rattle.abt_source.specs.Calls.{has_to_write, record_to_write}
use Rattle.abt_source.specs.SourceView.{SourceView}
use Rattle.abt_model.specs.declared.event.Event.{Event}
use Rattle.abt_model.specs.Past.{facts_of}
use Rattle.abt_actor.specs.Actor.{ActorView, actor_of}
use Rattle.abt_weave.specs.Projections.{past_of}
use Rattle.abt_processes.specs.Processes.{About, Alive, Dead, Processes}
use Rattle.abt_processes.specs.Journals.{Told, deeds_in, told_by, with_line}
use Rattle.abt_processes.specs.Actors.{IsAlike}
use Rattle.abt_processes.specs.Sources.{IsCutOff}
use Rattle.abt_processes.specs.Moves.{SourceDies, SourceDiesAsking}
use Rattle.abt_processes.specs.Events.{IsProcessOf, IsStored, Tells}
use Rattle.abt_processes.proofs.Members.{stay_only}
use Rattle.abt_processes.proofs.Doing.{become_stands, process_at}
use Rattle.abt_processes.proofs.Invariant.{Stands}
use Rattle.abt_processes.proofs.Own.{none_beside}
use Rattle.abt_processes.proofs.Telling.{deeds-append, told-append}

-- what the store has of a process that is killed
stored_there : (actor mine : ActorView) (told : Told) → IsAlike actor mine → told.about ≡ None → IsStored actor mine.kept told.about
stored_there actor mine told alike none = subst (IsStored actor mine.kept) (sym none) alike.kept

pub death_moves : (net : Topology) → IsWithinRules net → (earlier : List Event) (old new : Processes) → Stands net earlier old → SourceDies net old new → (later : List Event) × Stands net later new
death_moves net rules earlier old new is move =
    let c = move.c in (
      earlier,
      become_stands net rules earlier earlier old new c (Dead move.actor.kept) (old.sources c).journal (old.lines c) is (none_beside net earlier c is.events.rates) move.becomes (stay_only c old.lines new.lines move.lines) (record {
        source_is = record {
          deeds = (is.events.sources c).deeds;
          process = λ conn known. (
              let had = process_at net earlier old c conn (Alive move.actor) is known move.alive in
              (had.0, stored_there (actor_of conn.vc (facts_of c (past_of net earlier))) move.actor (told_by (old.sources c).journal) had.1 had.2)
              );
        };
        line_is = is.lines c;
      }),
    )

-- An ask that was cut off was one of an actor that is alike.
cut_alike : (actor mine : ActorView) (rate : ℕ) (stored : KeptRecord) → IsAlike actor mine → IsCutOff mine rate stored → IsCutOff actor rate stored
cut_alike actor mine rate stored alike cut =
    let same : mine.source ≡ actor.source = alike.source (λ e. cut.up (alike.state ∙ e)) in
    record {
      rate_is = cut.rate_is;
      up = λ e. cut.up (alike.state ∙ e);
      number_left = subst (λ (s : SourceView). s.last ≢ number_max) same cut.number_left;
      writes = ap (λ (s : SourceView). has_to_write s rate) (sym same) ∙ cut.writes;
      stored_is = elim cut.stored_is [ inl old ↦ inl (old ∙ alike.kept) | inr new ↦ inr (new ∙ ap (λ (s : SourceView). record_to_write s rate) same) ];
    }

pub cut_moves : (net : Topology) → IsWithinRules net → (earlier : List Event) (old new : Processes) → Stands net earlier old → SourceDiesAsking net old new → (later : List Event) × Stands net later new
cut_moves net rules earlier old new is move =
    let c = move.c in
    let journal = (old.sources c).journal in
    let told : told_by (journal ++ About move.rate ∷ []) ≡ with_line (told_by journal) (About move.rate) = told-append journal (About move.rate ∷ []) in (
      earlier,
      become_stands net rules earlier earlier old new c (Dead move.stored) (journal ++ About move.rate ∷ []) (old.lines c) is (none_beside net earlier c is.events.rates) move.becomes (stay_only c old.lines new.lines move.lines) (record {
        source_is = record {
          deeds = (is.events.sources c).deeds ∙ sym (append-nil (deeds_in journal)) ∙ sym (deeds-append journal (About move.rate ∷ []));
          process = λ conn known. (
              let had = process_at net earlier old c conn (Alive move.actor) is known move.alive in
              let actor = actor_of conn.vc (facts_of c (past_of net earlier)) in
              let tells : Tells actor (with_line (told_by journal) (About move.rate)) = record { cells = had.0.cells; clock = had.0.clock; is_up = had.0.is_up } in
              subst (λ t. IsProcessOf actor t (Dead move.stored)) (sym told) (tells, cut_alike actor move.actor move.rate move.stored had.1 move.cut_off)
              );
        };
        line_is = is.lines c;
      }),
    )
