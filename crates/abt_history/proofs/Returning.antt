-- A source that has brought something to its first port and is back.
use Rattle.std.proofs.Common.{◌≡◌, ℕ, List, [], ◌∷◌, ◌++◌, refl, ap, sym, ◌∙◌, arith}
use Rattle.std.proofs.lemmas.List.{length-append}
use Rattle.abt_net.specs.Topology.{Topology}
use Rattle.abt_facts.specs.declared.fact.Fact.{Fact}
use Rattle.abt_model.specs.declared.entry.SourceEntry.{SourceEntry}
use Rattle.abt_model.specs.Past.{facts_of}
use Rattle.abt_actor.specs.Actor.{actor_of}
use Rattle.abt_weave.specs.Leaving.{facts_done}
use Rattle.abt_weave.specs.Projections.{past_of}
use Rattle.abt_weave.proofs.OwnFacts.{actor_of-own}
use Rattle.abt_weave.proofs.OwnReplays.{done-append, own_replayed}
use Rattle.abt_history.specs.declared.brought.Brought.{Brought}
use Rattle.abt_history.specs.declared.brought.Brought.TheVariants.{Request, Cell}
use Rattle.abt_history.specs.declared.deed.Deed.{Deed}
use Rattle.abt_history.specs.Histories.{happened}
use Rattle.abt_history.specs.Sites.{SiteView, IsSite, HasBrought, entry_brought, arrived_with}

-- what it brought is no fact of its own
brought_done : (facts : List Fact) (place : ℕ) (brought : Brought) → facts_done facts (entry_brought place brought ∷ []) ≡ facts
brought_done facts place (Request request) = refl
brought_done facts place (Cell cell at) = refl

pub stays_site : (net : Topology) (old : SiteView) (new : List Deed) (place : ℕ) (brought : Brought) → IsSite net old → HasBrought net old.conn old.front new place brought →
    IsSite net (record { conn = old.conn; vc = old.vc; actor = old.actor; entries = old.entries ++ entry_brought place brought ∷ []; arrived = arrived_with old.arrived brought; front = new })
stays_site net old new place brought site back =
    let c = old.conn in
    let entry = entry_brought place brought in
    let more = length-append old.entries (entry ∷ []) in
    let had = site.home.turns_are in
    let now = back.turns in
    let did = back.did ∙ ap (λ (l : List SourceEntry). l ++ entry ∷ []) site.did in
    record {
      rules = site.rules;
      home = record { low = site.home.low; out = back.home; unended = back.unended; turns_are = omega (arith, more, had, now) };
      channel = site.channel;
      did = did;
      last_arrival = back.last_arrival ∙ ap (λ (n : ℕ). arrived_with n brought) site.last_arrival;
      actor_is = site.actor_is
          ∙ sym (actor_of-own old.vc (facts_of c (past_of net (happened old.front))))
          ∙ ap (actor_of old.vc) (own_replayed net c (happened old.front) ∙ ap (facts_done []) site.did ∙ sym (brought_done (facts_done [] old.entries) place brought) ∙ sym (done-append [] old.entries (entry ∷ [])) ∙ ap (facts_done []) (sym did) ∙ sym (own_replayed net c (happened new)))
          ∙ actor_of-own old.vc (facts_of c (past_of net (happened new)));
    }
