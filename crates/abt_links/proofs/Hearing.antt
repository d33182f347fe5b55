-- Answers heard one after the other.
use Rattle.std.proofs.Common.{◌≡◌, ℕ, ◌+◌, true, List, [], ◌∷◌, ◌++◌, refl, sym, ap, subst, ◌∙◌, append-nil, append_assoc, length-append, arith}
use Rattle.abt_cell.specs.Channel.{Channel}
use Rattle.abt_cell.specs.Message.{Reply}
use Rattle.abt_facts.specs.declared.fact.Fact.{Fact}
use Rattle.abt_model.specs.declared.command.SourceCommand.TheVariants.{Told}
use Rattle.abt_model.specs.declared.outcome.Outcome.{Outcome}
use Rattle.abt_actor.specs.Actor.{ActorView, actor_of, is_asking_in}
use Rattle.abt_model.specs.declared.entry.SourceEntry.{SourceEntry}
use Rattle.abt_links.specs.CommandEffects.{did, facts_past, Hears}
use Rattle.abt_history.specs.Sites.{SiteView}
use Rattle.abt_links.specs.SourceWorkers.{WorkerView, HasDone, Listened, StaysHome}

hears-append : (vc : Channel) (c : ℕ) (facts mid after : List Fact) (xs ys : List SourceEntry) → Hears vc c facts xs mid → Hears vc c mid ys after → Hears vc c facts (xs ++ ys) after
hears-append vc c facts mid after [] ys first rest = rw (← first) rest
hears-append vc c facts mid after (x ∷ xs) ys first rest =
    (first.0, first.1, first.2, hears-append vc c (facts_past vc facts (Told first.0)) mid after xs ys first.3 rest)

pub listened_none : (vc : Channel) (c : ℕ) (worker : WorkerView) → Listened vc c 0 worker worker
listened_none vc c worker facts is = (
  [],
  facts,
  record {
    hears = refl;
    most = omega arith;
    actor = is;
    entries_are = sym (append-nil worker.entries);
    seat = refl;
    arrived = refl;
  },
)

pub listened_longer : (vc : Channel) (c turns : ℕ) (old new : WorkerView) → Listened vc c turns old new → Listened vc c (turns + 1) old new
listened_longer vc c turns old new heard facts is =
    let h = (heard facts is).2 in (
      (heard facts is).0,
      (heard facts is).1,
      record {
        hears = h.hears;
        most = omega (arith, h.most);
        actor = h.actor;
        entries_are = h.entries_are;
        seat = h.seat;
        arrived = h.arrived;
      },
    )

pub listened_again : (vc : Channel) (c turns : ℕ) (old mid new : WorkerView) → Listened vc c turns old mid → Listened vc c 1 mid new → Listened vc c (turns + 1) old new
listened_again vc c turns old mid new before once facts is =
    let first = before facts is in
    let last = once first.1 first.2.actor in (
      first.0 ++ last.0,
      last.1,
      record {
        hears = hears-append vc c facts first.1 last.1 first.0 last.0 first.2.hears last.2.hears;
        most = omega (arith, length-append first.0 last.0, first.2.most, last.2.most);
        actor = last.2.actor;
        entries_are = last.2.entries_are ∙ (ap (λ (es : List SourceEntry). es ++ last.0) first.2.entries_are ∙ append_assoc old.entries first.0 last.0);
        seat = last.2.seat ∙ first.2.seat;
        arrived = last.2.arrived ∙ first.2.arrived;
      },
    )

pub heard_once : (vc : Channel) (c : ℕ) (answer : Reply) (old : WorkerView) (outcome : Outcome) (new : WorkerView) → is_asking_in old.actor.state ≡ true
    → ((facts : List Fact) → old.actor ≡ actor_of vc facts → HasDone vc c facts (Told answer) old outcome new) → Listened vc c 1 old new
heard_once vc c answer old outcome new asks done facts is =
    let h = done facts is in (
      did vc c facts (Told answer) ∷ [],
      facts_past vc facts (Told answer),
      record {
        hears = (answer, ap (λ (a : ActorView). is_asking_in a.state) (sym is) ∙ asks, refl, refl);
        most = omega arith;
        actor = h.actor;
        entries_are = h.entries;
        seat = h.seat;
        arrived = h.arrived;
      },
    )

-- a source that stays the one of its connection
pub stays_on : (old mid new : SiteView) → StaysHome old mid → StaysHome mid new → StaysHome old new
stays_on old mid new first then_ = record { conn = then_.conn ∙ first.conn; vc = then_.vc ∙ first.vc }

pub told_again : (site here there : SiteView) (turns : ℕ) (old mid new : WorkerView) → Listened site.vc site.conn turns old mid → StaysHome site here → Listened here.vc here.conn 1 mid new → Listened site.vc site.conn (turns + 1) old new
told_again site here there turns old mid new before stays once =
    let P : Channel → Type 0 = λ vc. Listened vc here.conn 1 mid new in
    let Q : ℕ → Type 0 = λ c. Listened site.vc c 1 mid new in
    listened_again site.vc site.conn turns old mid new before (subst Q stays.conn (subst P stays.vc once))
