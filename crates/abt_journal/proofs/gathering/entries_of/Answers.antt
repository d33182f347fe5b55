use Rattle.std.proofs.Common.{rules, arith, ◌≡◌, ◌∷◌, All, sym, subst}
use Rattle.std.specs.Vec.Iter.{into_iter_items}
use Rattle.std.proofs.lemmas.List.Elements.{All-cons}
use Rattle.std.proofs.lemmas.Grind.{common_steps}
use Rattle.abt_journal.specs.Journaled.{Journaled}
use Rattle.abt_journal.specs.Replay.{IsHistory}
use Rattle.abt_journal.proofs.gathering.entries_of.Goals as goal

pub loop-state-preserved : goal.loop-state-preserved
loop-state-preserved c =
    let next : into_iter_items c.loop-state.state-iterator ≡ c.in-Some.state ∷ into_iter_items c.next.new.self = search rules in (
      grind (arith, common_steps),
      grind (arith, common_steps),
      grind (arith, common_steps),
      λ rest. c.loop-state.invariant.3 (subst (All (λ (s : Journaled). IsHistory s.opening s.entries)) (sym next)
          (All-cons (λ (s : Journaled). IsHistory s.opening s.entries) c.in-Some.state (into_iter_items c.next.new.self) c.into_entries.ensures.history rest)),
    )
