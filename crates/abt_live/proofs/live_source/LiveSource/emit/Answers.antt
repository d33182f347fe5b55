-- A source that emitted a cell is in order.
use Rattle.std.proofs.Common.{rules, ◌≢◌, ◌∙◌, sym, subst}
use Rattle.abt_rate.specs.Rate.{IsRate}
use Rattle.abt_facts.specs.Source.{Down}
use Rattle.abt_live.specs.Running.{actor_in, state_in}
use Rattle.abt_live.proofs.EmittedCells.{sound_emission}
use Rattle.abt_live.proofs.live_source.LiveSource.emit.Goals as goal

pub invariant_of-self : goal.invariant_of-self
invariant_of-self g c =
    let before = actor_in c.self.inside.running (g.K.SeqStore.content c.self.inside.store) c.self.inside.cells c.self.inside.clock in
    let source = c.in-Ok.ensures.ok in
    let state = c.emit.ensures.same in
    let up : state_in c.self.inside.running ≢ Down = search rules in
    sound_emission before _ c.args.at c.in-Ok.next c.self.invariant
    (subst IsRate c.rate-rate.ensures.value c.rate-rate.ensures.rate) c.if-at-self.false up (sym c.emit.ensures.value ∙ c.in-Ok.is) cc
