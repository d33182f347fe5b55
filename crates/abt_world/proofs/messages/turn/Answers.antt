use Rattle.std.proofs.Common.{◌∷◌, [], refl, ap, ◌∙◌}
use Rattle.std.specs.Prelude.{if◌then◌else◌, not}
use Rattle.abt_facts.specs.Sent.{was_passed}
use Rattle.abt_facts.specs.declared.fact.Fact.TheVariants.{Turned as FactTurned}
use Rattle.abt_model.specs.declared.event.Event.TheVariants.{Turn}
use Rattle.abt_model.specs.declared.outcome.Cause.TheVariants.{NotSent}
use Rattle.abt_model.specs.declared.outcome.Outcome.TheVariants.{Turned, NotEnabled}
use Rattle.abt_world.proofs.Sendings.{happens, few_hops}
use Rattle.abt_world.proofs.messages.turn.Goals as goal

pub returns-then-was_passed-clause-outcome : goal.returns-then-was_passed-clause-outcome
returns-then-was_passed-clause-outcome c net past facts is at =
    let hops = c.hops_of.ensures (few_hops net past c.args.place c.args.conn.now facts at) in
    let passed = c.if-was_passed.ensures.value facts is ∙ ap (was_passed facts c.args.seq) hops in
    happens net past (Turn c.args.place c.args.seq) c.args.place c.args.conn.now facts refl at Turned (FactTurned c.args.seq ∷ [])
    (ap (λ b. if not b then NotEnabled NotSent else Turned) passed) refl

pub returns-else-was_passed-clause-outcome : goal.returns-else-was_passed-clause-outcome
returns-else-was_passed-clause-outcome c net past facts is at =
    let hops = c.hops_of.ensures (few_hops net past c.args.place c.args.conn.now facts at) in
    let unpassed = c.if-was_passed.ensures.value facts is ∙ ap (was_passed facts c.args.seq) hops in
    rw c.not_enabled.ensures (happens net past (Turn c.args.place c.args.seq) c.args.place c.args.conn.now facts refl at (NotEnabled NotSent) []
    (ap (λ b. if not b then NotEnabled NotSent else Turned) unpassed) refl)
