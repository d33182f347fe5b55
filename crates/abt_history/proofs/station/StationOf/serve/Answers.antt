use Rattle.std.proofs.Common.{◌≡◌, ◌<◌, List, length, ap, sym, subst, ◌∙◌}
use mathlib.Core.List.{IsPrefix}
use Rattle.abt_net.specs.Topology.{IsWithinRules}
use Rattle.abt_journal.specs.declared.input.PortInput.{PortInput}
use Rattle.abt_weave.specs.Projections.{past_of}
use Rattle.abt_serving.specs.Messages.{ComesNow, Lies, input_of}
use Rattle.abt_history.specs.declared.deed.Deed.{Deed}
use Rattle.abt_history.specs.Histories.{happened}
use Rattle.abt_history.specs.Legal.{IsLegal}
use Rattle.abt_history.specs.Stations.{CameTo}
use Rattle.abt_history.proofs.Coming.{message_later}
use Rattle.abt_history.proofs.Modes.{of_kept, of_both}
use Rattle.abt_history.proofs.Stations.{if_ok, if_both, follows_on}
use Rattle.abt_history.proofs.station.StationOf.serve.Goals as goal

pub step-requires : goal.step-requires
step-requires g c =
    let k = g.K.Keeping in
    let net = k.net in
    let port = c.args.self.now.port in
    let message = c.args.letter.now.message in
    let seen = k.log c.front.result.now in
    let input = c.input_of-input.result in
    let is : input ≡ input_of message = c.input_of-input.ensures ∙ ap input_of c.message.ensures in
    let comes : Lies net (past_of net (happened seen)) c.args.letter.now.port message → IsWithinRules net → port < length net.capacities → (log : List Deed) → IsPrefix seen log → IsLegal net log → ComesNow net (happened log) port input
    = λ lies rules low log pre legal. subst (λ (i : PortInput). ComesNow net (happened log) port i) (sym is)
    (message_later net seen log port message rules (subst (λ p. Lies net (past_of net (happened seen)) p message) c.requires.port lies) pre legal) in
    record { comes = of_kept k.kept c.front.ensures.lies comes }

pub returns-clause-seen : goal.returns-clause-seen
returns-clause-seen g c =
    let k = g.K.Keeping in
    if_both c.step.result c.step.ensures.own c.step.ensures.seen (λ r mine theirs. of_both k.kept mine theirs (λ one other. (one, subst (λ f. IsPrefix f c.step.new.self.front) c.front.ensures.value other)))

pub returns-clause-follows : goal.returns-clause-follows
returns-clause-follows g c =
    let k = g.K.Keeping in
    let net = k.net in
    let port = c.args.self.now.port in
    let message = c.args.letter.now.message in
    let front = c.step.new.self.front in
    let is : c.input_of-input.result ≡ input_of message = c.input_of-input.ensures ∙ ap input_of c.message.ensures in
    if_ok c.step.result c.step.ensures.came (λ r came. of_both k.kept came c.step.ensures.rules (λ here rules. follows_on net front port message r.1 rules (subst (λ (i : PortInput). CameTo net front port i r.1) is here)))
