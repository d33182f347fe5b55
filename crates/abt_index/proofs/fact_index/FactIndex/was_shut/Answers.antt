use Rattle.std.proofs.Common.{◌∙◌, ap}
use Rattle.abt_index.specs.declared.message.Message.{Message}
use Rattle.abt_index.specs.Hops.{has_hop}
use Rattle.abt_index.specs.Index.{Index, message_in}
use Rattle.abt_index.specs.FactIndex.{LogView}
use Rattle.abt_index.proofs.Indexed.{shut_is}
use Rattle.abt_index.proofs.fact_index.FactIndex.was_shut.Goals as goal

pub returns-clause-value : goal.returns-clause-value
returns-clause-value c facts is =
    let known = ap (λ (log : LogView). log.index.messages) c.self.view_is ∙ ap (λ (index : Index). index.messages) is in
    c.has.ensures ∙ ap (λ (message : Message). has_hop message.shut c.args.hop) (c.of.ensures.value ∙ ap (λ entries. message_in entries c.args.seq) known)
    ∙ shut_is facts c.args.seq c.args.hop
