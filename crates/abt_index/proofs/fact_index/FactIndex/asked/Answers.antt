use Rattle.std.proofs.Common.{◌∙◌, sym, ap}
use Rattle.std.proofs.lemmas.Bool.{cond-true, cond-false}
use Rattle.abt_index.specs.Index.{Index, message_in}
use Rattle.abt_index.specs.FactIndex.{LogView}
use Rattle.abt_index.proofs.Indexed.{asked_by, asked_is}
use Rattle.abt_index.proofs.fact_index.FactIndex.asked.Goals as goal

pub returns-then-message-clause-value : goal.returns-then-message-clause-value
returns-then-message-clause-value c facts is =
    let known = ap (λ (log : LogView). log.index.messages) c.self.view_is ∙ ap (λ (index : Index). index.messages) is in
    sym (cond-true _ _ _ c.if-message.true) ∙ ap asked_by (c.of-message.ensures.value ∙ ap (λ entries. message_in entries c.args.seq) known) ∙ asked_is facts c.args.seq

pub returns-else-message-clause-value : goal.returns-else-message-clause-value
returns-else-message-clause-value c facts is =
    let known = ap (λ (log : LogView). log.index.messages) c.self.view_is ∙ ap (λ (index : Index). index.messages) is in
    sym (cond-false _ _ _ c.if-message.false) ∙ ap asked_by (c.of-message.ensures.value ∙ ap (λ entries. message_in entries c.args.seq) known) ∙ asked_is facts c.args.seq
