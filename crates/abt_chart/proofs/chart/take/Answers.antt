use Rattle.std.proofs.Common.{◌++◌, [], ◌∷◌, List, sym, ap, ◌∙◌}
use Rattle.abt_chart.specs.Tellings.{told_after, told_of}
use Rattle.abt_chart.specs.declared.told.Told.{Told}
use Rattle.abt_chart.proofs.Frames.{told_from_push}
use Rattle.abt_chart.proofs.chart.take.Goals as goal

pub returns-clause-told : goal.returns-clause-told
returns-clause-told c = λ past stands was.
    let net = c.args.net.now in
    let e = c.args.event.now in
    let step = c.in_ok-outcome.ensures.outcome net past stands in
    c.in_ok-push.ensures.ok ∙ ap (λ (l : List Told). l ++ c.told_of.result ∷ []) was
    ∙ ap (λ (t : Told). told_after net past ++ t ∷ []) (c.told_of.ensures ∙ ap (told_of net e) step.0)
    ∙ sym (told_from_push net [] past e)
