-- An entry more is told.
use Rattle.std.proofs.Common.{◌++◌, ◌∙◌, ap, refl}
use Rattle.std.specs.Prelude.{option_to_list}
use Rattle.abt_derive.proofs.Telling.{told_by_more}
use Rattle.abt_derive.proofs.told.Told.take.Goals as goal

pub returns : goal.returns
returns c = λ entries is here.
    told_by_more entries c.args.entry.now c.args.behind c.asked_by.result c.args.self.now c.take_asked.new.self _ is here c.asked_by.ensures
    c.in_ok-take_asked.ensures refl
    (c.in_ok-push_some.ensures ∙ ap (λ found. c.take_asked.new.self.cells.items ++ option_to_list found) c.cell_of.ensures)
    (c.in_ok-push_some-2.ensures ∙ ap (λ found. c.take_asked.new.self.sent.items ++ option_to_list found) c.sent_of.ensures)
    (c.in_ok-push_some-3.ensures ∙ ap (λ found. c.take_asked.new.self.arrived.items ++ option_to_list found) c.arrived_of.ensures)
