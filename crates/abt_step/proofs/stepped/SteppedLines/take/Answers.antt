-- What the line asks for was done.
use Rattle.std.proofs.Common.{◌≡◌, ◌++◌, sym, subst}
use Rattle.std.specs.Prelude.{OnOk, string_bytes}
use Rattle.abt_step.specs.Stepped.{answer_to}
use Rattle.abt_step.specs.declared.asked.Asked.{Asked}
use Rattle.abt_step.proofs.stepped.SteppedLines.take.Goals as goal

pub returns-in-Happen-clause-says : goal.returns-in-Happen-clause-says
returns-in-Happen-clause-says c = λ form net opening events stands.
    subst (λ (a : Asked). OnOk c.happen.result (string_bytes c.happen.new.text ≡ string_bytes c.args.text.now ++ answer_to form net opening events a))
    (sym c.in-Happen.is) (c.happen.ensures.says form net opening events stands)

pub returns-in-Tell-clause-says : goal.returns-in-Tell-clause-says
returns-in-Tell-clause-says c = λ form net opening events stands.
    subst (λ (a : Asked). OnOk c.tell.result (string_bytes c.tell.new.text ≡ string_bytes c.args.text.now ++ answer_to form net opening events a))
    (sym c.in-Tell.is) (c.tell.ensures form net opening events stands)

pub returns-in-Wrong-clause-says : goal.returns-in-Wrong-clause-says
returns-in-Wrong-clause-says c = λ form net opening events stands.
    subst (λ (a : Asked). OnOk c.push_fault.result (string_bytes c.push_fault.new.text ≡ string_bytes c.args.text.now ++ answer_to form net opening events a))
    (sym c.in-Wrong.is) (c.push_fault.ensures form net opening events stands)
