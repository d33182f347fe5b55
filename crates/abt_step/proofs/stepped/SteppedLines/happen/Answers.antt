-- The lines stand at one event more.
use Rattle.std.proofs.Common.{◌+◌, [], ◌∷◌, ◌∙◌, ap, sym, length-append}
use Rattle.abt_step.proofs.Stepping.{on_ok}
use Rattle.abt_step.proofs.stepped.SteppedLines.happen.Goals as goal

pub returns-then-self-clause-stands : goal.returns-then-self-clause-stands
returns-then-self-clause-stands c = λ form net opening events stands.
    on_ok c.happen_as_object.result _ _ (c.happen_as_object.ensures.stands net events stands.works)
    (λ works. record {
      form_is = stands.form_is;
      net_is = stands.net_is;
      opening_is = stands.opening_is;
      works = works;
      count = c.in-Some.ensures.1 ∙ ap (λ n. n + 1) stands.count ∙ sym (length-append events (c.args.event.now ∷ []));
    })

pub returns-else-self-clause-stands : goal.returns-else-self-clause-stands
returns-else-self-clause-stands c = λ form net opening events stands.
    on_ok c.happen_in_words.result _ _ (c.happen_in_words.ensures.stands net events stands.works)
    (λ works. record {
      form_is = stands.form_is;
      net_is = stands.net_is;
      opening_is = stands.opening_is;
      works = works;
      count = c.in-Some.ensures.1 ∙ ap (λ n. n + 1) stands.count ∙ sym (length-append events (c.args.event.now ∷ []));
    })
