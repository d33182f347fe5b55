-- The numbers of lines are what its steps say.
use Rattle.std.proofs.Common.{◌≡◌, ◌+◌, ◌++◌, ◌∙◌, true, Result, Ok, Err, ap, sym, append_assoc, true≢false}
use Rattle.std.specs.Prelude.{OnOk, is_ok}
use Rattle.abt_text.specs.Text.{newline, decimal}
use Rattle.abt_lines.specs.Runs.{IsAnswering}
use Rattle.abt_lines.proofs.Runs.{all_served}
use Rattle.abt_uses.specs.Numbers.{EndsNumbering, NumbersLine, numbers_from}
use Rattle.abt_uses.proofs.lines.numbered.Goals as goal

numbers : IsAnswering NumbersLine EndsNumbering (λ _. numbers_from)
numbers = record {
  stepped = λ old new number line said is more.
      sym (append_assoc (decimal number) newline (numbers_from (number + 1) more)) ∙ ap (λ t. t ++ numbers_from (number + 1) more) (sym is);
  ended = λ last number said is. sym is;
}

of_is_ok : {T E : Type 0} (r : Result T E) (P : Type 0) → is_ok r ≡ true → OnOk r P → P
of_is_ok (Ok x) P is p = p
of_is_ok (Err e) P is p = absurd (true≢false (sym is))

pub returns : goal.returns
returns g c = λ yes.
    all_served NumbersLine EndsNumbering (λ _. numbers_from) numbers _ _ _ _ _
    (of_is_ok c.serve_lines.result _ (sym c.is_ok.ensures.value ∙ yes) c.serve_lines.ensures.ok)
