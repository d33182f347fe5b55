-- The name, the number and the line are held when the rest was added.
use Rattle.std.proofs.Common.{◌≡◌, ◌++◌, ◌≤◌, ℕ, List, codes, rules}
use Rattle.std.proofs.lemmas.Result.{on_ok_weaker}
use Rattle.abt_text.specs.Text.{decimal}
use Rattle.abt_draw.specs.Elements.{line_text, label_text}
use Rattle.abt_draw.specs.Lifelines.{HasLifeline, kind_name, number_of}
use Rattle.abt_draw.specs.Places.{x_of, y_of}
use Rattle.abt_draw.specs.Within.{Grows}
use Rattle.abt_draw.specs.declared.actor.Actor.{Actor}
use Rattle.abt_draw.specs.declared.sheet.Sheet.{Sheet}
use Rattle.abt_draw.proofs.Within.{holds_added, holds_still, grows_by, grows_on}
use Rattle.abt_draw.proofs.lifeline.push_lifeline.Goals as goal

drawn : (sheet : Sheet) (column : ℕ) (who : Actor) (x y lower : ℕ) (kind number t0 t1 t2 t3 t4 : List ℕ)
    → x ≡ x_of sheet.left sheet.step column → y ≡ y_of 0 → y_of sheet.rows.count ≤ lower → kind ≡ kind_name who → number ≡ decimal (number_of who)
    → t1 ≡ t0 ++ label_text (codes "name") (record { x = x; y = 150 }) kind → t2 ≡ t1 ++ label_text (codes "name") (record { x = x; y = 260 }) number
    → t3 ≡ t2 ++ line_text (codes "life") (record { x = x; y = y }) (record { x = x; y = lower }) → Grows t3 t4 → HasLifeline sheet column who t4
drawn sheet column who x y lower kind number t0 t1 t2 t3 t4 x_is y_is behind kind_is number_is first second third grows =
    let from_2 = grows_on t2 t3 t4 (grows_by t2 t3 _ third) grows in
    let from_1 = grows_on t1 t2 t4 (grows_by t1 t2 _ second) from_2 in
    record {
      kind = holds_still t1 t4 _ from_1 (holds_added t0 t1 _ (rw (x_is, kind_is) at first));
      number = holds_still t2 t4 _ from_2 (holds_added t1 t2 _ (rw (x_is, number_is) at second));
      lower = lower;
      behind = behind;
      line = holds_still t3 t4 _ grows (holds_added t2 t3 _ (rw (x_is, y_is) at third));
    }

pub returns-clause-drawn : goal.returns-clause-drawn
returns-clause-drawn c =
    let number : c.as_str.result.now ≡ decimal (number_of c.args.actor) = search rules in
    on_ok_weaker c.push_work.result
    (λ grows. drawn c.args.sheet.now c.args.column c.args.actor _ _ _ _ _ _ _ _ _ _ c.x-x.ensures c.y_of.ensures c.bottom.ensures c.name_of-number.ensures.kind
    number c.in_ok-push_label.ensures c.in_ok-push_label-2.ensures c.in_ok-push_line.ensures grows)
    c.push_work.ensures
