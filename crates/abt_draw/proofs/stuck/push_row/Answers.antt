-- The row is the group that was added.
use Rattle.std.proofs.Common.{◌≡◌, ◌++◌, ◌+◌, ℕ, List, codes, string_bytes, rules}
use Rattle.std.proofs.lemmas.Result.{on_ok_weaker}
use Rattle.abt_text.specs.Text.{◌⋅◌, decimal}
use Rattle.abt_draw.specs.Elements.{group_text}
use Rattle.abt_draw.specs.Stuck.{DrawsStuck, HasStuckRow}
use Rattle.abt_draw.specs.declared.scene.StuckMark.{StuckMark}
use Rattle.abt_draw.specs.declared.sheet.Sheet.{Sheet}
use Rattle.abt_draw.proofs.Within.{holds_added}
use Rattle.abt_draw.proofs.stuck.push_row.Goals as goal

has_row : (sheet : Sheet) (place : ℕ) (mark : StuckMark) (name its content drawn t0 t1 : List ℕ) → name ≡ its → content ≡ drawn
    → its ≡ codes "s" ⋅ decimal (place + 1) → t1 ≡ t0 ++ group_text (codes "stuck") name mark.text.now content → DrawsStuck sheet mark drawn
    → HasStuckRow sheet place mark t1
has_row sheet place mark name its content drawn t0 t1 name_is content_is its_is added draws = record {
  content = drawn;
  group = holds_added t0 t1 _ (rw (name_is, its_is, content_is) at added);
  drawn = draws;
}

pub returns-clause-row : goal.returns-clause-row
returns-clause-row c =
    let named : string_bytes c.in_ok-name.name ≡ codes "s" ⋅ decimal (c.args.place + 1) = search rules in
    on_ok_weaker c.push_group.result
    (λ is. has_row c.args.sheet.now c.args.place c.args.mark.now c.as_str.result.now (string_bytes c.in_ok-name.name) c.as_str-2.result.now
    (string_bytes c.push_shape.new.out) (string_bytes c.args.out.now) (string_bytes c.push_group.new.out) c.as_str.ensures.value c.as_str-2.ensures.value
    named is c.in_ok-push_shape.ensures)
    c.push_group.ensures
