-- The row is the group that was added, and what its content held when it was drawn it holds in the end.
use Rattle.std.proofs.Common.{◌≡◌, ◌++◌, ◌+◌, ℕ, List, codes, string_bytes, rules}
use Rattle.std.proofs.lemmas.Result.{on_ok_weaker}
use Rattle.abt_chart.specs.declared.crossings.Crossing.{Crossing}
use Rattle.abt_chart.specs.declared.told.Told.{Told}
use Rattle.abt_text.specs.Text.{◌⋅◌, decimal}
use Rattle.abt_draw.specs.Elements.{group_text}
use Rattle.abt_draw.specs.Rows.{DrawsEvent, HasRow}
use Rattle.abt_draw.specs.declared.sheet.Sheet.{Sheet}
use Rattle.abt_draw.proofs.Shown.{brought_still, all_sent_still}
use Rattle.abt_draw.proofs.Within.{holds_added, grows_on}
use Rattle.abt_draw.proofs.row.push_row.Goals as goal

has_row : (sheet : Sheet) (event : ℕ) (told : Told) (crossing : Crossing) (line class name its content drawn t0 t1 : List ℕ)
    → name ≡ its → content ≡ drawn → its ≡ codes "e" ⋅ decimal (event + 1) → t1 ≡ t0 ++ group_text class name line content
    → DrawsEvent sheet event told crossing drawn → HasRow sheet event told crossing line t1
has_row sheet event told crossing line class name its content drawn t0 t1 name_is content_is its_is added draws = record {
  class = class;
  content = drawn;
  group = holds_added t0 t1 _ (rw (name_is, its_is, content_is) at added);
  drawn = draws;
}

pub returns-clause-row : goal.returns-clause-row
returns-clause-row c =
    let named : string_bytes c.in_ok-name.name ≡ codes "e" ⋅ decimal (c.args.event + 1) = search rules in
    let marked = c.in_ok-push_mark.ensures in
    let sent = c.in_ok-push_sent.ensures in
    let brought = c.in_ok-push_brought.ensures in
    let draws : DrawsEvent c.args.sheet.now c.args.event c.args.told.now c.args.crossing.now (string_bytes c.push_mark.new.out) = record {
      arrival = brought_still c.args.sheet.now c.args.event c.args.crossing.now.arrival _ _ (grows_on _ _ _ sent.grows marked.grows) brought.drawn;
      departure = all_sent_still c.args.sheet.now c.args.event c.args.crossing.now.departure _ _ marked.grows sent.drawn;
      mark = marked.drawn;
    } in
    on_ok_weaker c.push_group.result
    (λ is. has_row c.args.sheet.now c.args.event c.args.told.now c.args.crossing.now c.args.line.now c.class_of-class.result.now c.as_str.result.now
    (string_bytes c.in_ok-name.name) c.as_str-2.result.now (string_bytes c.push_mark.new.out) (string_bytes c.args.out.now)
    (string_bytes c.push_group.new.out) c.as_str.ensures.value c.as_str-2.ensures.value named is draws)
    c.push_group.ensures
