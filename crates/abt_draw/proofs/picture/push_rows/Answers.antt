-- An event more, and its line.
use Rattle.std.proofs.Common.{◌≡◌, ◌∙◌, ◌⊎◌, inl, inr, ◌+◌, ◌<◌, ℕ, List, ap, sym, subst, add-one, arith, rules, length, get_or, string_bytes}
use Rattle.std.specs.Prelude.{IsTrue, Some, slice_get}
use Rattle.std.proofs.lemmas.Option.{get_or_from_slice_get, slice_get_within}
use Rattle.abt_chart.specs.declared.crossings.Crossing.{Crossing}
use Rattle.abt_chart.specs.declared.told.Told.{Told}
use Rattle.abt_draw.specs.Levels.{has_row}
use Rattle.abt_draw.specs.Lines.{line_at, first_line, behind_line, behind_lines}
use Rattle.abt_draw.specs.Rows.{HasRow}
use Rattle.abt_draw.specs.declared.sheet.Sheet.{Sheet}
use Rattle.std.proofs.lemmas.Result.{on_ok_weaker}
use Rattle.abt_draw.proofs.Shown.{row_still, rows_still}
use Rattle.abt_draw.proofs.Within.{grows_on, grows_pushed}
use Rattle.abt_draw.proofs.picture.push_rows.Goals as goal

behind_more : (text : List ℕ) (n : ℕ) → behind_line (behind_lines text n) ≡ behind_lines text (n + 1)
behind_more text n = ap (behind_lines text) (sym (add-one n))

-- the event of a place, read off the chart
told_at : (events shown : List Told) (event place : ℕ) (told its : Told) → events ≡ shown → place ≡ event → its ≡ get_or events event its
    → slice_get shown place ≡ Some told → its ≡ told
told_at events shown event place told its events_are place_is its_is is =
    its_is ∙ get_or_from_slice_get events event told its (rw (events_are, ← place_is) is)

row_last : (sheet : Sheet) (event place : ℕ) (told its : Told) (crossing : Crossing) (line shown text : List ℕ) → place ≡ event → its ≡ told → shown ≡ line
    → HasRow sheet event its crossing shown text → HasRow sheet place told crossing line text
row_last sheet event place told its crossing line shown text place_is told_is line_is row = rw (place_is, ← told_is, ← line_is) row

before_or_last : (a b : ℕ) → a < b + 1 → (a < b) ⊎ (a ≡ b)
before_or_last a b low = grind arith

pub loop-event-preserved : goal.loop-event-preserved
loop-event-preserved c =
    let sheet = c.args.sheet.now in
    let text = c.args.explanation.now in
    let event = c.loop-event.event in
    let all = c.loop-event.invariant in
    let grows = c.in_ok-push_shown.ensures.grows in
    let line = c.line_of.ensures.line ∙ ap first_line all.1 in (
      search rules,
      c.line_of.ensures.behind ∙ ap behind_line all.1 ∙ behind_more text event,
      grows_on _ _ _ all.2 grows,
      λ k told crossing low is_told is_crossing kept. elim (before_or_last (sheet.rows.first + k) event low) [
        | inl before ↦ row_still sheet (sheet.rows.first + k) told crossing _ _ _ grows (all.3 k told crossing before is_told is_crossing kept)
        | inr last ↦ (
            let its : c.index-events-event.result ≡ told = told_at c.as_slice-events.result.now sheet.chart.now.told event (sheet.rows.first + k) told
            c.index-events-event.result c.as_slice-events.ensures last c.index-events-event.is is_told in
            let here = subst (λ (one : Told). IsTrue (has_row sheet.only.now sheet.net.now sheet.columns.now one.event)) (sym its) kept in
            row_last sheet event (sheet.rows.first + k) told c.index-events-event.result crossing (line_at text (sheet.rows.first + k)) c.line_of.result.0.now
            (string_bytes c.push_shown.new.out) last its (line ∙ ap (line_at text) (sym last)) (c.in_ok-push_shown.ensures.row k crossing last is_crossing here))
      ],
    )

pub returns-clause-rows : goal.returns-clause-rows
returns-clause-rows c = on_ok_weaker c.push_str.result
    (λ more. rows_still c.args.sheet.now c.args.explanation.now _ _ more (record {
      each = λ k told crossing is_told is_crossing kept.
          let low = slice_get_within c.args.sheet.now.chart.now.told (c.args.sheet.now.rows.first + k) told is_told in
          c.loop-event.invariant.3 k told crossing (omega (arith, low, c.loop-event-test.false, ap length c.as_slice-events.ensures)) is_told is_crossing kept;
    }))
    (grows_pushed c.push_str.result _ _ _ c.push_str.ensures.bytes)

pub returns-clause-grows : goal.returns-clause-grows
returns-clause-grows c =
    on_ok_weaker c.push_str.result (grows_on _ _ _ c.loop-event.invariant.2) (grows_pushed c.push_str.result _ _ _ c.push_str.ensures.bytes)
