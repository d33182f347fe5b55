-- The lines so far, and those of the places that are left, are all of them; the last line is that of the last place.
use Rattle.std.proofs.Common.{◌≡◌, ◌++◌, drop}
use Rattle.abt_places.specs.Places.{line_at, lines_at}
use Rattle.abt_places.proofs.lines.lines_at.Given as goal

abbrev pub invariant-loop-at : goal.invariant-loop-at
invariant-loop-at l =
    (l.line ≡ line_at l.last l.text)
    × (l.lines.items ++ lines_at l.text (drop l.at-index l.places) ≡ lines_at l.text l.places)
