use Rattle.std.specs.Prelude.{◌≡◌, vec_len, vec_items}
use Rattle.abt_links.proofs.Opened.{AtTheirPlaces}
use Rattle.abt_links.proofs.opening.opening_cells.Given as goal

abbrev pub invariant-loop-id : goal.invariant-loop-id
invariant-loop-id g l = (vec_len l.cells ≡ l.id) × AtTheirPlaces (vec_items l.cells) × (l.book ≡ l.id)
