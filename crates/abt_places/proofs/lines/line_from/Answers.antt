use Rattle.std.proofs.Common.{◌≡◌, ◌+◌, ◌<◌, ◌≤◌, ◌^◌, ℕ, suc, drop, take, length, List, arith, rules, ap, sym, ◌∙◌}
use Rattle.abt_places.specs.Places.{line_feeds}
use Rattle.abt_places.proofs.Feeds.{feeds_within, line_behind}
use Rattle.abt_places.proofs.lines.line_from.Goals as goal

-- a line and what follows it is the line behind that, which is no greater than the octets before it and one
moved : (last at line more : ℕ) (xs first : List ℕ) → last ≤ at → line ≡ suc (line_feeds (take last xs)) → first ≡ take at xs
    → more ≡ line_feeds (drop last first) → line + more ≡ suc (line_feeds (take at xs))
moved last at line more xs first low is front feeds =
    let e = line_behind last at xs low in
    let m : more ≡ line_feeds (drop last (take at xs)) = feeds ∙ ap (λ ys. line_feeds (drop last ys)) front in
    omega (arith, e, m, is)

fits : (xs : List ℕ) (n : ℕ) → n ≡ suc (line_feeds xs) → length xs < 2 ^ 63 → n < 2 ^ 64
fits xs n is few = let h = feeds_within xs in omega (arith, h, is, few)

pub overflow_add-result : goal.overflow_add-result
overflow_add-result c =
    let few : length c.before-first.result.now < 2 ^ 63 = search rules in
    let sum = moved _ _ _ _ _ _ c.if-last-at.true c.requires c.before-first.ensures (c.line_feeds.ensures ∙ ap line_feeds c.behind.ensures) in
    let room = fits c.before-first.result.now _ (sum ∙ ap (λ ys. suc (line_feeds ys)) (sym c.before-first.ensures)) few in
    omega (arith, room)

pub overflow_add-result-else-last-at : goal.overflow_add-result-else-last-at
overflow_add-result-else-last-at c =
    let few : length c.before-first.result.now < 2 ^ 63 = search rules in
    let e = c.line_feeds-else-last-at.ensures in
    let h = feeds_within c.before-first.result.now in
    omega (arith, h, e, few)

pub returns-then-last-at : goal.returns-then-last-at
returns-then-last-at c =
    moved _ _ _ _ _ _ c.if-last-at.true c.requires c.before-first.ensures (c.line_feeds.ensures ∙ ap line_feeds c.behind.ensures)
