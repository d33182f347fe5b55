use Rattle.std.specs.Prelude.{◌≡◌, ◌+◌, ◌≤◌, ◌++◌, [], length, vec_len, vec_items, vec_capacity}
use Rattle.std.specs.Vec.Iter.{into_iter_len, into_iter_items}
use mathlib.Core.List.{IsPrefix}
use Rattle.abt_history.specs.Ended.{AreEnded}
use Rattle.abt_links.specs.Ends.{journals_left}
use Rattle.abt_links.specs.Lines.{AreNumberedFrom}
use Rattle.abt_links.proofs.ending.end_sources.Given as goal

abbrev pub invariant-loop-site : goal.invariant-loop-site
invariant-loop-site g l =
    (vec_len l.journals + into_iter_len l.site-iterator ≤ vec_capacity l.journals)
    × (length (into_iter_items l.site-iterator) ≡ into_iter_len l.site-iterator)
    × (vec_items l.journals ++ journals_left (into_iter_items l.site-iterator) ≡ journals_left (into_iter_items l.initial.site-iterator))
    × AreNumberedFrom (vec_len l.journals) (into_iter_items l.site-iterator)
    × AreEnded g.N.Place.net [] (vec_items l.journals) l.front
    × IsPrefix l.initial.front l.front
