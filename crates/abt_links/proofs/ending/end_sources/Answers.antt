use Rattle.std.proofs.Common.{rules, ◌≡◌, ◌∷◌, ◌∙◌}
use Rattle.std.specs.Vec.Iter.{into_iter_items}
use Rattle.abt_history.proofs.Fronts.{prefix_trans}
use Rattle.abt_links.proofs.Closing.{source_more, left_more, numbered_next}
use Rattle.abt_links.proofs.ending.end_sources.Goals as goal

pub loop-site-preserved : goal.loop-site-preserved
loop-site-preserved g c =
    let inv = c.loop-site.invariant in
    let site = c.in-Some.site in
    let journal = c.end-journal.result.0 in
    let old = into_iter_items c.loop-site.site-iterator in
    let new = into_iter_items c.next.new.self in
    let taken : old ≡ site ∷ new = search rules in
    let next = numbered_next _ old new site taken inv.3 in (
      search rules,
      search rules,
      left_more c.loop-site.journals.items c.push_reserved.new.self.items journal old new site _ taken c.push_reserved.ensures.items c.end-journal.ensures.entries inv.2,
      rw c.push_reserved.ensures.len next.1,
      source_more g.N.Place.net c.loop-site.journals.items c.push_reserved.new.self.items journal site.conn c.loop-site.front c.end-journal.result.1 c.with-front.result c.push_reserved.ensures.items inv.4 (next.0 ∙ search rules) c.end-journal.ensures.ended c.with-front.ensures.this c.with-front.ensures.that,
      prefix_trans _ _ _ inv.5 c.with-front.ensures.this,
    )
