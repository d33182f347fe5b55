use Rattle.std.proofs.Common.{get_or}
use Rattle.abt_chart.specs.declared.told.Told.{Told}
use Rattle.abt_chart.proofs.Next.{next_more}
use Rattle.abt_chart.proofs.Noted.{has_at, notes_at, on_ok_both}
use Rattle.abt_chart.proofs.behind.note.Goals as goal

pub returns : goal.returns
returns c =
    let told = c.args.told.now in
    let n = c.args.place in
    let old = c.args.places.now in
    let mid = c.note.new.self in
    let new = c.note-2.new.self in
    let sent = has_at (λ (t : Told). t.sent) told n c.index-told-place.result c.requires.within in
    let brought = has_at (λ (t : Told). t.brought) told n c.index-told-place-2.result c.requires.within in
    let sends = notes_at _ (get_or told n c.index-told-place.result).sent n old mid sent (c.in_ok-note.ensures.own, c.in_ok-note.ensures.others) in
    on_ok_both c.note-2.result c.note-2.ensures.own c.note-2.ensures.others (λ own others.
    let brings = notes_at _ (get_or told n c.index-told-place-2.result).brought n mid new brought (own, others) in
    next_more told n old mid new c.requires.within sends brings c.requires.next)
