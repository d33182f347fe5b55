use Rattle.std.proofs.Common.{get_or, subst}
use Rattle.abt_chart.specs.Before.{BeforeView}
use Rattle.abt_chart.specs.declared.told.Told.{Told}
use Rattle.abt_chart.proofs.Noted.{has_at, BeforeNotes, before_next, on_ok_more}
use Rattle.abt_chart.proofs.before.Before.note.Goals as goal

pub returns : goal.returns
returns c =
    let told = c.args.told.now in
    let n = c.args.place in
    let within = c.requires.within in
    let sent = (get_or told n c.index-told-place.result).sent in
    let brought = (get_or told n c.index-told-place-2.result).brought in
    let again = (get_or told n c.index-told-place-3.result).sent in
    let new : BeforeView = record { sent = c.note.new.self; came = c.note-2.new.self; requests = c.note-3.new.self } in
    let sends = has_at (λ (t : Told). t.sent) told n c.index-told-place.result within in
    let brings = has_at (λ (t : Told). t.brought) told n c.index-told-place-2.result within in
    let sends_again = has_at (λ (t : Told). t.sent) told n c.index-told-place-3.result within in
    on_ok_more c.note-3.result c.note-3.ensures (λ newest.
    before_next told n c.args.self.now new sent brought again sends brings sends_again
    (subst (λ (old : BeforeView). BeforeNotes sent brought again n old new) c.self.view_is (record {
      sent_places = (c.in_ok-note.ensures.own, c.in_ok-note.ensures.others);
      came_places = (c.in_ok-note-2.ensures.own, c.in_ok-note-2.ensures.others);
      newest = newest;
    })) c.requires.before)
