use Rattle.std.proofs.Common.{List, length, ap, sym, subst}
use Rattle.abt_model.specs.declared.entry.SourceEntry.{SourceEntry}
use Rattle.abt_history.specs.Ended.{HasSourceEnded}
use Rattle.abt_history.specs.Sites.{SiteView, IsHome}
use Rattle.abt_history.proofs.Closing.{may_end_source, source_ended}
use Rattle.abt_history.proofs.Modes.{of_kept, of_both}
use Rattle.abt_history.proofs.site.SiteOf.end.Goals as goal

pub note-last-requires-clause-may : goal.note-last-requires-clause-may
note-last-requires-clause-may g c =
    let k = g.K.Keeping in
    let s = c.self.inside in
    let front = k.log s.front in
    of_kept k.kept c.self.invariant (λ its.
    may_end_source k.net s.conn (length c.as_slice.result.now) (k.key s.tally) front front its.0 (subst (λ n. IsHome k.net s.conn n front) (ap length (sym c.as_slice.ensures.value)) its.1.home))

pub returns-clause-ended : goal.returns-clause-ended
returns-clause-ended g c =
    let k = g.K.Keeping in
    let s = c.self.inside in
    let front = k.log s.front in
    let last = k.log c.note-last.result in
    let site : SiteView = record { conn = s.conn; vc = s.vc; actor = s.actor; entries = s.entries.items; arrived = s.arrived; front = front } in
    of_both k.kept c.self.invariant c.note-last.ensures (λ its noted.
    let ended = source_ended k.net site front last (length c.as_slice.result.now) (k.key s.tally) its.1 its.0 (ap length c.as_slice.ensures.value) noted in
    subst (λ (es : List SourceEntry). HasSourceEnded k.net c.args.self.conn es last) (sym c.from-entries.ensures)
    (subst (λ n. HasSourceEnded k.net n s.entries.items last) (ap (λ (v : SiteView). v.conn) c.self.view_is) ended))
