use Rattle.std.proofs.Common.{◌≡◌, List, length, map, ap, sym, subst, ◌∙◌}
use Rattle.abt_model.specs.declared.journal.SourceJournal.{SourceJournal}
use Rattle.abt_history.specs.Ended.{HasSourceEnded, AreEnded}
use Rattle.abt_history.proofs.Closing.{one_source}
use Rattle.abt_history.proofs.Modes.{where_kept, kept}
use Rattle.abt_history.proofs.ended.EndedOf.end_source.Goals as goal

pub invariant_of-self-2 : goal.invariant_of-self-2
invariant_of-self-2 g c =
    let k = g.K.Keeping in
    let net = k.net in
    let s = c.self.inside in
    let journal = c.end-journal.result.0 in
    let one = k.log c.end-journal.result.1 in
    let both = k.log c.with-seen.result in
    let next : c.args.site.conn ≡ length s.sources = c.requires.next ∙ ap (λ v. length v.1) (sym c.self.view_is) in
    where_kept k.kept (λ is.
    let seen = kept k.kept is c.with-seen.ensures in
    let source : HasSourceEnded net (length s.sources) journal.entries one = subst (λ n. HasSourceEnded net n journal.entries one) next (kept k.kept is c.end-journal.ensures.ended) in
    subst (λ (js : List SourceJournal). AreEnded net (map (λ v. v.items) s.ports.items) js both) (sym c.in_ok-push.ensures.ok)
    (one_source net (map (λ v. v.items) s.ports.items) s.sources journal (k.log s.front) one both (kept k.kept is c.self.invariant) source seen.0 seen.1))
