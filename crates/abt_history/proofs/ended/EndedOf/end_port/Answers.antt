use Rattle.std.proofs.Common.{◌≡◌, List, [], ◌∷◌, ◌++◌, length, map, ap, sym, subst, ◌∙◌}
use Rattle.abt_journal.specs.declared.entry.Entry.{Entry}
use Rattle.abt_history.specs.Ended.{HasPortEnded, AreEnded}
use Rattle.abt_history.proofs.Closing.{map_last, one_port}
use Rattle.abt_history.proofs.Modes.{where_kept, kept}
use Rattle.abt_history.proofs.ended.EndedOf.end_port.Goals as goal

pub invariant_of-self-2 : goal.invariant_of-self-2
invariant_of-self-2 g c =
    let k = g.K.Keeping in
    let net = k.net in
    let s = c.self.inside in
    let entries = c.end-entries.result.0.items in
    let one = k.log c.end-entries.result.1 in
    let both = k.log c.with-front.result in
    let journals : List (List Entry) = map (λ v. v.items) s.ports.items in
    let next : c.args.station.port ≡ length journals = c.requires.next ∙ ap (λ v. length v.0) (sym c.self.view_is) in
    let all : map (λ v. v.items) c.push.new.self.items ≡ journals ++ entries ∷ [] = ap (map (λ v. v.items)) c.in_ok-push.ensures.items ∙ map_last (λ v. v.items) s.ports.items c.end-entries.result.0 in
    where_kept k.kept (λ is.
    let seen = kept k.kept is c.with-front.ensures in
    let port : HasPortEnded net (length journals) entries one = subst (λ n. HasPortEnded net n entries one) next (kept k.kept is c.end-entries.ensures.ended) in
    subst (λ (js : List (List Entry)). AreEnded net js s.sources both) (sym all) (one_port net journals s.sources entries (k.log s.front) one both (kept k.kept is c.self.invariant) port seen.0 seen.1))
