use Rattle.std.proofs.Common.{rules, ◌≡◌, ◌++◌, ◌∷◌, [], Some, slice_get, ap, sym, ◌∙◌, length}
use Rattle.std.specs.Vec.Iter.{into_iter_items}
use Rattle.abt_links.specs.declared.promises.AccessOf.{AccessOf}
use Rattle.abt_links.proofs.Opened.{begun_next}
use Rattle.abt_links.proofs.Promised.{accesses-push}
use Rattle.abt_links.proofs.start.start_sources.Goals as goal

pub loop-to-preserved : goal.loop-to-preserved
loop-to-preserved g c =
    let inv = c.loop-to.invariant in
    let grown : c.add_source.new.self.sources.items ≡ c.loop-to.handles.sources.items ++ c.in-Ok.handle ∷ [] = c.add_source.ensures.sources in
    let here : c.in-Ok.handle.promise.conn ≡ length c.loop-to.handles.sources.items = ap (λ (p : AccessOf). p.conn) c.in-Ok.ensures.ok ∙ search rules in
    let own : c.in-Ok.handle.promise.net.value ≡ c.args.context.now.net.now = ap (λ (p : AccessOf). p.net.value) c.in-Ok.ensures.ok ∙ c.of.ensures in
    let said : c.in-Ok.handle.promise.script.value ≡ c.script_of-script.result.now = ap (λ (p : AccessOf). p.script.value) c.in-Ok.ensures.ok ∙ c.of-in-loop-to.ensures in
    let is : slice_get c.args.scripts.now c.loop-to.conn ≡ Some c.in-Ok.handle.promise.script.value = c.script_of-script.ensures.script ∙ ap Some (sym said) in
    let at : c.loop-to.conn ≡ length c.loop-to.handles.sources.items = search rules in
    (search rules, search rules, search rules, accesses-push (λ h. h.promise) c.args.context.now.net.now c.args.scripts.now c.loop-to.handles.sources.items c.add_source.new.self.sources.items c.in-Ok.handle grown inv.3 here own c.loop-to.conn at is, search rules, search rules, search rules, (begun_next c.args.context.now.net.now c.loop-to.conn (into_iter_items c.loop-to.to-iterator) (into_iter_items c.next.new.self) (c.in-Some.to, c.in-Some.site) (search rules) inv.7).2)

pub has_begun-requires-clause-own : goal.has_begun-requires-clause-own
has_begun-requires-clause-own g c = (begun_next c.args.context.now.net.now c.loop-to.conn (into_iter_items c.loop-to.to-iterator) (into_iter_items c.next.new.self) (c.in-Some.to, c.in-Some.site) (search rules) c.loop-to.invariant.7).0

pub has_begun-requires-clause-begun : goal.has_begun-requires-clause-begun
has_begun-requires-clause-begun g c = (begun_next c.args.context.now.net.now c.loop-to.conn (into_iter_items c.loop-to.to-iterator) (into_iter_items c.next.new.self) (c.in-Some.to, c.in-Some.site) (search rules) c.loop-to.invariant.7).1
