use Rattle.std.proofs.Common.{rules, ◌≡◌, ◌+◌, ◌++◌, ◌∷◌, [], ap, ◌∙◌, length}
use Rattle.abt_links.specs.declared.promises.LinkOf.{LinkOf}
use Rattle.abt_links.proofs.Promised.{links-push}
use Rattle.abt_links.proofs.start.start_links.Goals as goal

pub loop-to-preserved : goal.loop-to-preserved
loop-to-preserved g c =
    let inv = c.loop-to.invariant in
    let grown : c.add_link.new.self.links.items ≡ c.loop-to.handles.links.items ++ c.in-Ok.handle ∷ [] = c.add_link.ensures.links in
    let here : c.in-Ok.handle.promise.caller ≡ length c.args.context.now.net.now.conns + length c.loop-to.handles.links.items = ap (λ (p : LinkOf). p.caller) c.in-Ok.ensures.ok ∙ search rules in
    (search rules, search rules, search rules, links-push (λ h. h.promise) (length c.args.context.now.net.now.conns) c.loop-to.handles.links.items c.add_link.new.self.links.items c.in-Ok.handle grown inv.3 here, search rules)
