use Rattle.std.proofs.Common.{rules, ◌≡◌, ◌<◌, Some, slice_get, length, sym, subst, ap, ◌∙◌}
use Rattle.abt_net.specs.declared.conn.Conn.{Conn}
use Rattle.abt_history.specs.Sites.{SiteView}
use Rattle.abt_links.proofs.Opened.{begun-push}
use Rattle.abt_links.proofs.Running.{line_at, one_line}
use Rattle.abt_links.proofs.opening.opening_sites.Goals as goal

pub loop-conn-preserved : goal.loop-conn-preserved
loop-conn-preserved g c =
    let net = c.args.net.now in
    let n = c.loop-conn.conn in
    let inv = c.loop-conn.invariant in
    let mine : Conn = c.index-conns-from.result in
    let low : n < length net.conns = search rules in
    let at : slice_get net.conns n ≡ Some mine = line_at net.conns c.conns-in-loop-conn.result.now c.from-in-loop-conn.result n mine c.conns-in-loop-conn.ensures.value c.from-in-loop-conn.ensures low c.index-conns-from.is in
    let made = c.site.ensures.site in
    let number : c.site.result.conn ≡ n = ap (λ (s : SiteView). s.conn) made in (
      search rules,
      begun-push net 0 c.loop-conn.sites.items c.push.new.self.items c.site.result c.in_ok-push.ensures.items inv.1 (number ∙ search rules) (record {
        low = subst (λ m. m < length net.conns) (sym number) low;
        channel = λ line is. (let P : Conn → Type 0 = λ l. c.site.result.vc ≡ l.vc in subst P (one_line (slice_get net.conns n) mine line at (ap (slice_get net.conns) (sym number) ∙ is)) (ap (λ (s : SiteView). s.vc) made ∙ ap (λ (l : Conn). l.vc) (sym c.index-conns-from.is)));
        actor = search rules;
        entries = ap (λ (s : SiteView). s.entries) made;
        arrived = ap (λ (s : SiteView). s.arrived) made;
      }),
      search rules,
    )
