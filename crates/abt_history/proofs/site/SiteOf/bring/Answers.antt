use Rattle.std.proofs.Common.{◌≡◌, ◌∷◌, ◌++◌, ℕ, [], List, ap, sym, subst, ◌∙◌}
use mathlib.Core.List.{IsPrefix}
use Rattle.abt_cell.specs.declared.message.Rm.TheVariants as rm
use Rattle.abt_model.specs.declared.entry.SourceEntry.{SourceEntry}
use Rattle.abt_history.specs.declared.brought.Brought.{Brought}
use Rattle.abt_history.specs.declared.deed.Deed.{Deed}
use Rattle.abt_history.specs.Sites.{SiteView, IsSite, entry_brought, input_brought, arrived_with}
use Rattle.abt_history.specs.Stations.{CameTo}
use Rattle.abt_history.proofs.Modes.{of_both}
use Rattle.abt_history.proofs.Returning.{stays_site}
use Rattle.abt_history.proofs.Stations.{follows_on}
use Rattle.abt_history.proofs.site.SiteOf.bring.Goals as goal

pub invariant_of-self-2 : goal.invariant_of-self-2
invariant_of-self-2 g c =
    let k = g.K.Keeping in
    let net = k.net in
    let s = c.self.inside in
    let front = k.log s.front in
    let new = c.meet.new.self.front in
    let brought = c.args.brought.now in
    let old : SiteView = record { conn = s.conn; vc = s.vc; actor = s.actor; entries = s.entries.items; arrived = s.arrived; front = front } in
    let entries : s.entries.items ++ entry_brought c.in_ok-place.place brought ∷ [] ≡ c.push_reserved.new.self.items =
    ap (λ (l : List SourceEntry). l ++ entry_brought c.in_ok-place.place brought ∷ []) (sym c.in_ok-reserve.ensures.items) ∙ ap (λ (e : SourceEntry). c.reserve.new.self.items ++ e ∷ []) (sym c.entry.ensures) ∙ sym c.push_reserved.ensures.items in
    of_both k.kept c.self.invariant c.in_ok-place.ensures.back (λ its back.
    let site = stays_site net old new c.in_ok-place.place brought its.1 back in
    let entered = subst (λ (es : List SourceEntry). IsSite net (record { conn = s.conn; vc = s.vc; actor = s.actor; entries = es; arrived = arrived_with s.arrived brought; front = new })) entries site in
    let timed = subst (λ (n : ℕ). IsSite net (record { conn = s.conn; vc = s.vc; actor = s.actor; entries = c.push_reserved.new.self.items; arrived = n; front = new })) (sym c.arrived-self-inside.ensures) entered in
    (its.0, subst (λ (f : List Deed). IsSite net (record { conn = s.conn; vc = s.vc; actor = s.actor; entries = c.push_reserved.new.self.items; arrived = c.arrived-self-inside.result; front = f })) (sym c.front.ensures) timed))

pub returns-clause-follows : goal.returns-clause-follows
returns-clause-follows g c =
    let k = g.K.Keeping in
    let new = c.meet.new.self.front in
    let port = c.args.station.now.port in
    of_both k.kept c.self.invariant c.in_ok-place.ensures.came (λ its came request is.
    follows_on k.net new port (rm.Request request) c.in_ok-place.reply its.1.rules
    (subst (λ (b : Brought). CameTo k.net new port (input_brought c.self.inside.vc b) c.in_ok-place.reply) is came))

pub returns-clause-seen : goal.returns-clause-seen
returns-clause-seen g c =
    let k = g.K.Keeping in
    let came : List Deed → Type 0 = λ f. IsPrefix (k.log c.self.inside.front) f in
    of_both k.kept c.in_ok-place.ensures.back c.in_ok-place.ensures.own (λ back mine.
    (subst (λ f. IsPrefix f (k.log c.front.result)) (ap (λ (v : SiteView). v.front) c.self.view_is) (subst came (sym c.front.ensures) back.seen), mine))
