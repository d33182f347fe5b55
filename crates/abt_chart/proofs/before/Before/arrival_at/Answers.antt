use Rattle.std.proofs.Common.{◌≡◌, ◌↔◌, ℕ, Bool, subst, sym, ap, ◌∙◌}
use Rattle.std.specs.Prelude.{Some, Option, IfSome, IfNone, IsTrue, is_some}
use Rattle.abt_chart.specs.Arrows.{brought_at, IsNewestSending, IsUnsent, CameBefore, IsOvertaken}
use Rattle.abt_chart.specs.Before.{BeforeView, has_newer}
use Rattle.abt_chart.specs.Places.{place_in}
use Rattle.abt_chart.specs.declared.told.Told.{Told}
use Rattle.abt_chart.proofs.Noted.{has_at}
use Rattle.abt_chart.proofs.before.Before.arrival_at.Goals as goal

pub returns-clause-some : goal.returns-clause-some
returns-clause-some c =
    let told = c.args.told.now in
    let n = c.args.place in
    let m = c.in_ok-message.message in
    let known = c.requires.before in
    let here = has_at (λ (t : Told). t.brought) told n c.index-told-place.result c.requires.within in
    let brings : brought_at told n ≡ Some m = here ∙ c.in_ok-message.was in
    let sent : c.of.result ≡ place_in c.args.self.now.sent m = c.of.ensures ∙ ap (λ (b : BeforeView). place_in b.sent m) c.self.view_is in
    let came : c.is_some.result ≡ is_some (place_in c.args.self.now.came m) =
    c.is_some.ensures ∙ ap is_some (c.of-2.ensures ∙ ap (λ (b : BeforeView). place_in b.came m) c.self.view_is) in
    let late : c.has_newer.result ≡ has_newer c.args.self.now.requests m =
    c.has_newer.ensures ∙ ap (λ (b : BeforeView). has_newer b.requests m) c.self.view_is in
    record {
      brings = brings;
      sent = subst (λ (o : Option ℕ). IfSome o (IsNewestSending told m n)) (sym sent) (known.sent m);
      unsent = subst (λ (o : Option ℕ). IfNone o (IsUnsent told m n)) (sym sent) (known.unsent m);
      again = subst (λ (b : Bool). IsTrue b ↔ CameBefore told m n) (sym came) (known.came m);
      late = subst (λ (b : Bool). IsTrue b ↔ IsOvertaken told m n) (sym late) (known.overtaken m);
    }
