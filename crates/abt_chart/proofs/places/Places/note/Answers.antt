use Rattle.std.proofs.Common.{◌≡◌, ◌≢◌, Bool, Some, subst, sym, ap, ◌∙◌}
use Rattle.std.specs.Map.{lookup}
use Rattle.abt_chart.specs.Places.{place_in, same_message, PlacesView}
use Rattle.abt_chart.specs.declared.message.Message.{Message}
use Rattle.abt_chart.proofs.Same.{apart, compares}
use Rattle.abt_chart.proofs.places.Places.note.Goals as goal

pub returns-in_ok-insert-clause-own : goal.returns-in_ok-insert-clause-own
returns-in_ok-insert-clause-own c = λ m is.
    let entries = c.insert.new.self.entries in
    let same : c.in-Some.message ≡ m = cc in
    let here : lookup (same_message c.in-Some.message) entries ≡ Some c.args.place =
    ap (λ (test : Message → Bool). lookup test entries) (λ i x. sym (compares c.in-Some.message x) i) ∙ c.in_ok-insert.ensures.updates.1 in
    subst (λ (k : Message). lookup (same_message k) entries ≡ Some c.args.place) same here

pub returns-in_ok-insert-clause-others : goal.returns-in_ok-insert-clause-others
returns-in_ok-insert-clause-others c = λ m differ.
    let before = c.self.inside.places.entries in
    let after = c.insert.new.self.entries in
    let other : c.in-Some.message ≢ m = λ same. differ (c.in-Some.is ∙ ap Some same) in
    ap (λ (test : Message → Bool). lookup test after) (λ i x. sym (compares m x) i)
    ∙ c.in_ok-insert.ensures.updates.2 m (compares c.in-Some.message m ∙ apart c.in-Some.message m other)
    ∙ ap (λ (test : Message → Bool). lookup test before) (λ i x. compares m x i)
    ∙ ap (λ (view : PlacesView). place_in view m) c.self.view_is
