use Rattle.std.proofs.Common.{◌≡◌, ◌∷◌, ◌∙◌, [], refl, sym, subst}
use Rattle.std.specs.Prelude.{MatchOption}
use Rattle.std.proofs.lemmas.List.{nil_from_length}
use Rattle.abt_weave.specs.declared.queue.Queue.{Queue}
use Rattle.abt_weave.specs.Queue.{IsEmpty, IsFirst}
use Rattle.abt_weave.proofs.Queues.{taken_out}
use Rattle.abt_weave.proofs.queue.Queue.next.Goals as goal

pub returns-in_err-number : goal.returns-in_err-number
returns-in_err-number c =
    let none : c.pop_front.new.self.items ≡ [] = nil_from_length c.pop_front.new.self.items (sym c.pop_front.new.self.ok.0 ∙ c.in_err-number.ensures.cases.1) in
    let new : Queue = record { ready = c.pop_front.new.self; woken = c.args.self.now.woken; marks = c.args.self.now.marks } in
    subst (λ r. MatchOption r (IsEmpty c.args.self.now new) (IsFirst c.args.self.now new)) (sym c.from_residual.ensures)
    (record { none = none; was = c.in_err-number.ensures.items ∙ none; woken = refl; marks = refl })

pub returns : goal.returns
returns c = taken_out c.args.self.now _ c.in_ok-number.number c.from.result c.requires c.in_ok-number.ensures.items refl refl c.from.ensures
