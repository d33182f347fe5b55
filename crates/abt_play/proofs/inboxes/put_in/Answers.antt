-- The box of the connection has one more, and the others stay.
use Rattle.std.proofs.Common.{rules, ◌∙◌, sym, ◌++◌, ◌∷◌, [], List, ap}
use Rattle.std.specs.declared.alloc.Global.{Global}
use Rattle.std.specs.declared.collections.VecDeque.{VecDeque}
use Rattle.abt_model.specs.declared.event.Event.{Event}
use Rattle.abt_play.proofs.Boxes.{here, set_here, set_others}
use Rattle.abt_play.proofs.inboxes.put_in.Goals as goal

items_of : VecDeque Event Global → List Event
items_of queue = queue.items

pub returns-clause-put : goal.returns-clause-put
unfolding items_of
returns-clause-put c =
    let boxes = c.args.boxes.now.items in
    let place = c.from-place.result in
    set_here items_of boxes place c.args.conn c.push_back.new.self c.from-place.ensures (search rules)
    ∙ c.in_ok-push_back.ensures.items
    ∙ ap (λ (l : List Event). l ++ c.args.told.now ∷ [])
    (sym (here items_of boxes place c.args.conn c.index_mut.result.now c.from-place.ensures (search rules) c.index_mut.ensures.value))

pub returns-clause-others : goal.returns-clause-others
unfolding items_of
returns-clause-others c = λ k other.
    set_others items_of c.args.boxes.now.items c.from-place.result c.push_back.new.self k (λ e. other (e ∙ c.from-place.ensures))

pub returns-in_err-push_back-clause-others : goal.returns-in_err-push_back-clause-others
unfolding items_of
returns-in_err-push_back-clause-others c = λ k other.
    set_others items_of c.args.boxes.now.items c.from-place.result c.push_back.new.self k (λ e. other (e ∙ c.from-place.ensures))
