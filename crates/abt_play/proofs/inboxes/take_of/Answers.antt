-- The box of the connection loses its first, and the others stay.
use Rattle.std.proofs.Common.{rules, arith, ◌≡◌, ◌∙◌, sym, ◌++◌, ◌∷◌, [], List, ap}
use Rattle.std.proofs.lemmas.Grind.{common_steps}
use Rattle.std.specs.declared.alloc.Global.{Global}
use Rattle.std.specs.declared.collections.VecDeque.{VecDeque}
use Rattle.abt_model.specs.declared.event.Event.{Event}
use Rattle.abt_play.proofs.Boxes.{here, set_here, set_others, some_left, none_left}
use Rattle.abt_play.proofs.inboxes.take_of.Goals as goal

items_of : VecDeque Event Global → List Event
items_of queue = queue.items

pub returns-clause-some : goal.returns-clause-some
unfolding items_of
returns-clause-some c =
    let boxes = c.args.boxes.now.items in
    let place = c.from-place.result in
    some_left c.pop_front.result c.index_mut.result.now.items c.pop_front.new.self.items _ _
    (here items_of boxes place c.args.conn c.index_mut.result.now c.from-place.ensures (search rules) c.index_mut.ensures.value)
    (set_here items_of boxes place c.args.conn c.pop_front.new.self c.from-place.ensures (search rules))
    c.pop_front.ensures.items

pub returns-clause-none : goal.returns-clause-none
unfolding items_of
returns-clause-none c =
    let boxes = c.args.boxes.now.items in
    let place = c.from-place.result in
    none_left c.pop_front.result _ c.index_mut.result.now.items c.pop_front.new.self.items _ _
    (here items_of boxes place c.args.conn c.index_mut.result.now c.from-place.ensures (search rules) c.index_mut.ensures.value)
    (set_here items_of boxes place c.args.conn c.pop_front.new.self c.from-place.ensures (search rules))
    c.pop_front.ensures.items c.pop_front.ensures.value (first_of (search rules, grind (arith, common_steps)))

pub returns-clause-others : goal.returns-clause-others
unfolding items_of
returns-clause-others c = λ k other.
    set_others items_of c.args.boxes.now.items c.from-place.result c.pop_front.new.self k (λ e. other (e ∙ c.from-place.ensures))
