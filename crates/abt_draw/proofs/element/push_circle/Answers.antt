use Rattle.abt_draw.proofs.element.push_circle.Goals as goal

pub returns : goal.returns
returns c = rw (← c.in_ok-class.ensures.value) c.write.ensures.bytes
