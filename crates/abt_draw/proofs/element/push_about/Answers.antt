use Rattle.abt_draw.specs.Elements.{about_text}
use Rattle.abt_draw.proofs.element.push_about.Goals as goal

pub returns : goal.returns
unfolding about_text
returns c = rw (← c.in_ok-name.ensures.value, ← c.in_ok-words.ensures.value) c.write.ensures.bytes
