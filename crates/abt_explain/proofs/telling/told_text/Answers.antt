use Rattle.std.proofs.Common.{string_bytes}
use Rattle.abt_explain.proofs.telling.told_text.Goals as goal

pub returns : goal.returns
returns c = record {
  explanation = string_bytes c.in_ok-explanation.explanation;
  explained = c.in_ok-explanation.ensures;
  is = rw (← c.in_ok-answers.ensures.granted, ← c.in_ok-answers.ensures.refused, ← c.in_ok-answers.ensures.lines) c.in_ok-text.ensures.ok;
}
