-- The entry, the protocol's answer, and why it is that, one after the other.
use Rattle.std.proofs.Common.{◌∙◌, ◌++◌, List, ℕ, ap}
use Rattle.abt_audit.specs.Protocol.{protocol_line}
use Rattle.abt_audit.proofs.Lists.{three_joined}
use Rattle.abt_audit.proofs.fault_text.mismatch_lines.Goals as goal

pub returns : goal.returns
returns c = record {
  why = c.in_ok-why.why;
  is_why = c.in_ok-why.ensures;
  are = three_joined _ _ _ _ _ _ _ c.new-text.ensures.items c.in_ok-add_stuck.ensures
      (c.in_ok-add_protocol.ensures ∙ ap (λ a. c.add_stuck.new.text.items ++ protocol_line a) c.in_ok-answer.ensures)
      (c.in_ok-extend_from_slice.ensures.items ∙ ap (λ (t : List ℕ). c.add_protocol.new.text.items ++ t) (c.as_slice.ensures.value ∙ c.in_ok-reason.ensures));
}
