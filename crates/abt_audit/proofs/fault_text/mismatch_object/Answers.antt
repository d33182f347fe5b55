-- The object of the entry, if it is there.
use Rattle.std.proofs.Common.{◌∙◌, [], ap}
use Rattle.std.specs.Prelude.{codes, string_bytes}
use Rattle.abt_text.specs.Text.{Text}
use Rattle.abt_audit.specs.EntryObjects.{said_at, why_members}
use Rattle.abt_audit.specs.Protocol.{protocol_answer}
use Rattle.abt_audit.proofs.EntryObjects.{entry_told, said_of_some, unsaid}
use Rattle.abt_audit.proofs.fault_text.mismatch_object.Goals as goal

pub returns-in_default : goal.returns-in_default
returns-in_default c =
    let run = c.args.run.now in
    let actor = c.args.stuck.actor in
    let place = c.args.stuck.place in
    let names = c.args.names.now in
    let why = c.in_ok-why.why in
    record {
      why = why;
      is_why = c.in_ok-why.ensures;
      are = c.new-text.ensures.items ∙ unsaid c.in_ok-said.field-0 (codes "mismatch") names actor place (why_members names (string_bytes why.reason) why.since)
          (protocol_answer run actor place) (said_at run actor place) c.in_default.is c.in_ok-said.ensures;
    }

pub returns : goal.returns
returns c =
    let run = c.args.run.now in
    let actor = c.args.stuck.actor in
    let place = c.args.stuck.place in
    let names = c.args.names.now in
    let why = c.in_ok-why.why in
    let said = c.in-Some.said in
    record {
      why = why;
      is_why = c.in_ok-why.ensures;
      are = entry_told (codes "mismatch") names actor place (why_members names (string_bytes why.reason) why.since)
          (why_members names c.as_str.result.now why.since) (protocol_answer run actor place) (said_at run actor place) said.spot said.entry.items
          c.as_slice.result.now _ [] _ c.end_entry.new.text.items _ _
          (said_of_some c.in_ok-said.field-0 said (said_at run actor place) c.in-Some.is c.in_ok-said.ensures) c.in_ok-answer.ensures
          (c.in_ok-push_why.ensures.before ∙ c.in_ok-object.ensures.before ∙ c.new-text.ensures.items) c.in_ok-object.ensures.tokens
          c.in_ok-push_why.ensures.tokens (ap (λ (t : Text). why_members names t why.since) c.as_str.ensures.value) c.as_slice.ensures.value
          c.in_ok-end_entry.ensures;
    }
