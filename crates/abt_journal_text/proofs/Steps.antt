-- The line of a step of a port says that step.
use Rattle.std.proofs.Common.{◌≡◌, ℕ, ◌<◌, ◌≤◌, ◌^◌, [], ◌∷◌, refl, ap, arith}
use Rattle.std.specs.Prelude.{Some, Ok, Err}
use Rattle.std.specs.Str.{IsUtf8}
use Rattle.json.proofs.Printed.Utf8.{IsUtf8-are_ascii}
use Rattle.json.specs.Json.{max_depth}
use Rattle.json.specs.Strict.{HasUniqueKeys}
use Rattle.json.specs.Tree.{depth}
use Rattle.abt_cell.specs.Message.{Terms, Reply}
use Rattle.abt_gcra.specs.declared.verdict.Verdict.{Verdict}
use Rattle.abt_gcra.specs.declared.verdict.Verdict.TheVariants as verdict
use Rattle.abt_journal.specs.declared.entry.Entry.{Entry}
use Rattle.abt_journal.specs.declared.input.PortInput.{PortInput}
use Rattle.abt_journal.specs.declared.input.PortInput.TheVariants as input
use Rattle.abt_journal.specs.declared.input.PortReply.{PortReply}
use Rattle.abt_journal.specs.declared.input.PortReply.TheVariants as reply
use Rattle.abt_ledger.specs.declared.fault.CapacityFault.{CapacityFault}
use Rattle.abt_ledger.specs.declared.fault.CapacityFault.TheVariants as capacity
use Rattle.abt_node.specs.Names.{drop_name}
use Rattle.abt_node.specs.declared.fault.ArriveFault.{ArriveFault}
use Rattle.abt_node.specs.declared.fault.ArriveFault.TheVariants as arrive
use Rattle.abt_node.specs.declared.reply.Back.TheVariants as back
use Rattle.abt_node.specs.declared.reply.DropCause.{DropCause}
use Rattle.abt_node.specs.declared.reply.DropCause.TheVariants as dropped
use Rattle.abt_node.specs.declared.reply.Onward.TheVariants as onward
use Rattle.abt_format.specs.Names.{verdict_name, capacity_fault_name}
use Rattle.abt_entry.specs.Reading.{needed}
use Rattle.abt_entry.specs.Written.{request_json, answer_json}
use Rattle.abt_entry.specs.declared.member.Member.TheVariants as of
use Rattle.abt_entry.specs.Lines.{Says, line_in}
use Rattle.abt_entry.specs.PortLines.{input_in, reply_in}
use Rattle.abt_entry.specs.Words.{arrive_fault_name, drop_of, verdict_of, arrive_fault_of, capacity_fault_of}
use Rattle.abt_entry.specs.declared.line.Line.TheVariants as line
use Rattle.abt_entry.specs.EntryWritten.{input_json, reply_json, step_json}
use Rattle.abt_journal_text.specs.Fits.{IsTerms}
use Rattle.abt_journal_text.specs.NetJson.{line_of}
use Rattle.abt_journal_text.specs.Tellable.{IsInput, IsReply, IsStep}
use Rattle.abt_journal_text.proofs.Plain.{IsPlainJson, read_back}
use Rattle.abt_journal_text.proofs.Keys.{distinct_names, name_utf8}
use Rattle.abt_journal_text.proofs.Readings.{then_read, whole_back, rate_utf8, request_back, answer_back}

drop_back : (cause : DropCause) → drop_of (drop_name cause) ≡ Some cause
drop_back dropped.UnknownVc = refl
drop_back dropped.Stale = refl
drop_back dropped.Conflict = refl
drop_back dropped.FloorAbove = refl

verdict_back : (v : Verdict) → verdict_of (verdict_name v) ≡ Some v
verdict_back verdict.Conforming = refl
verdict_back verdict.TooEarly = refl
verdict_back verdict.NoRate = refl

arrive_back : (fault : ArriveFault) → arrive_fault_of (arrive_fault_name fault) ≡ Some fault
arrive_back arrive.UnknownVc = refl
arrive_back arrive.NotIngress = refl
arrive_back arrive.ClockBack = refl
arrive_back arrive.TimeRange = refl

capacity_back : (fault : CapacityFault) → capacity_fault_of (capacity_fault_name fault) ≡ Some fault
capacity_back capacity.BelowSum = refl
capacity_back capacity.AboveLimit = refl

input_back : (came : PortInput) → IsInput came → input_in (input_json came) ≡ Ok came
input_back (input.Request q) is = then_read _ q _ _ (request_back q of.Request is) refl
input_back (input.Answer a) is = then_read _ a _ _ (answer_back a of.Answer is) refl
input_back (input.Arrive vc at) is =
    then_read _ vc _ _
    (then_read _ vc.vpi _ _ (whole_back (2 ^ 12) vc.vpi of.Vpi is.0.0 (omega arith)) (then_read _ vc.vci _ _ (whole_back (2 ^ 16) vc.vci of.Vci is.0.1 (omega arith)) refl))
    (then_read _ at _ _ (whole_back (2 ^ 64) at of.At is.1 (omega arith)) refl)
input_back (input.Capacity units) is = then_read _ units _ _ (whole_back (2 ^ 64) units of.Capacity is (omega arith)) refl

reply_back : (came : PortInput) (replied : PortReply) → IsReply came replied → reply_in came (reply_json replied) ≡ Ok replied
reply_back (input.Request q) (reply.Requested onward.Pass) is = refl
reply_back (input.Request q) (reply.Requested (onward.Refuse a)) is =
    then_read _ (onward.Refuse a) _ _ (then_read _ a _ _ (answer_back a of.Refused is) refl) refl
reply_back (input.Request q) (reply.Requested (onward.Drop cause)) is =
    then_read _ (onward.Drop cause) _ _ (then_read _ cause _ _ (ap (needed of.Dropped) (drop_back cause)) refl) refl
reply_back (input.Request q) (reply.Answered b) is = absurd is
reply_back (input.Request q) (reply.Arrived r) is = absurd is
reply_back (input.Request q) (reply.Capped r) is = absurd is
reply_back (input.Answer a) (reply.Answered back.Pass) is = refl
reply_back (input.Answer a) (reply.Answered (back.Drop cause)) is =
    then_read _ (back.Drop cause) _ _ (then_read _ cause _ _ (ap (needed of.Dropped) (drop_back cause)) refl) refl
reply_back (input.Answer a) (reply.Requested o) is = absurd is
reply_back (input.Answer a) (reply.Arrived r) is = absurd is
reply_back (input.Answer a) (reply.Capped r) is = absurd is
reply_back (input.Arrive vc at) (reply.Arrived (Ok v)) is = then_read _ v _ _ (ap (needed of.Arrived) (verdict_back v)) refl
reply_back (input.Arrive vc at) (reply.Arrived (Err why)) is = then_read _ why _ _ (ap (needed of.Refused) (arrive_back why)) refl
reply_back (input.Arrive vc at) (reply.Requested o) is = absurd is
reply_back (input.Arrive vc at) (reply.Answered b) is = absurd is
reply_back (input.Arrive vc at) (reply.Capped r) is = absurd is
reply_back (input.Capacity units) (reply.Capped (Ok set)) is = refl
reply_back (input.Capacity units) (reply.Capped (Err why)) is = then_read _ why _ _ (ap (needed of.Refused) (capacity_back why)) refl
reply_back (input.Capacity units) (reply.Requested o) is = absurd is
reply_back (input.Capacity units) (reply.Answered b) is = absurd is
reply_back (input.Capacity units) (reply.Arrived r) is = absurd is

step_back : (port : ℕ) (step : Entry) → port < 2 ^ 16 → IsStep step → line_in (step_json port step) ≡ Ok (line.Port port step)
step_back port step low is =
    then_read _ port _ _ (whole_back (2 ^ 16) port of.Port low (omega arith))
    (then_read _ step _ _
    (then_read _ step.place _ _ (whole_back (2 ^ 64) step.place of.Place is.place (omega arith))
    (then_read _ step.caller _ _ (whole_back (2 ^ 16) step.caller of.Caller is.caller (omega arith))
    (then_read _ step.input _ _ (input_back step.input is.input)
    (then_read _ step.reply _ _ (reply_back step.input step.reply is.reply) refl)))) refl)

drop_utf8 : (cause : DropCause) → IsUtf8 (drop_name cause)
drop_utf8 dropped.UnknownVc = IsUtf8-are_ascii _ refl
drop_utf8 dropped.Stale = IsUtf8-are_ascii _ refl
drop_utf8 dropped.Conflict = IsUtf8-are_ascii _ refl
drop_utf8 dropped.FloorAbove = IsUtf8-are_ascii _ refl

verdict_utf8 : (v : Verdict) → IsUtf8 (verdict_name v)
verdict_utf8 verdict.Conforming = IsUtf8-are_ascii _ refl
verdict_utf8 verdict.TooEarly = IsUtf8-are_ascii _ refl
verdict_utf8 verdict.NoRate = IsUtf8-are_ascii _ refl

arrive_utf8 : (fault : ArriveFault) → IsUtf8 (arrive_fault_name fault)
arrive_utf8 arrive.UnknownVc = IsUtf8-are_ascii _ refl
arrive_utf8 arrive.NotIngress = IsUtf8-are_ascii _ refl
arrive_utf8 arrive.ClockBack = IsUtf8-are_ascii _ refl
arrive_utf8 arrive.TimeRange = IsUtf8-are_ascii _ refl

capacity_utf8 : (fault : CapacityFault) → IsUtf8 (capacity_fault_name fault)
capacity_utf8 capacity.BelowSum = IsUtf8-are_ascii _ refl
capacity_utf8 capacity.AboveLimit = IsUtf8-are_ascii _ refl

pub request_plain : (q : Terms) → IsTerms q → IsPlainJson (request_json q)
request_plain q is =
    (name_utf8 of.Vpi, (q.vc.vpi, omega (arith, is.vc.0), refl), (name_utf8 of.Vci, (q.vc.vci, omega (arith, is.vc.1), refl), (name_utf8 of.Seq, (q.seq, omega (arith, is.seq), refl), (name_utf8 of.Floor, rate_utf8 q.floor, (name_utf8 of.Ask, rate_utf8 q.ask, tt)))))

answer_plain : (a : Reply) → IsTerms a.terms → IsPlainJson (answer_json a)
answer_plain a is =
    (name_utf8 of.Vpi, (a.terms.vc.vpi, omega (arith, is.vc.0), refl), (name_utf8 of.Vci, (a.terms.vc.vci, omega (arith, is.vc.1), refl), (name_utf8 of.Seq, (a.terms.seq, omega (arith, is.seq), refl), (name_utf8 of.Floor, rate_utf8 a.terms.floor, (name_utf8 of.Ask, rate_utf8 a.terms.ask, (name_utf8 of.Granted, tt, tt))))))

pub request_unique : (q : Terms) → HasUniqueKeys (request_json q)
request_unique q = (distinct_names (of.Vpi ∷ of.Vci ∷ of.Seq ∷ of.Floor ∷ of.Ask ∷ []) refl, (tt, (tt, (tt, (tt, (tt, tt))))))

answer_unique : (a : Reply) → HasUniqueKeys (answer_json a)
answer_unique a = (distinct_names (of.Vpi ∷ of.Vci ∷ of.Seq ∷ of.Floor ∷ of.Ask ∷ of.Granted ∷ []) refl, (tt, (tt, (tt, (tt, (tt, (tt, tt)))))))

input_plain : (came : PortInput) → IsInput came → IsPlainJson (input_json came)
input_plain (input.Request q) is = (name_utf8 of.Request, request_plain q is, tt)
input_plain (input.Answer a) is = (name_utf8 of.Answer, answer_plain a is, tt)
input_plain (input.Arrive vc at) is =
    (name_utf8 of.Arrive, (name_utf8 of.Vpi, (vc.vpi, omega (arith, is.0.0), refl), (name_utf8 of.Vci, (vc.vci, omega (arith, is.0.1), refl), (name_utf8 of.At, (at, is.1, refl), tt))), tt)
input_plain (input.Capacity units) is = (name_utf8 of.Capacity, (units, is, refl), tt)

input_unique : (came : PortInput) → HasUniqueKeys (input_json came)
input_unique (input.Request q) = (distinct_names (of.Request ∷ []) refl, (request_unique q, tt))
input_unique (input.Answer a) = (distinct_names (of.Answer ∷ []) refl, (answer_unique a, tt))
input_unique (input.Arrive vc at) = (distinct_names (of.Arrive ∷ []) refl, ((distinct_names (of.Vpi ∷ of.Vci ∷ of.At ∷ []) refl, (tt, (tt, (tt, tt)))), tt))
input_unique (input.Capacity units) = (distinct_names (of.Capacity ∷ []) refl, (tt, tt))

input_depth : (came : PortInput) → depth (input_json came) ≤ 2
input_depth (input.Request q) = omega arith
input_depth (input.Answer a) = omega arith
input_depth (input.Arrive vc at) = omega arith
input_depth (input.Capacity units) = omega arith

reply_plain : (came : PortInput) (replied : PortReply) → IsReply came replied → IsPlainJson (reply_json replied)
reply_plain (input.Request q) (reply.Requested onward.Pass) is = IsUtf8-are_ascii _ refl
reply_plain (input.Request q) (reply.Requested (onward.Refuse a)) is = (name_utf8 of.Refused, answer_plain a is, tt)
reply_plain (input.Request q) (reply.Requested (onward.Drop cause)) is = (name_utf8 of.Dropped, drop_utf8 cause, tt)
reply_plain (input.Request q) (reply.Answered b) is = absurd is
reply_plain (input.Request q) (reply.Arrived r) is = absurd is
reply_plain (input.Request q) (reply.Capped r) is = absurd is
reply_plain (input.Answer a) (reply.Answered back.Pass) is = IsUtf8-are_ascii _ refl
reply_plain (input.Answer a) (reply.Answered (back.Drop cause)) is = (name_utf8 of.Dropped, drop_utf8 cause, tt)
reply_plain (input.Answer a) (reply.Requested o) is = absurd is
reply_plain (input.Answer a) (reply.Arrived r) is = absurd is
reply_plain (input.Answer a) (reply.Capped r) is = absurd is
reply_plain (input.Arrive vc at) (reply.Arrived (Ok v)) is = (name_utf8 of.Arrived, verdict_utf8 v, tt)
reply_plain (input.Arrive vc at) (reply.Arrived (Err why)) is = (name_utf8 of.Refused, arrive_utf8 why, tt)
reply_plain (input.Arrive vc at) (reply.Requested o) is = absurd is
reply_plain (input.Arrive vc at) (reply.Answered b) is = absurd is
reply_plain (input.Arrive vc at) (reply.Capped r) is = absurd is
reply_plain (input.Capacity units) (reply.Capped (Ok set)) is = IsUtf8-are_ascii _ refl
reply_plain (input.Capacity units) (reply.Capped (Err why)) is = (name_utf8 of.Refused, capacity_utf8 why, tt)
reply_plain (input.Capacity units) (reply.Requested o) is = absurd is
reply_plain (input.Capacity units) (reply.Answered b) is = absurd is
reply_plain (input.Capacity units) (reply.Arrived r) is = absurd is

reply_unique : (replied : PortReply) → HasUniqueKeys (reply_json replied)
reply_unique (reply.Requested onward.Pass) = tt
reply_unique (reply.Requested (onward.Refuse a)) = (distinct_names (of.Refused ∷ []) refl, (answer_unique a, tt))
reply_unique (reply.Requested (onward.Drop cause)) = (distinct_names (of.Dropped ∷ []) refl, (tt, tt))
reply_unique (reply.Answered back.Pass) = tt
reply_unique (reply.Answered (back.Drop cause)) = (distinct_names (of.Dropped ∷ []) refl, (tt, tt))
reply_unique (reply.Arrived (Ok v)) = (distinct_names (of.Arrived ∷ []) refl, (tt, tt))
reply_unique (reply.Arrived (Err why)) = (distinct_names (of.Refused ∷ []) refl, (tt, tt))
reply_unique (reply.Capped (Ok set)) = tt
reply_unique (reply.Capped (Err why)) = (distinct_names (of.Refused ∷ []) refl, (tt, tt))

reply_depth : (replied : PortReply) → depth (reply_json replied) ≤ 2
reply_depth (reply.Requested onward.Pass) = omega arith
reply_depth (reply.Requested (onward.Refuse a)) = omega arith
reply_depth (reply.Requested (onward.Drop cause)) = omega arith
reply_depth (reply.Answered back.Pass) = omega arith
reply_depth (reply.Answered (back.Drop cause)) = omega arith
reply_depth (reply.Arrived (Ok v)) = omega arith
reply_depth (reply.Arrived (Err why)) = omega arith
reply_depth (reply.Capped (Ok set)) = omega arith
reply_depth (reply.Capped (Err why)) = omega arith

pub step_plain : (port : ℕ) (step : Entry) → port < 2 ^ 16 → IsStep step → IsPlainJson (step_json port step)
step_plain port step low is =
    (name_utf8 of.Port, (port, omega (arith, low), refl), (name_utf8 of.Place, (step.place, is.place, refl), (name_utf8 of.Caller, (step.caller, omega (arith, is.caller), refl), (name_utf8 of.Input, input_plain step.input is.input, (name_utf8 of.Reply, reply_plain step.input step.reply is.reply, tt)))))

step_depth : (port : ℕ) (step : Entry) → depth (step_json port step) ≤ max_depth
step_depth port step = omega (arith, input_depth step.input, reply_depth step.reply)

step_unique : (port : ℕ) (step : Entry) → HasUniqueKeys (step_json port step)
step_unique port step = (distinct_names (of.Port ∷ of.Place ∷ of.Caller ∷ of.Input ∷ of.Reply ∷ []) refl, (tt, (tt, (tt, (input_unique step.input, (reply_unique step.reply, tt))))))

pub step_says : (port : ℕ) (step : Entry) → port < 2 ^ 16 → IsStep step → Says (line_of (step_json port step)) (line.Port port step)
step_says port step low is = record {
  json = step_json port step;
  read = read_back (step_json port step) (step_plain port step low is) (step_depth port step);
  unique = step_unique port step;
  is = step_back port step low is;
}
