-- The octets of journals are read as just the lines that were written.
use Rattle.std.proofs.Common.{◌≡◌, ◌∙◌, ℕ, ◌+◌, ◌<◌, ◌≤◌, ◌^◌, List, [], ◌∷◌, ◌++◌, refl, sym, ap, subst, arith, map, All, drop}
use Rattle.std.specs.Prelude.{Option, None, Some, Ok, Err, IfSome, codes, decimal, unwrap_or}
use Rattle.std.specs.Str.{IsUtf8}
use Rattle.std.proofs.lemmas.List.{append_assoc}
use Rattle.std.proofs.lemmas.List.Elements.{All-head, All-tail}
use Rattle.json.specs.Json.{Json, Members, object, member, no_members, document, max_depth}
use Rattle.json.specs.Print.{escape_byte, print, print_from, separator, token_text}
use Rattle.json.specs.Strict.{HasUniqueKeys}
use Rattle.json.specs.Token as token
use Rattle.json.specs.Tree.{depth, json_tokens, members_tokens}
use Rattle.json.proofs.Printed.Utf8.{IsUtf8-are_ascii}
use Rattle.abt_text.specs.Text.{Text, newline}
use Rattle.abt_rate.specs.Rate.{IsRate}
use Rattle.abt_keep.specs.declared.plan.StorePlan.TheVariants.{FailsBefore}
use Rattle.abt_source.specs.declared.fault.AskFault.TheVariants.{Keep}
use Rattle.abt_model.specs.declared.event.Event.{Event}
use Rattle.abt_model.specs.declared.event.Event.TheVariants.{Ask}
use Rattle.abt_model.specs.declared.outcome.Outcome.{Outcome}
use Rattle.abt_model.specs.declared.outcome.Outcome.TheVariants.{AskRefused}
use Rattle.abt_model.specs.declared.entry.SourceEntry.TheVariants.{Did}
use Rattle.abt_journal.specs.declared.entry.Entry.{Entry}
use Rattle.abt_journal.specs.declared.input.PortInput.{PortInput}
use Rattle.abt_journal.specs.declared.input.PortInput.TheVariants as input
use Rattle.abt_journal.specs.declared.input.PortReply.{PortReply}
use Rattle.abt_journal.specs.declared.input.PortReply.TheVariants as reply
use Rattle.abt_node.specs.declared.reply.Back.TheVariants as back
use Rattle.abt_node.specs.declared.reply.Onward.TheVariants as onward
use Rattle.abt_entry.specs.EntryWritten.{entry_json, input_json, reply_json, step_json}
use Rattle.abt_entry.specs.Lines.{Says, line_in}
use Rattle.abt_entry.specs.Written.{number_json, with_member}
use Rattle.abt_entry.specs.declared.line.Line.{Line}
use Rattle.abt_entry.specs.declared.line.Line.TheVariants as line
use Rattle.abt_entry.specs.declared.member.Member.TheVariants as of
use Rattle.abt_journal_text.specs.Tellable.{IsEntry, IsStep}
use Rattle.abt_journal_text.proofs.Entries.{entry_plain, entry_says}
use Rattle.abt_journal_text.proofs.Keys.{distinct_names, name_utf8}
use Rattle.abt_journal_text.proofs.Plain.{IsPlainJson, print_lacks, print_utf8, read_back}
use Rattle.abt_journal_text.proofs.Readings.{rate_back, rate_utf8, then_read, whole_back}
use Rattle.abt_journal_text.proofs.Steps.{step_plain, step_says}
use Rattle.abt_processes.specs.Processes.{JournalLine, About, Open, Deed}
use Rattle.abt_live.specs.FailedLine.{failed_ask_json, failed_json}
use Rattle.abt_live.specs.Ports.{step_text, switch_line}
use Rattle.abt_live_laws.specs.Journals as ports
use Rattle.abt_live_laws.specs.Machine.{line_text, lines_text}
use Rattle.abt_live_laws.specs.Octets.{AreRead, DeedsAreRead, FitsPortLine, FitsSourceLine, IsReadAs, StepsAreRead, source_read, step_read}

-- what is printed of a value is read as what it says
printed : (json : Json) (says : Line) → IsPlainJson json → Says (print (json_tokens json)) says → IsReadAs (print (json_tokens json)) says
printed json says plain said = record { utf8 = print_utf8 json plain; alone = print_lacks json plain; said = said }

-- an ask whose record wasn't kept
failed_plain : (conn rate : ℕ) → conn < 2 ^ 16 → IsPlainJson (failed_json conn rate)
failed_plain conn rate low = (
  name_utf8 of.Source,
  (conn, omega (arith, low), refl),
  (
    name_utf8 of.Did,
    (name_utf8 of.Ask, rate_utf8 rate, (name_utf8 of.Store, IsUtf8-are_ascii _ refl, tt)),
    (name_utf8 of.Outcome, (name_utf8 of.Refused, IsUtf8-are_ascii _ refl, tt), tt),
  ),
)

failed_unique : (conn rate : ℕ) → HasUniqueKeys (failed_json conn rate)
failed_unique conn rate = (
  distinct_names (of.Source ∷ of.Did ∷ of.Outcome ∷ []) refl,
  (tt, ((distinct_names (of.Ask ∷ of.Store ∷ []) refl, (tt, (tt, tt))), ((distinct_names (of.Refused ∷ []) refl, (tt, tt)), tt))),
)

failed_back : (conn rate : ℕ) → conn < 2 ^ 16 → IsRate rate → line_in (failed_json conn rate) ≡ Ok (line.Open conn (Did (Ask conn rate FailsBefore) (AskRefused Keep)))
failed_back conn rate low is =
    then_read _ conn _ _ (whole_back (2 ^ 16) conn of.Source low (omega arith))
    (then_read _ (Did (Ask conn rate FailsBefore) (AskRefused Keep)) _ _
    (then_read _ (Ask conn rate FailsBefore) _ _ (then_read _ rate _ _ (rate_back rate of.Ask is) refl) refl) refl)

failed_says : (conn rate : ℕ) → conn < 2 ^ 16 → IsRate rate → Says (print (json_tokens (failed_json conn rate))) (line.Open conn (Did (Ask conn rate FailsBefore) (AskRefused Keep)))
failed_says conn rate low is = record {
  json = failed_json conn rate;
  read = read_back (failed_json conn rate) (failed_plain conn rate low) (omega arith);
  unique = failed_unique conn rate;
  is = failed_back conn rate low is;
}

-- the members of a step
abbrev step_members : (port : ℕ) → Entry → Members
step_members port entry =
    with_member of.Port (number_json port) (with_member of.Place (number_json entry.place) (with_member of.Caller (number_json entry.caller)
    (with_member of.Input (input_json entry.input) (with_member of.Reply (reply_json entry.reply) no_members))))

-- a step with the number of a cell before them
abbrev cell_json : (port cell : ℕ) → Entry → Json
cell_json port cell entry = object (with_member of.Cell (number_json cell) (step_members port entry))

-- so it is written
cell_text : (port cell : ℕ) (entry : Entry) →
    print (json_tokens (cell_json port cell entry)) ≡ codes "{\"cell\":" ++ (decimal cell ++ (codes "," ++ drop 1 (step_text port entry)))
unfolding print_from escape_byte
cell_text port cell entry = refl

input_depth : (came : PortInput) → depth (input_json came) ≤ 2
input_depth (input.Request q) = omega arith
input_depth (input.Answer a) = omega arith
input_depth (input.Arrive vc at) = omega arith
input_depth (input.Capacity units) = omega arith

reply_depth : (replied : PortReply) → depth (reply_json replied) ≤ 2
reply_depth (reply.Requested onward.Pass) = omega arith
reply_depth (reply.Requested (onward.Refuse a)) = omega arith
reply_depth (reply.Requested (onward.Drop cause)) = omega arith
reply_depth (reply.Answered back.Pass) = omega arith
reply_depth (reply.Answered (back.Drop cause)) = omega arith
reply_depth (reply.Arrived (Ok v)) = omega arith
reply_depth (reply.Arrived (Err why)) = omega arith
reply_depth (reply.Capped (Ok set)) = omega arith
reply_depth (reply.Capped (Err why)) = omega arith

step_depth : (port : ℕ) (entry : Entry) → depth (step_json port entry) ≤ max_depth
step_depth port entry = omega (arith, input_depth entry.input, reply_depth entry.reply)

cell_depth : (port cell : ℕ) (entry : Entry) → depth (cell_json port cell entry) ≤ max_depth
cell_depth port cell entry = omega (arith, input_depth entry.input, reply_depth entry.reply)

cell_plain : (port cell : ℕ) (entry : Entry) → port < 2 ^ 16 → cell < 2 ^ 64 → IsStep entry → IsPlainJson (cell_json port cell entry)
cell_plain port cell entry low fits is = (name_utf8 of.Cell, (cell, fits, refl), step_plain port entry low is)

-- a text has one value
one_value : (text : Text) (a b : Json) → document text ≡ Some a → document text ≡ Some b → a ≡ b
one_value text a b is also = ap (λ (o : Option Json). unwrap_or o a) (sym is ∙ also)

-- What is known of the value of a step.
record IsKnown (port : ℕ) (entry : Entry) : Type 0 where
  unique : HasUniqueKeys (step_json port entry)
  is : line_in (step_json port entry) ≡ Ok (line.Port port entry)

known : (port : ℕ) (entry : Entry) → port < 2 ^ 16 → IsStep entry → IsKnown port entry
known port entry low is =
    let says = step_says port entry low is in
    let same : says.json ≡ step_json port entry = one_value _ _ _ says.read (read_back (step_json port entry) (step_plain port entry low is) (step_depth port entry)) in
    record {
      unique = subst HasUniqueKeys same says.unique;
      is = subst (λ (j : Json). line_in j ≡ Ok (line.Port port entry)) same says.is;
    }

cell_says : (port cell : ℕ) (entry : Entry) → port < 2 ^ 16 → cell < 2 ^ 64 → IsStep entry → Says (print (json_tokens (cell_json port cell entry))) (line.Port port entry)
cell_says port cell entry low fits is =
    let step = known port entry low is in
    record {
      json = cell_json port cell entry;
      read = read_back (cell_json port cell entry) (cell_plain port cell entry low fits is) (cell_depth port cell entry);
      unique = (distinct_names (of.Cell ∷ of.Port ∷ of.Place ∷ of.Caller ∷ of.Input ∷ of.Reply ∷ []) refl, (tt, step.unique.1));
      is = step.is;
    }

-- the line of a step, and that of a cell
step_line_read : (port : ℕ) (entry : Entry) (cell : Option ℕ) → port < 2 ^ 16 → IsStep entry → IfSome cell (λ n. n < 2 ^ 64) →
    (octets : Text) × (switch_line port entry cell ≡ octets ++ newline) × IsReadAs octets (line.Port port entry)
step_line_read port entry None low is fits = (
  step_text port entry,
  refl,
  printed (step_json port entry) (line.Port port entry) (step_plain port entry low is) (step_says port entry low is),
)
step_line_read port entry (Some cell) low is fits =
    let tail = drop 1 (step_text port entry) in (
      print (json_tokens (cell_json port cell entry)),
      sym (ap (λ t. t ++ newline) (cell_text port cell entry) ∙ ap (λ t. codes "{\"cell\":" ++ t) (append_assoc (decimal cell) (codes "," ++ tail) newline)),
      printed (cell_json port cell entry) (line.Port port entry) (cell_plain port cell entry low fits is) (cell_says port cell entry low fits is),
    )

pub steps_are_read : StepsAreRead
steps_are_read [] fit = refl
steps_are_read (step ∷ steps) fit =
    let first = All-head FitsPortLine step steps fit in
    let read = step_line_read step.id step.entry step.cell first.port first.entry first.cell in
    let rest = ports.lines_text steps in (
      read.0,
      rest,
      ap (λ t. t ++ rest) read.1 ∙ append_assoc read.0 newline rest,
      read.2,
      steps_are_read steps (All-tail FitsPortLine step steps fit),
    )

source_line_read : (conn : ℕ) (one : JournalLine) → conn < 2 ^ 16 → FitsSourceLine conn one →
    (octets : Text) × (line_text conn one ≡ octets ++ newline) × IsReadAs octets (source_read conn one)
source_line_read conn (About rate) low fits = absurd fits
source_line_read conn (Open rate) low fits = (
  print (json_tokens (failed_json conn rate)),
  refl,
  printed (failed_json conn rate) (source_read conn (Open rate)) (failed_plain conn rate low) (failed_says conn rate low fits),
)
source_line_read conn (Deed event outcome) low fits = (
  print (json_tokens (entry_json conn (Did event outcome))),
  refl,
  printed (entry_json conn (Did event outcome)) (line.Source conn (Did event outcome)) (entry_plain conn (Did event outcome) low fits) (entry_says conn (Did event outcome) low fits),
)

pub deeds_are_read : DeedsAreRead
deeds_are_read conn [] low fit = refl
deeds_are_read conn (one ∷ lines) low fit =
    let read = source_line_read conn one low (All-head (FitsSourceLine conn) one lines fit) in
    let rest = lines_text conn lines in (
      read.0,
      rest,
      ap (λ t. t ++ rest) read.1 ∙ append_assoc read.0 newline rest,
      read.2,
      deeds_are_read conn lines low (All-tail (FitsSourceLine conn) one lines fit),
    )
