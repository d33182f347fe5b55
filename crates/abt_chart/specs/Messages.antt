-- Which message an event sent, and which it brought (docs/PICTURES.md, "Messages").
use Rattle.std.specs.Prelude.{ℕ, ◌+◌, ◌-◌, nat_lt, if◌then◌else◌, Bool, true, false, Option, None, Some}
use Rattle.abt_node.specs.declared.reply.Back.TheVariants as back
use Rattle.abt_node.specs.declared.reply.Onward.TheVariants as onward
use Rattle.abt_model.specs.declared.event.Event.{Event}
use Rattle.abt_model.specs.declared.event.Event.TheVariants.{Ask, Again, Request, Turn, Answer, Told}
use Rattle.abt_model.specs.declared.outcome.Outcome.{Outcome}
use Rattle.abt_model.specs.declared.outcome.Outcome.TheVariants.{Asked, Repeated, Requested, Turned, Answered, Told as HasTold}
use Rattle.abt_chart.specs.declared.message.Kind.{Kind}
use Rattle.abt_chart.specs.declared.message.Kind.TheVariants as kind
use Rattle.abt_chart.specs.declared.message.Stop.{Stop}
use Rattle.abt_chart.specs.declared.message.Stop.TheVariants.{Source, Hop, End}
use Rattle.abt_chart.specs.declared.message.Message.{Message}

-- a request, and an answer, to a stop
abbrev pub request_to : ℕ → Stop → ℕ → Message
request_to c stop seq = record { conn = c; kind = kind.Request; stop = stop; seq = seq }

abbrev pub answer_kind : Bool → Kind
answer_kind true = kind.Yes
answer_kind false = kind.No

abbrev pub answer_to : ℕ → Stop → ℕ → Bool → Message
answer_to c stop seq granted = record { conn = c; kind = answer_kind granted; stop = stop; seq = seq }

-- the stop before a hop, and that behind a hop of so many
abbrev pub stop_before : ℕ → Stop
stop_before hop = if nat_lt 1 hop then Hop (hop - 1) else Source

abbrev pub stop_after : (hops hop : ℕ) → Stop
stop_after hops hop = if nat_lt hop hops then Hop (hop + 1) else End

-- a source that asks, or asks again, sends its request to the first hop
abbrev pub sent_by_ask : ℕ → Outcome → Option Message
sent_by_ask c (Asked request) = Some (request_to c (Hop 1) request.seq)
sent_by_ask c outcome = None

abbrev pub sent_by_again : ℕ → Outcome → Option Message
sent_by_again c (Repeated request) = Some (request_to c (Hop 1) request.seq)
sent_by_again c outcome = None

-- a hop passes a request on, or sends its no back
abbrev pub sent_by_request : (c hops hop seq : ℕ) → Outcome → Option Message
sent_by_request c hops hop seq (Requested onward.Pass) = Some (request_to c (stop_after hops hop) seq)
sent_by_request c hops hop seq (Requested (onward.Refuse answer)) = Some (answer_to c (stop_before hop) seq false)
sent_by_request c hops hop seq outcome = None

-- the end of a path of so many hops sends a yes to the last of them
abbrev pub sent_by_turn : (c hops seq : ℕ) → Outcome → Option Message
sent_by_turn c hops seq Turned = Some (answer_to c (Hop hops) seq true)
sent_by_turn c hops seq outcome = None

-- a hop passes an answer back
abbrev pub sent_by_answer : (c hop seq : ℕ) → Bool → Outcome → Option Message
sent_by_answer c hop seq granted (Answered back.Pass) = Some (answer_to c (stop_before hop) seq granted)
sent_by_answer c hop seq granted outcome = None

-- the message that an event sent, by its outcome; a cell is no message
abbrev pub sent_by : (hops : ℕ) → Event → Outcome → Option Message
sent_by hops (Ask c rate plan) outcome = sent_by_ask c outcome
sent_by hops (Again c) outcome = sent_by_again c outcome
sent_by hops (Request c hop seq) outcome = sent_by_request c hops hop seq outcome
sent_by hops (Turn c seq) outcome = sent_by_turn c hops seq outcome
sent_by hops (Answer c hop seq granted) outcome = sent_by_answer c hop seq granted outcome
sent_by hops event outcome = None

abbrev pub brought_by_request : (c hop seq : ℕ) → Outcome → Option Message
brought_by_request c hop seq (Requested reply) = Some (request_to c (Hop hop) seq)
brought_by_request c hop seq outcome = None

-- a request comes to the end of its path
abbrev pub brought_by_turn : (c seq : ℕ) → Outcome → Option Message
brought_by_turn c seq Turned = Some (request_to c End seq)
brought_by_turn c seq outcome = None

abbrev pub brought_by_answer : (c hop seq : ℕ) → Bool → Outcome → Option Message
brought_by_answer c hop seq granted (Answered reply) = Some (answer_to c (Hop hop) seq granted)
brought_by_answer c hop seq granted outcome = None

abbrev pub brought_by_told : (c seq : ℕ) → Bool → Outcome → Option Message
brought_by_told c seq granted (HasTold heard) = Some (answer_to c Source seq granted)
brought_by_told c seq granted outcome = None

-- the message that an event brought to where it happened, if it could happen
abbrev pub brought_by : Event → Outcome → Option Message
brought_by (Request c hop seq) outcome = brought_by_request c hop seq outcome
brought_by (Turn c seq) outcome = brought_by_turn c seq outcome
brought_by (Answer c hop seq granted) outcome = brought_by_answer c hop seq granted outcome
brought_by (Told c seq granted) outcome = brought_by_told c seq granted outcome
brought_by event outcome = None
