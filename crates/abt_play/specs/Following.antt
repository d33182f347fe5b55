-- What is sent after an event, by its outcome (docs/RULES.md, "Path"), as the event that it comes; at the end of a path that is the turn.
use Rattle.std.specs.Prelude.{ℕ, ◌+◌, ◌-◌, nat_lt, Bool, true, false, Option, Some, None, if◌then◌else◌}
use Rattle.abt_node.specs.declared.reply.Onward.TheVariants.{Pass, Refuse}
use Rattle.abt_node.specs.declared.reply.Back.TheVariants as reply_back
use Rattle.abt_model.specs.declared.event.Event.{Event}
use Rattle.abt_model.specs.declared.event.Event.TheVariants.{Ask, Again, Request, Turn, Answer, Told}
use Rattle.abt_model.specs.declared.outcome.Outcome.{Outcome}
use Rattle.abt_model.specs.declared.outcome.Outcome.TheVariants.{Asked, Repeated, Requested, Turned, Answered}

-- the request that a source sends, on its way to the first hop
abbrev pub request_of : (c : ℕ) → Outcome → Option Event
request_of c (Asked request) = Some (Request c 1 request.seq)
request_of c (Repeated request) = Some (Request c 1 request.seq)
request_of c other = None

-- a request that a hop passed goes to the next one, or is turned at the last
abbrev pub onward : (hops c hop seq : ℕ) → Event
onward hops c hop seq = if nat_lt hop hops then Request c (hop + 1) seq else Turn c seq

-- an answer goes from a hop to the one before, or from the first to its source
abbrev pub back : (c hop seq : ℕ) → (granted : Bool) → Event
back c hop seq granted = if nat_lt 1 hop then Answer c (hop - 1) seq granted else Told c seq granted

abbrev pub behind_request : (hops c hop seq : ℕ) → Outcome → Option Event
behind_request hops c hop seq (Requested Pass) = Some (onward hops c hop seq)
behind_request hops c hop seq (Requested (Refuse answer)) = Some (back c hop seq false)
behind_request hops c hop seq other = None

-- the yes of a request that was turned begins its way back at the last hop
abbrev pub behind_turn : (hops c seq : ℕ) → Outcome → Option Event
behind_turn hops c seq Turned = Some (Answer c hops seq true)
behind_turn hops c seq other = None

abbrev pub behind_answer : (c hop seq : ℕ) → Bool → Outcome → Option Event
behind_answer c hop seq granted (Answered reply_back.Pass) = Some (back c hop seq granted)
behind_answer c hop seq granted other = None

abbrev pub following : (hops : ℕ) → Event → Outcome → Option Event
following hops (Ask c rate plan) outcome = request_of c outcome
following hops (Again c) outcome = request_of c outcome
following hops (Request c hop seq) outcome = behind_request hops c hop seq outcome
following hops (Turn c seq) outcome = behind_turn hops c seq outcome
following hops (Answer c hop seq granted) outcome = behind_answer c hop seq granted outcome
following hops event outcome = None
