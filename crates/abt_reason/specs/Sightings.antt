-- Where the messages of a net lie: what was sent may be delivered any number of times, so a message lies where it was sent last.
use Rattle.std.specs.Prelude.{◌≡◌, ℕ, ◌+◌, ◌-◌, ◌==◌, nat_lt, nat_eq, Bool, true, false, List, [], ◌∷◌, length, Option, None, Some, option_map, if◌then◌else◌, ◌&&◌}
use Rattle.std.specs.Map.{lookup}
use Rattle.abt_facts.specs.declared.fact.Fact.{Fact}
use Rattle.abt_facts.specs.declared.fact.Fact.TheVariants as fact
use Rattle.abt_model.specs.declared.event.Event.{Event}
use Rattle.abt_model.specs.declared.event.Event.TheVariants.{Ask, Request, Turn, Answer, Told}
use Rattle.abt_model.specs.declared.outcome.Outcome.{Outcome}
use Rattle.abt_model.specs.declared.outcome.Outcome.TheVariants.{Asked, Requested, Turned, Answered}
use Rattle.abt_model.specs.Outcomes.{conn_of}
use Rattle.abt_model.specs.Past.{Past, facts_of}
use Rattle.abt_net.specs.declared.conn.Conn.{Conn}
use Rattle.abt_net.specs.Topology.{Topology, conn_at}
use Rattle.abt_node.specs.declared.reply.Back.TheVariants as back
use Rattle.abt_node.specs.declared.reply.Onward.TheVariants as onward
use Rattle.abt_reason.specs.declared.sighting.Sighting.{Sighting}
use Rattle.abt_reason.specs.declared.sighting.Posted.{Posted}
use Rattle.abt_reason.specs.declared.sighting.Sent.{Sent}
use Rattle.abt_reason.specs.declared.sighting.Sought.{Sought}

-- what takes a request on from a hop; at the end of the path it is turned into a yes
abbrev pub request_from : (c hops hop seq : ℕ) → Event
request_from c hops hop seq = if nat_lt hops hop then Turn c seq else Request c hop seq

-- request seq of connection c lies at this hop
abbrev pub request_at : (c hops hop seq : ℕ) → Sighting
request_at c hops hop seq = record { at = hop; next = request_from c hops hop seq }

-- what takes an answer on from a hop; the source, which is hop 0, hears it
abbrev pub answer_from : (c hop seq : ℕ) → Bool → Event
answer_from c hop seq granted = if hop == 0 then Told c seq granted else Answer c hop seq granted

abbrev pub answer_at : (c hop seq : ℕ) → Bool → Sighting
answer_at c hop seq granted = record { at = hop; next = answer_from c hop seq granted }

-- a message of this number was sent, and lies there
abbrev pub sends : (seq : ℕ) → Sighting → Option Sent
sends seq sighting = Some (record { seq = seq; sighting = sighting })

-- the message of connection c, whose path has so many hops, that a fact sent, if it sent one
abbrev pub sent_in : (c hops : ℕ) → Fact → Option Sent
sent_in c hops (fact.Asked seq floor ask mark) = sends seq (request_at c hops 1 seq)
sent_in c hops (fact.Passed seq hop) = sends seq (request_at c hops (hop + 1) seq)
sent_in c hops (fact.Turned seq) = sends seq (answer_at c hops seq true)
sent_in c hops (fact.Back seq hop) = sends seq (answer_at c (hop - 1) seq true)
sent_in c hops (fact.Shut seq hop) = sends seq (answer_at c (hop - 1) seq false)
sent_in c hops fact = None

-- where the message of a number lies: where it was sent just then, or else where it lay before
abbrev pub newest : Option Sent → (seq : ℕ) → Option Sighting → Option Sighting
newest None seq before = before
newest (Some sent) seq before = if nat_eq sent.seq seq then Some sent.sighting else before

-- where the message of a number lies, by the facts of its connection, the newest first
abbrev pub lying_in : (c hops : ℕ) → List Fact → (seq : ℕ) → Option Sighting
lying_in c hops [] seq = None
lying_in c hops (fact ∷ facts) seq = newest (sent_in c hops fact) seq (lying_in c hops facts seq)

-- how many hops the path of a connection has, if the net has so many connections
abbrev pub hops_at : Topology → (c : ℕ) → Option ℕ
hops_at net c = option_map (λ (conn : Conn). length conn.path) (conn_at net c)

-- where the message of a number lies after the past of a net; nowhere, if the net has no such connection
abbrev pub lying_after : (c : ℕ) → Option ℕ → List Fact → (seq : ℕ) → Option Sighting
lying_after c None facts seq = None
lying_after c (Some hops) facts seq = lying_in c hops facts seq

abbrev pub lying : Topology → Past → (c seq : ℕ) → Option Sighting
lying net past c seq = lying_after c (hops_at net c) (facts_of c past) seq

-- the message that an event of connection c sends, by its outcome
abbrev pub sent_by : (c hops : ℕ) → Event → Outcome → Option Sent
sent_by c hops (Ask d rate plan) (Asked request) = sends request.seq (request_at c hops 1 request.seq)
sent_by c hops (Request d hop seq) (Requested onward.Pass) = sends seq (request_at c hops (hop + 1) seq)
sent_by c hops (Request d hop seq) (Requested (onward.Refuse answer)) = sends seq (answer_at c (hop - 1) seq false)
sent_by c hops (Turn d seq) Turned = sends seq (answer_at c hops seq true)
sent_by c hops (Answer d hop seq granted) (Answered back.Pass) = sends seq (answer_at c (hop - 1) seq granted)
sent_by c hops event outcome = None

-- the same with its connection; none of a connection that the net doesn't have
abbrev pub posted_as : (c : ℕ) → Option Sent → Option Posted
posted_as c None = None
posted_as c (Some sent) = Some (record { conn = c; sent = sent })

abbrev pub posted_at : (c : ℕ) → Event → Outcome → Option ℕ → Option Posted
posted_at c event outcome None = None
posted_at c event outcome (Some hops) = posted_as c (sent_by c hops event outcome)

abbrev pub posted_by : Topology → Event → Outcome → Option ℕ → Option Posted
posted_by net event outcome None = None
posted_by net event outcome (Some c) = posted_at c event outcome (hops_at net c)

-- the message that an event sends, by its outcome
abbrev pub posted : Topology → Event → Outcome → Option Posted
posted net event outcome = posted_by net event outcome (conn_of event)

-- whether two messages are of one connection and one number
abbrev pub same_message : (a b : ℕ × ℕ) → Bool
same_message a b = nat_eq a.0 b.0 && nat_eq a.1 b.1

-- where the message of a number of a connection lies: where it was posted just then, or else where it lay before
abbrev pub newest_of : Option Posted → (c seq : ℕ) → Option Sighting → Option Sighting
newest_of None c seq before = before
newest_of (Some posted) c seq before = if same_message (posted.conn, posted.sent.seq) (c, seq) then Some posted.sent.sighting else before

-- sightings of messages, by connection and number, in the order of their first ones
pub record SightingsView : Type 0 where
  pub entries : List ((ℕ × ℕ) × Sighting)

-- The sightings are those before, but for the message that was posted.
abbrev pub AreNext : Option Posted → (old new : SightingsView) → Type 0
AreNext posted old new = (c seq : ℕ) → lookup (same_message (c, seq)) new.entries ≡ newest_of posted c seq (lookup (same_message (c, seq)) old.entries)

-- The sightings are those of a past: each message that was sent has one, and no other.
abbrev pub AreSightings : Topology → Past → SightingsView → Type 0
AreSightings net past sightings = (c seq : ℕ) → lookup (same_message (c, seq)) sightings.entries ≡ lying net past c seq

-- the message that an event is to deliver, and where it lies
abbrev pub sought_at : (seq : ℕ) → Option Sighting → Option Sought
sought_at seq sighting = Some (record { seq = seq; sighting = sighting })

abbrev pub sought_of : Topology → Past → Event → Option Sought
sought_of net past (Request c hop seq) = sought_at seq (lying net past c seq)
sought_of net past (Turn c seq) = sought_at seq (lying net past c seq)
sought_of net past (Answer c hop seq granted) = sought_at seq (lying net past c seq)
sought_of net past (Told c seq granted) = sought_at seq (lying net past c seq)
sought_of net past event = None
