-- What follows a port's reply lies where it was sent to. Events are listed with the newest first.
use Rattle.std.specs.Prelude.{◌≡◌, ℕ, List, ◌∷◌, Some}
use Rattle.abt_cell.specs.declared.message.Rm.{Rm}
use Rattle.abt_net.specs.declared.conn.Conn.{Conn}
use Rattle.abt_net.specs.Topology.{Topology, conn_at}
use Rattle.abt_net.specs.Paths.{hop_of}
use Rattle.abt_model.specs.declared.event.Event.{Event}
use Rattle.abt_model.specs.Past.{Past}
use Rattle.abt_journal.specs.declared.input.PortReply.{PortReply}
use Rattle.abt_journal.specs.declared.next_message.Next.{Next}
use Rattle.abt_journal.specs.declared.next_message.Next.TheVariants.{Send, Tell, Nothing}
use Rattle.abt_journal.specs.Following.{channel_of, sent_after}
use Rattle.abt_weave.specs.Projections.{past_of, visit}
use Rattle.abt_serving.specs.Messages.{Lies, LiesHome, input_of}

-- what is sent next lies at the port or the source that it is for
abbrev pub IsLeft : Topology → Past → Next → Type 0
IsLeft net past (Send port message) = Lies net past port message
IsLeft net past (Tell c answer) = LiesHome net past c answer
IsLeft net past Nothing = Unit {0}

-- What follows a reply to a message, by its connection and the port's place on that path, is left then.
abbrev pub FollowsOn : Topology → Past → (port : ℕ) → Rm → PortReply → Type 0
FollowsOn net past port message reply =
    (c : ℕ) (conn : Conn) → conn_at net c ≡ Some conn → conn.vc ≡ channel_of message →
    IsLeft net past (sent_after conn.path c (hop_of conn.path port) message reply)

-- After an event by which a message comes to a port, what follows the port's reply is left.
abbrev pub RepliesLead : Topology → List Event → Type 0
RepliesLead net earlier =
    (event : Event) (port : ℕ) (message : Rm) (reply : PortReply) →
    visit net (past_of net earlier) event ≡ Some (record { port = port; input = input_of message; reply = reply }) →
    FollowsOn net (past_of net (event ∷ earlier)) port message reply
