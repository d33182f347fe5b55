-- What a switch says once a port replied (docs/LIVE.md, "A switch").
use Rattle.std.specs.Prelude.{◌≡◌, ◌≢◌, ℕ, codes, Some, Ok}
use Rattle.abt_cell.specs.declared.message.Rm.{Rm}
use Rattle.abt_cell.specs.declared.message.Rm.TheVariants as rm
use Rattle.abt_gcra.specs.declared.verdict.Verdict.TheVariants.{Conforming}
use Rattle.abt_net.specs.Paths.{hop_of}
use Rattle.abt_net.specs.Topology.{Topology, conn_at, channel_at}
use Rattle.abt_net.specs.declared.conn.Conn.{Conn}
use Rattle.abt_journal.specs.declared.input.PortInput.{PortInput}
use Rattle.abt_journal.specs.declared.input.PortInput.TheVariants.{Request, Answer, Arrive, Capacity}
use Rattle.abt_journal.specs.declared.input.PortReply.{PortReply}
use Rattle.abt_journal.specs.declared.input.PortReply.TheVariants.{Arrived, Capped}
use Rattle.abt_journal.specs.declared.next_message.Next.{Next}
use Rattle.abt_journal.specs.declared.next_message.Next.TheVariants.{Send, Tell, Nothing}
use Rattle.abt_journal.specs.Following.{channel_of, sent_after}
use Rattle.abt_perform.specs.CellText.{message_hex}
use Rattle.abt_text.specs.Text.{Text, ◌⋅◌, newline, decimal}

-- `send P HEX`, `tell C HEX` or `nothing`
abbrev pub next_text : Next → Text
next_text (Send port message) = codes "send " ⋅ decimal port ⋅ codes " " ⋅ message_hex message ⋅ newline
next_text (Tell conn answer) = codes "tell " ⋅ decimal conn ⋅ codes " " ⋅ message_hex (rm.Answer answer) ⋅ newline
next_text Nothing = codes "nothing\n"

-- What becomes of a message once a port replied to it, by the rule that workers go by (docs/RULES.md, "Path").
pub record IsSent (net : Topology) (port : ℕ) (message : Rm) (reply : PortReply) (next : Next) : Type 0 where
  pub on_path : (c : ℕ) (conn : Conn) → conn_at net c ≡ Some conn → conn.vc ≡ channel_of message → hop_of conn.path port ≢ 0
      → next ≡ sent_after conn.path c (hop_of conn.path port) message reply
  pub off_path : (c : ℕ) (conn : Conn) → conn_at net c ≡ Some conn → conn.vc ≡ channel_of message → hop_of conn.path port ≡ 0
      → next ≡ Nothing
  pub unknown : ((c : ℕ) → channel_at net.conns c ≢ Some (channel_of message)) → next ≡ Nothing

abbrev pub IsNext : Topology → (port : ℕ) → Rm → PortReply → Text → Type 0
IsNext net port message reply said = (next : Next) × IsSent net port message reply next × (said ≡ next_text next)

-- the answer to a data cell
abbrev pub judged_text : PortReply → Text
judged_text (Arrived (Ok Conforming)) = codes "conforming\n"
judged_text other = codes "rejected\n"

-- the answer to a new capacity
abbrev pub capped_text : PortReply → Text
capped_text (Capped (Ok set)) = codes "nothing\n"
capped_text other = codes "rejected\n"

-- what is said once a port replied to an input
abbrev pub IsSaid : Topology → (port : ℕ) → PortInput → PortReply → Text → Type 0
IsSaid net port (Request request) reply said = IsNext net port (rm.Request request) reply said
IsSaid net port (Answer answer) reply said = IsNext net port (rm.Answer answer) reply said
IsSaid net port (Arrive vc at) reply said = said ≡ judged_text reply
IsSaid net port (Capacity units) reply said = said ≡ capped_text reply
