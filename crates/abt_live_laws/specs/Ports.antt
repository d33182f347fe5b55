-- What a step of a switch is to live processes together (docs/LIVE.md, "The law").
use Rattle.std.specs.Prelude.{◌≡◌, ◌⊎◌, ℕ, [], ◌∷◌, ◌++◌, length, slice_get, Option, Some}
use Rattle.std.specs.Io.KnownBytes.{Appends}
use Rattle.abt_text.specs.Text.{Text}
use Rattle.abt_cell.specs.declared.message.Rm.{Rm}
use Rattle.abt_cell.specs.declared.message.Rm.TheVariants as rm
use Rattle.abt_net.specs.Topology.{Topology}
use Rattle.abt_journal.specs.declared.entry.Entry.{Entry}
use Rattle.abt_journal.specs.declared.input.PortInput.{PortInput}
use Rattle.abt_journal.specs.declared.input.PortInput.TheVariants.{Request, Answer, Arrive, Capacity}
use Rattle.abt_journal.specs.Replay.{reply_by}
use Rattle.abt_processes.specs.Ports.{Replies, Serves}
use Rattle.abt_processes.specs.Processes.{AccessLine, Processes}
use Rattle.abt_live.specs.declared.live_port.LivePort.{LivePort}
use Rattle.abt_live.specs.declared.switch.SwitchLines.{SwitchLines}
use Rattle.abt_live.specs.declared.switch_asked.SwitchAsked.TheVariants.{Step}
use Rattle.abt_live.specs.Ports.{switch_line}
use Rattle.abt_live.specs.Said.{capped_text, judged_text, next_text}
use Rattle.abt_live.specs.Switch.{Does}

-- a port of a switch is that of its number
pub record IsPortIn (processes : Processes) (live : LivePort) : Type 0 where
  pub table : (processes.ports live.id).table ≡ live.port
  pub steps : length (processes.ports live.id).journal ≡ live.steps

-- A server of lines has some ports of the net, each once.
pub record IsSwitchIn {J : Type 0} (net : Topology) (processes : Processes) (server : SwitchLines J) : Type 0 where
  pub net_is : server.net.now ≡ net
  pub ports : (place : ℕ) (live : LivePort) → slice_get server.ports.items place ≡ Some live → IsPortIn processes live
  pub once : (p q : ℕ) (a b : LivePort) → slice_get server.ports.items p ≡ Some a → slice_get server.ports.items q ≡ Some b → a.id ≡ b.id → p ≡ q

-- A port serves a message, what follows is sent, and that is said.
pub record SaysNext (net : Topology) (before after : Processes) (port : ℕ) (message : Rm) (said : Text) : Type 0 where
  pub replies : Replies net before after port message
  pub says : said ≡ next_text replies.next

-- It serves a cell or a capacity, and its reply is said.
pub record SaysReply (before after : Processes) (port : ℕ) (input : PortInput) (said reply : Text) : Type 0 where
  pub serves : Serves before after port input
  pub sent : after.sent ≡ before.sent
  pub says : said ≡ reply

abbrev pub HasServed : Topology → (before after : Processes) → (port : ℕ) → PortInput → (said : Text) → Type 0
HasServed net before after port (Request request) said = SaysNext net before after port (rm.Request request) said
HasServed net before after port (Answer answer) said = SaysNext net before after port (rm.Answer answer) said
HasServed net before after port (Arrive vc at) said = SaysReply before after port (Arrive vc at) said (judged_text (reply_by (before.ports port).table (Arrive vc at)))
HasServed net before after port (Capacity units) said = SaysReply before after port (Capacity units) said (capped_text (reply_by (before.ports port).table (Capacity units)))

-- A port of a switch did what moves have ports do, whatever became of access lines, and the switch's journal got the line of the step alone.
pub record IsPortMove {J : Type 0} (contents : J → Option Text) (net : Topology) (before : Processes) (lines : ℕ → AccessLine) (old new : SwitchLines J) (id : ℕ) (input : PortInput) (cell : Option ℕ) (said : Text) : Type 0 where
  pub after : Processes
  pub served : HasServed net before after id input said
  pub lines_are : after.lines ≡ lines
  pub switch : IsSwitchIn net after new
  pub entry : Entry
  pub journal : (after.ports id).journal ≡ (before.ports id).journal ++ entry ∷ []
  pub written : Appends (contents old.journal) (contents new.journal) (switch_line id entry cell)

-- No port did anything, and nothing was written.
pub record IsNoStep {J : Type 0} (contents : J → Option Text) (old new : SwitchLines J) : Type 0 where
  pub same : new.ports.items ≡ old.ports.items
  pub silent : Appends (contents old.journal) (contents new.journal) []

-- A step of a switch over a line that brings something to a port is what moves have the port do, or nothing.
abbrev pub SwitchesServe : {J : Type 0} → (contents : J → Option Text) → Type 0
SwitchesServe {J = J} contents =
    (net : Topology) (before : Processes) (lines : ℕ → AccessLine) (old new : SwitchLines J) (id : ℕ) (input : PortInput) (cell : Option ℕ) (said : Text) → IsSwitchIn net before old → Does contents old (Step id input cell) said new
    → IsPortMove contents net before lines old new id input cell said ⊎ IsNoStep contents old new
