-- The steps of a switch over lines (docs/LIVE.md, "A switch").
use Rattle.std.specs.Prelude.{◌≡◌, ◌⊎◌, ℕ, ◌==◌, Bool, true, false, List, [], position, slice_get, slice_set, Option, Some, None}
use Rattle.std.specs.Io.KnownBytes.{Appends}
use Rattle.abt_text.specs.Text.{Text}
use Rattle.abt_net.specs.Topology.{Topology}
use Rattle.abt_journal.specs.declared.input.PortInput.{PortInput}
use Rattle.abt_journal.specs.Replay.{reply_by}
use Rattle.abt_lines.specs.Runs.{Steps}
use Rattle.abt_live.specs.declared.fault.LiveFault.{LiveFault}
use Rattle.abt_live.specs.declared.fault.LiveFault.TheVariants.{Port, UnknownVc}
use Rattle.abt_live.specs.declared.live_port.LivePort.{LivePort}
use Rattle.abt_live.specs.declared.switch.SwitchLines.{SwitchLines}
use Rattle.abt_live.specs.declared.switch_asked.SwitchAsked.{SwitchAsked}
use Rattle.abt_live.specs.declared.switch_asked.SwitchAsked.TheVariants.{Step, Wrong}
use Rattle.abt_live.specs.Faults.{fault_line}
use Rattle.abt_live.specs.Ports.{entry_at, knows, past_step, switch_line}
use Rattle.abt_live.specs.Said.{IsSaid}
use Rattle.abt_live.specs.SwitchAsked.{asked_on}

-- the place of the port of a number, if the switch has it
abbrev pub place_of : List LivePort → (id : ℕ) → Option ℕ
place_of ports id = position (λ live. live.id == id) ports

-- The port of a number stands at a place, and knows the connection of an input, or doesn't.
pub record Finds (ports : List LivePort) (id : ℕ) (input : PortInput) (live : LivePort) (place : ℕ) (known : Bool) : Type 0 where
  pub at : place_of ports id ≡ Some place
  pub is : slice_get ports place ≡ Some live
  pub knows : knows live.port input ≡ known

abbrev pub Takes : List LivePort → (id : ℕ) → PortInput → LivePort → (place : ℕ) → Type 0
Takes ports id input live place = Finds ports id input live place true

-- Why no port takes an input.
abbrev pub Refuses : List LivePort → (id : ℕ) → PortInput → LiveFault → Type 0
Refuses ports id input Port = place_of ports id ≡ None
Refuses ports id input UnknownVc = (live : LivePort) × (place : ℕ) × Finds ports id input live place false
Refuses ports id input other = ⊥

-- A line with a fault is answered by it. Nothing else happens.
pub record IsFaulty (fault : LiveFault) (ports : List LivePort) (said written : Text) (new : List LivePort) : Type 0 where
  pub says : said ≡ fault_line fault
  pub silent : written ≡ []
  pub same : new ≡ ports

-- A port did a step: what is sent then is said, its entry is written, and the other ports stay.
pub record IsServed (net : Topology) (ports : List LivePort) (id : ℕ) (input : PortInput) (cell : Option ℕ) (said written : Text)
    (new : List LivePort) : Type 0 where
  pub live : LivePort
  pub place : ℕ
  pub takes : Takes ports id input live place
  pub says : IsSaid net id input (reply_by live.port input) said
  pub entry : written ≡ switch_line id (entry_at live input) cell
  pub past : new ≡ slice_set ports place (past_step live input)

-- what was asked for is done: this is said, and this is written into the journal before that
abbrev pub IsDone : Topology → List LivePort → SwitchAsked → (said written : Text) → (new : List LivePort) → Type 0
IsDone net ports (Step id input cell) said written new =
    IsServed net ports id input cell said written new
    ⊎ ((fault : LiveFault) × Refuses ports id input fault × IsFaulty fault ports said written new)
IsDone net ports (Wrong fault) said written new = IsFaulty fault ports said written new

-- What was asked for is done, and what it writes is in the journal.
pub record Does {J : Type 0} (contents : J → Option Text) (old : SwitchLines J) (asked : SwitchAsked) (said : Text) (new : SwitchLines J) : Type 0 where
  pub written : Text
  pub done : IsDone old.net.now old.ports.items asked said written new.ports.items
  pub journal : Appends (contents old.journal) (contents new.journal) written
  pub net : new.net.now ≡ old.net.now

-- the steps of a switch
abbrev pub SwitchesLine : {J : Type 0} → (contents : J → Option Text) → Steps (SwitchLines J)
SwitchesLine contents old number line said new = Does contents old (asked_on line) said new
