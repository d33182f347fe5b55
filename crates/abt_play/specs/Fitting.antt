-- Scripts and operations that can be played over a net, as they can be carried out in threads.
use Rattle.std.specs.Prelude.{ℕ, List}
use Rattle.abt_links.specs.Operations.{AreForPorts}
use Rattle.abt_links.specs.Runs.{ScriptsFit}
use Rattle.abt_model.specs.declared.script_command.Command.{Command}
use Rattle.abt_net.specs.Topology.{Topology}
use Rattle.abt_play.specs.declared.fault.PlayFault.{PlayFault}
use Rattle.abt_play.specs.declared.fault.PlayFault.TheVariants.{Scripts, Operator, Stopped}

pub record CanPlay (net : Topology) (scripts : List (List Command)) (operations : List (ℕ × ℕ)) : Type 0 where
  pub scripts_fit : ScriptsFit net.conns scripts
  pub ports : AreForPorts net operations

-- why there is no play: the first of these that applies
abbrev pub IsWhyNone : Topology → List (List Command) → List (ℕ × ℕ) → PlayFault → Type 0
IsWhyNone net scripts operations Scripts = ¬ ScriptsFit net.conns scripts
IsWhyNone net scripts operations Operator = ScriptsFit net.conns scripts × (¬ AreForPorts net operations)
IsWhyNone net scripts operations (Stopped why) = CanPlay net scripts operations
