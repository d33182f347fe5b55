-- Runs of live processes.
use Rattle.std.specs.Prelude.{List, [], ◌∷◌}
use Rattle.abt_net.specs.Topology.{Topology}
use Rattle.abt_processes.specs.Moves.{Moves}
use Rattle.abt_processes.specs.Processes.{Processes, opening_of}

-- each of these is what the one before becomes by a move
abbrev pub AreMoves : Topology → Processes → List Processes → Type 0
AreMoves net old [] = Unit {0}
AreMoves net old (new ∷ later) = Moves net old new × AreMoves net new later

-- these are the states of a run from the beginning on
abbrev pub IsRun : Topology → List Processes → Type 0
IsRun net states = AreMoves net (opening_of net) states
