-- A step of a switch is what a move has a port do.
use Rattle.abt_live_laws.proofs.PortMoves as moves
use Rattle.abt_live_laws.proofs.law.switch_steps_are_moves.Goals as goal

pub returns : goal.returns
returns g c = moves.switches_serve g.J.Write.contents
