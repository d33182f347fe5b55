-- A step of a source is a move.
use Rattle.abt_live_laws.proofs.SourceMoves as moves
use Rattle.abt_live_laws.proofs.law.source_steps_are_moves.Goals as goal

pub returns : goal.returns
returns g c = moves.sources_move g.row.K.Denot g.J.Write.contents
