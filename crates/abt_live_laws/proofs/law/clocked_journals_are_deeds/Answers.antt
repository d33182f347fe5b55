-- A run of steps at the moments of a clock writes its deeds.
use Rattle.abt_live_laws.proofs.JournalDeeds as deeds
use Rattle.abt_live_laws.proofs.law.clocked_journals_are_deeds.Goals as goal

pub returns : goal.returns
returns g c = deeds.clocked_journals_are_deeds g.row.K.Denot g.N.NanoClock.reads g.J.Write.contents
