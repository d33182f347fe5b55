-- A run of steps writes its deeds.
use Rattle.abt_live_laws.proofs.JournalDeeds as deeds
use Rattle.abt_live_laws.proofs.law.journals_are_deeds.Goals as goal

pub returns : goal.returns
returns g c = deeds.journals_are_deeds g.row.K.Denot g.J.Write.contents
