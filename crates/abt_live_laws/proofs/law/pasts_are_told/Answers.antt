-- A past that is read is what the lines tell, and a process begins so.
use Rattle.abt_live_laws.proofs.ToldPasts as told
use Rattle.abt_live_laws.proofs.law.pasts_are_told.Goals as goal

pub returns : goal.returns
returns c = record { told = told.pasts_are_told; begins = told.begins_so }
