-- Which fault is returned if states and seats aren't those of one run.
use Rattle.std.specs.Prelude.{List}
use Rattle.abt_net.specs.Topology.{Topology}
use Rattle.abt_journal.specs.Journaled.{Journaled}
use Rattle.abt_journal.specs.Receipts.{Seated}
use Rattle.abt_journal.specs.declared.gather_fault.GatherFault.{GatherFault}
use Rattle.abt_journal.specs.declared.gather_fault.GatherFault.TheVariants.{Foreign, Count, Missing, Memory}
use Rattle.abt_journal.specs.Foreign.{AreOfNet, IsFirstForeign}
use Rattle.abt_journal.specs.Gathered.{journals_of, CountsFit}
use Rattle.abt_journal.specs.Missing.{IsFirstMissing}

-- The fault applies, and none before it. Of want of memory, which is looked for first, the lists say nothing.
abbrev pub IsFirstFault : Topology → List Journaled → List Seated → GatherFault → Type 0
IsFirstFault net states seats (Foreign port) = IsFirstForeign net states port
IsFirstFault net states seats Count = AreOfNet net states × ¬ CountsFit (journals_of states) seats
IsFirstFault net states seats (Missing port place) =
    AreOfNet net states × CountsFit (journals_of states) seats × IsFirstMissing (journals_of states) seats port place
IsFirstFault net states seats Memory = Unit {0}
