-- What holds of a net whatever happened to it (docs/GUARANTEES.md, "The headline").
use Rattle.abt_net.specs.Topology.{Topology}
use Rattle.abt_model.specs.Past.{Past}
use Rattle.abt_model.specs.Safe.{IsSafe}
use Rattle.abt_model.specs.Promises.{NeverDisputes, OneAnswerEach, RatesWait, YesStandsEverywhere, ArrivalsConform, NextIsDue, StoreCovers}

-- The headline, and what stands beside it: sources and ports never dispute a message, no number has both a yes and a no, rates
-- wait for a yes that stands at every hop, each cell that arrives is found conforming and leaves the next one time, and what a
-- source's store keeps covers each gap that may be running.
pub record HeadlineHolds (net : Topology) (past : Past) : Type 0 where
  pub safe : IsSafe net past
  pub drops : NeverDisputes net past
  pub answers : OneAnswerEach net past
  pub floors : RatesWait net past
  pub raised : YesStandsEverywhere net past
  pub verdicts : ArrivalsConform net past
  pub due : NextIsDue net past
  pub stores : StoreCovers net past
