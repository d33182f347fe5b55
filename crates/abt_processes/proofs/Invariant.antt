-- What holds of live processes after each move: there are events that are what they did, and all that is on its way lies there.
use Rattle.std.proofs.Common.{◌≡◌, ℕ, List, Some}
use Rattle.abt_net.specs.declared.conn.Conn.{Conn}
use Rattle.abt_net.specs.Topology.{Topology, conn_at}
use Rattle.abt_model.specs.declared.event.Event.{Event}
use Rattle.abt_model.specs.Past.{facts_of}
use Rattle.abt_journal.specs.declared.entry.Entry.{Entry}
use Rattle.abt_journal.specs.declared.next_message.Next.{Next}
use Rattle.abt_weave.specs.Projections.{past_of}
use Rattle.abt_serving.specs.Followed.{IsLeft}
use Rattle.abt_processes.specs.Lists.{IsIn}
use Rattle.abt_processes.specs.Processes.{Processes}
use Rattle.abt_processes.specs.Events.{AreEventsOf}
use Rattle.abt_processes.specs.Safe.{IsFoundConforming}
use Rattle.abt_processes.proofs.Lines.{IsLineOf}

pub record Stands (net : Topology) (earlier : List Event) (processes : Processes) : Type 0 where
  pub events : AreEventsOf net earlier processes
  pub lines : (c : ℕ) (conn : Conn) → conn_at net c ≡ Some conn → IsLineOf conn.vc (facts_of c (past_of net earlier)) (processes.lines c)
  pub sent : (n : Next) → IsIn n processes.sent → IsLeft net (past_of net earlier) n
  pub judged : (port : ℕ) (entry : Entry) → IsIn entry (processes.ports port).journal → IsFoundConforming entry.input entry.reply
