-- A run as events (docs/THREADS.md).
use Rattle.std.specs.Prelude.{◌≡◌, true, List}
use Rattle.abt_net.specs.Topology.{Topology}
use Rattle.abt_model.specs.declared.event.Event.{Event}
use Rattle.abt_model.specs.Traces.{IsTrace}
use Rattle.abt_links.specs.declared.gathered.Gathered.{Gathered}
use Rattle.abt_weave.specs.Stuck.{RunJournals}
use Rattle.abt_weave.specs.Woven.{IsWoven}
use Rattle.abt_perform_threads.specs.declared.judging.Judged.{Judged}

abbrev pub journals_of : Gathered → RunJournals
journals_of run = record { ports = run.journals; sources = run.sources.items }

-- What was judged are these events, with their trace, which is safe.
pub record IsVerdict (net : Topology) (events : List Event) (judged : Judged) : Type 0 where
  pub are_events : judged.events ≡ events
  pub is_trace : IsTrace net events judged.trace
  pub is_safe : judged.trace.safe ≡ true

-- The events are just the journals that this run left, and the trace is that of these events, and safe.
pub record IsJudged (net : Topology) (run : Gathered) (judged : Judged) : Type 0 where
  pub are_woven : IsWoven net run.journals run.sources.items judged.events
  pub is_trace : IsTrace net judged.events judged.trace
  pub is_safe : judged.trace.safe ≡ true
