-- A run has a journal for each source.
use Rattle.abt_perform_threads.proofs.Counts.{sources_count}
use Rattle.abt_perform_threads.proofs.showing.show_run.Goals as goal

pub show-judged-requires-clause-sources : goal.show-judged-requires-clause-sources
show-judged-requires-clause-sources g c =
    let from = c.in_ok-ran.ensures.ok in
    let left = c.in_ok-ran.ran.gathered in
    let scenario = c.args.unrun in
    rw from.net_is (sources_count 0 scenario.net.conns scenario.scripts left.journals left.sources.items from.is_run.sources)

pub show-judged-requires-clause-woven : goal.show-judged-requires-clause-woven
show-judged-requires-clause-woven g c =
    let from = c.in_ok-ran.ensures.ok in
    rw from.net_is from.woven
