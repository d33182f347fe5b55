use Rattle.std.proofs.Common.{◌∙◌, [], ap, length, sym}
use Rattle.abt_check.proofs.Differences.{outcomes_length}
use Rattle.abt_check.proofs.testing.differences_of.Goals as goal

pub push_differences-requires : goal.push_differences-requires
push_differences-requires c =
    let scenario = c.args.scenario in
    c.requires ∙ sym (ap length (c.as_slice.ensures ∙ c.in_ok-trace.ensures.trace.outcomes) ∙ outcomes_length scenario.net [] scenario.events)
