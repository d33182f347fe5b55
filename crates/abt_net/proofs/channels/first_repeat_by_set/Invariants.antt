use Rattle.std.proofs.Common.{ℕ, ◌<◌}
use Rattle.std.specs.BTreeSet as set
use Rattle.abt_cell.specs.Channel.{channel_cmp}
use Rattle.abt_net.specs.Faults.{RepeatsChannel}
use Rattle.abt_net.proofs.ChannelLemmas.{AreTaken}
use Rattle.abt_net.proofs.channels.first_repeat_by_set.Given as goal

-- no connection so far repeats a channel, and the set has their channels and no others
abbrev pub invariant-loop-place : goal.invariant-loop-place
invariant-loop-place l =
    ((m : ℕ) → m < l.place → ¬ RepeatsChannel l.conns m) × AreTaken l.conns l.place (set.contains channel_cmp l.channels)
