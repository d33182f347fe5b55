-- The text so far, and the words of the ports that are left, are the whole text.
use Rattle.std.proofs.Common.{◌≡◌, ◌++◌, drop, string_bytes}
use Rattle.abt_step.specs.StateWords.{ports_between}
use Rattle.abt_step.proofs.state_words.push_ports.Given as goal

abbrev pub invariant-loop-index : goal.invariant-loop-index
invariant-loop-index l =
    string_bytes l.text ++ ports_between l.before l.after l.index (drop l.index l.totals) (drop l.index l.capacities)
    ≡ string_bytes l.initial.text ++ ports_between l.before l.after 0 l.totals l.capacities
