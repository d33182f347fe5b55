-- The text so far, and the words of the connections that are left, are the whole text.
use Rattle.std.proofs.Common.{◌≡◌, ◌++◌, drop, string_bytes}
use Rattle.abt_step.specs.StateWords.{conns_between}
use Rattle.abt_step.proofs.state_words.push_conns.Given as goal

abbrev pub invariant-loop-index : goal.invariant-loop-index
invariant-loop-index l =
    string_bytes l.text ++ conns_between l.before l.after l.index (drop l.index l.rates) (drop l.index l.held)
    ≡ string_bytes l.initial.text ++ conns_between l.before l.after 0 l.rates l.held
