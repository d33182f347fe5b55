-- The text so far, and the codes of the rates that are left, are the whole text.
use Rattle.std.proofs.Common.{◌≡◌, ◌++◌, drop, string_bytes}
use Rattle.abt_format.specs.Report.{rates_text}
use Rattle.abt_step.proofs.state_words.push_rates.Given as goal

abbrev pub invariant-loop-rate : goal.invariant-loop-rate
invariant-loop-rate l =
    string_bytes l.text ++ rates_text (drop l.rate-index l.rates) ≡ string_bytes l.initial.text ++ rates_text l.rates
