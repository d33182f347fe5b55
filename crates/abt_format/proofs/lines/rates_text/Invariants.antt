-- The text so far, and that of the rates that are left, are the whole text.
use Rattle.std.proofs.Common.{◌≡◌, ◌++◌, drop, string_bytes}
use Rattle.abt_format.specs.Report.{rates_text}
use Rattle.abt_format.proofs.lines.rates_text.Given as goal

abbrev pub invariant-loop-rate : goal.invariant-loop-rate
invariant-loop-rate l = string_bytes l.text ++ rates_text (drop l.rate-index l.rates) ≡ rates_text l.rates
