-- The tokens so far, and those of the rates that are left, are all of them; what stood before stays.
use Rattle.std.proofs.Common.{◌≡◌, ◌++◌, drop}
use Rattle.abt_json.specs.Objects.{rate_strings}
use Rattle.abt_json.proofs.report.push_codes.Given as goal

abbrev pub invariant-loop-rate : goal.invariant-loop-rate
invariant-loop-rate l =
    (l.object.before ≡ l.initial.object.before)
    × (l.object.tokens ++ rate_strings (drop l.rate-index l.rates) ≡ l.initial.object.tokens ++ rate_strings l.rates)
