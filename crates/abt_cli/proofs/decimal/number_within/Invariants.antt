-- What was read so far are digits, and this is their value.
use Rattle.std.proofs.Common.{◌≡◌, true, take}
use Rattle.std.specs.Char.{is_ascii_digit}
use Rattle.std.specs.List.{list_all}
use Rattle.std.specs.Str.Parse.{digits_value}
use Rattle.abt_cli.proofs.decimal.number_within.Given as goal

abbrev pub invariant-loop-octet : goal.invariant-loop-octet
invariant-loop-octet l = (l.value ≡ digits_value 10 (take l.octet-index l.octets)) × (list_all is_ascii_digit (take l.octet-index l.octets) ≡ true)
