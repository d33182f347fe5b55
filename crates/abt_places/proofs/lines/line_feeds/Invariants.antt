-- The line feeds so far, and those that are left, are all of them.
use Rattle.std.proofs.Common.{◌≡◌, ◌+◌, drop}
use Rattle.abt_places.specs.Places.{line_feeds}
use Rattle.abt_places.proofs.lines.line_feeds.Given as goal

abbrev pub invariant-loop-octet : goal.invariant-loop-octet
invariant-loop-octet l = l.count + line_feeds (drop l.octet-index l.octets) ≡ line_feeds l.octets
