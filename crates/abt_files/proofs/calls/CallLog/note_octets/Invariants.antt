-- The octets so far are noted.
use Rattle.std.proofs.Common.{◌≡◌, take}
use Rattle.abt_files.specs.Calls.{wrote}
use Rattle.abt_files.proofs.calls.CallLog.note_octets.Given as goal

abbrev pub invariant-loop-octet : goal.invariant-loop-octet
invariant-loop-octet l = l.self.calls ≡ wrote l.initial.self.calls (take l.octet-index l.octets)
