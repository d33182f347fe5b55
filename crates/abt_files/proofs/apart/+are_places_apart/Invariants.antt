use Rattle.std.proofs.Common.{length}
use Rattle.abt_files.proofs.apart.+are_places_apart.Given as goal

abbrev pub decreases-are_places_apart : goal.decreases-are_places_apart
decreases-are_places_apart l = length l.written.now
