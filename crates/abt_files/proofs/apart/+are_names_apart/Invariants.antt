use Rattle.std.proofs.Common.{length}
use Rattle.abt_files.proofs.apart.+are_names_apart.Given as goal

abbrev pub decreases-are_names_apart : goal.decreases-are_names_apart
decreases-are_names_apart l = length l.written.now
