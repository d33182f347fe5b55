-- The journals so far, and those of the entries that are left, are all.
use Rattle.std.proofs.Common.{◌≡◌, ◌++◌, map, vec_items}
use Rattle.std.specs.Vec.Iter.{into_iter_items}
use Rattle.abt_journal_text.specs.Books.{journal_of}
use Rattle.abt_journal_text.proofs.Pushed.{lists_in}
use Rattle.abt_journal_text.proofs.run.source_journals.Given as goal

abbrev pub invariant-loop-entries : goal.invariant-loop-entries
invariant-loop-entries l =
    vec_items l.journals ++ map journal_of (lists_in (into_iter_items l.entries-iterator)) ≡ map journal_of (lists_in (into_iter_items l.initial.entries-iterator))
