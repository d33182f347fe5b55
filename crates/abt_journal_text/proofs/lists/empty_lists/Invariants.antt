use Rattle.std.proofs.Common.{◌≡◌, []}
use Rattle.std.specs.Prelude.{replicate}
use Rattle.abt_journal_text.specs.Books.{lists_of}
use Rattle.abt_journal_text.proofs.lists.empty_lists.Given as goal

abbrev pub invariant-loop-list : goal.invariant-loop-list
invariant-loop-list g l = lists_of l.lists ≡ replicate l._list []
