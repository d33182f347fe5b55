-- A step of a port with a journal.
use Rattle.std.proofs.Common.{◌≡◌, ℕ, List, [], ◌∷◌, ◌++◌, length, sym, ap, subst, ◌∙◌}
use Rattle.abt_node.specs.Table.{Table}
use Rattle.abt_journal.specs.declared.entry.Entry.{Entry}
use Rattle.abt_journal.specs.Journaled.{Journaled}
use Rattle.abt_journal.specs.Opening.{reopened}
use Rattle.abt_journal.specs.Replay.{reply_by, table_after, IsReplayed}
use Rattle.abt_journal.proofs.Growing.{replayed-push}
use Rattle.abt_journal.proofs.Reopening.{reopened-table_after}

-- the table that the port had at first stays
same_opening : (capacity : ℕ) (old new : Table) (e : Entry) → new ≡ table_after old e.input → reopened capacity new ≡ reopened capacity old
same_opening capacity old new e stepped = ap (reopened capacity) stepped ∙ reopened-table_after capacity old e.input

-- the journal stays the replay
pub step_replayed : (capacity : ℕ) (old new : Table) (es grown : List Entry) (e : Entry) → new ≡ table_after old e.input → grown ≡ es ++ e ∷ [] → e.place ≡ length es
    → e.reply ≡ reply_by old e.input → IsReplayed (reopened capacity old) old es → IsReplayed (reopened capacity new) new grown
step_replayed capacity old new es grown e stepped pushed place reply h =
    let next = replayed-push (reopened capacity old) old es e h place reply in
    subst (λ entries. IsReplayed (reopened capacity new) new entries) (sym pushed)
    (subst (λ opening. IsReplayed opening new (es ++ e ∷ [])) (sym (same_opening capacity old new e stepped))
    (subst (λ now. IsReplayed (reopened capacity old) now (es ++ e ∷ [])) (sym stepped) next))

-- what contracts see then
pub step_value : (capacity : ℕ) (old new : Table) (es grown : List Entry) (e : Entry) → new ≡ table_after old e.input → grown ≡ es ++ e ∷ []
    → ◌≡◌ {A = Journaled} (record { opening = reopened capacity new; table = new; entries = grown })
    (record { opening = reopened capacity old; table = table_after old e.input; entries = es ++ e ∷ [] })
step_value capacity old new es grown e stepped pushed =
    let opening = same_opening capacity old new e stepped in
    λ i. record { opening = opening i; table = stepped i; entries = pushed i }
