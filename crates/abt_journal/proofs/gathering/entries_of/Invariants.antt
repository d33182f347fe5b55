use Rattle.std.specs.Prelude.{◌≡◌, All, ◌+◌, ◌≤◌, ◌++◌, map, length, vec_len, vec_items, vec_capacity}
use Rattle.std.specs.Vec.Iter.{into_iter_len, into_iter_items}
use Rattle.abt_journal.specs.Replay.{IsHistory}
use Rattle.abt_journal.specs.Gathered.{journals_of}
use Rattle.abt_journal.proofs.gathering.entries_of.Given as goal

abbrev pub invariant-loop-state : goal.invariant-loop-state
invariant-loop-state l =
    (vec_len l.ports + into_iter_len l.state-iterator ≤ vec_capacity l.ports)
    × (length (into_iter_items l.state-iterator) ≡ into_iter_len l.state-iterator)
    × (map (λ v. v.items) (vec_items l.ports) ++ journals_of (into_iter_items l.state-iterator) ≡ journals_of (into_iter_items l.initial.state-iterator))
    × (All (λ s. IsHistory s.opening s.entries) (into_iter_items l.state-iterator) → All (λ s. IsHistory s.opening s.entries) (into_iter_items l.initial.state-iterator))
