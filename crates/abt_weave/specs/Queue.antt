-- Which actors are to be looked at.
use Rattle.std.specs.Prelude.{◌≡◌, ℕ, ◌<◌, Bool, true, false, List, [], ◌∷◌, length, slice_get, Some, All, Contains, ◌⊎◌}
use Rattle.abt_net.specs.Topology.{Topology}
use Rattle.abt_model.specs.declared.event.Event.{Event}
use Rattle.abt_weave.specs.Stuck.{RunJournals}
use Rattle.abt_weave.specs.Actors.{actor_at, actor_count}
use Rattle.abt_weave.specs.Progress.{IsActorSettled}
use Rattle.abt_weave.specs.declared.queue.Queue.{Queue}

-- Of so many actors those that are to be looked at are listed, and the next entries of none of them mismatched.
pub record IsQueue (n : ℕ) (queue : Queue) : Type 0 where
  pub woken_count : length queue.woken.items ≡ n
  pub mark_count : length queue.marks.items ≡ n
  pub low : All (λ i. i < n) queue.ready.items
  pub listed : (i : ℕ) → slice_get queue.woken.items i ≡ Some true → Contains queue.ready.items i
  pub unmarked : (i : ℕ) → slice_get queue.woken.items i ≡ Some true → slice_get queue.marks.items i ≡ Some false

-- all of so many are to be looked at
pub record AreAllReady (n : ℕ) (queue : Queue) : Type 0 where
  pub queue_is : IsQueue n queue
  pub all : (i : ℕ) → i < n → slice_get queue.woken.items i ≡ Some true

-- no actor is to be looked at
pub record IsEmpty (old new : Queue) : Type 0 where
  pub none : new.ready.items ≡ []
  pub was : old.ready.items ≡ []
  pub woken : new.woken.items ≡ old.woken.items
  pub marks : new.marks.items ≡ old.marks.items

-- the first that was to be looked at is taken out
pub record IsFirst (old new : Queue) (number : ℕ) : Type 0 where
  pub first : old.ready.items ≡ number ∷ new.ready.items
  pub queue_is : IsQueue (length old.woken.items) new
  pub marks : new.marks.items ≡ old.marks.items
  pub taken : slice_get new.woken.items number ≡ Some false
  pub others : (i : ℕ) → (i ≡ number → ⊥) → slice_get new.woken.items i ≡ slice_get old.woken.items i

-- an actor is to be looked at, or its next entry mismatched
abbrev pub IsUp : Queue → ℕ → Type 0
IsUp queue i = (slice_get queue.woken.items i ≡ Some true) ⊎ (slice_get queue.marks.items i ≡ Some true)

-- those that were to be looked at still are, and these are too, unless their next entries mismatched
pub record Wakes (whom : ℕ → Type 0) (old new : Queue) : Type 0 where
  pub marks : new.marks.items ≡ old.marks.items
  pub count : length new.woken.items ≡ length old.woken.items
  pub keeps : (i : ℕ) → slice_get old.woken.items i ≡ Some true → slice_get new.woken.items i ≡ Some true
  pub wakes : (i : ℕ) → whom i → IsUp new i

-- Each actor but these is to be looked at, or is settled, and its mark says whether its next entry mismatches.
pub record IsWaiting (net : Topology) (journals : RunJournals) (earlier : List Event) (but : ℕ → Type 0) (queue : Queue) : Type 0 where
  pub queue_is : IsQueue (actor_count net) queue
  pub settled : (i : ℕ) (mismatches : Bool) → (but i → ⊥) → slice_get queue.woken.items i ≡ Some false → slice_get queue.marks.items i ≡ Some mismatches →
      IsActorSettled net journals earlier (actor_at net i) mismatches
