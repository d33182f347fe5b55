-- Open writes whose entries show at once whether they were stored.
use Rattle.std.specs.Prelude.{◌≡◌, ⊤, ℕ, ◌<◌, nat_lt, true, List, [], ◌∷◌, Option, None, Some, if◌then◌else◌}
use Rattle.abt_cell.specs.Channel.{Channel}
use Rattle.abt_keep.specs.declared.plan.StorePlan.{StorePlan}
use Rattle.abt_keep.specs.declared.plan.StorePlan.TheVariants.{FailsAfter, FailsBefore}
use Rattle.abt_model.specs.declared.entry.SourceEntry.{SourceEntry}
use Rattle.abt_audit.specs.Settling.{IsFarthest, IsReach, IsSettled}
use Rattle.abt_audit.specs.declared.deciding.Way.{Way}

-- each of these places stands behind so many entries and one more
abbrev pub AreAbove : ℕ → List ℕ → Type 0
AreAbove n [] = ⊤
AreAbove n (place ∷ places) = (n < place) × AreAbove n places

-- The entries, in which the writes of these places are settled, fit so far; and no further however these are settled, if it is said.
pub record IsWay (vc : Channel) (places : List ℕ) (entries : List SourceEntry) (way : Way) : Type 0 where
  pub settled : IsSettled places entries entries
  pub reach : IsReach vc entries way.count
  pub farthest : way.is_farthest ≡ true → IsFarthest vc places entries way.count

-- how a write is settled, if that shows by how many entries fit if it wasn't stored, and if it was
abbrev pub shown_by : (before after : Way) → Option StorePlan
shown_by before after =
    if nat_lt before.count after.count then (if before.is_farthest then Some FailsAfter else None)
    else (if after.is_farthest then Some FailsBefore else None)
