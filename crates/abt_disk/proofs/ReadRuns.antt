-- Reads, one after the other.
use Rattle.std.proofs.Common.{ℕ, ◌∙◌}
use Rattle.abt_disk.specs.Disk.{Blocks, AreSame}
use Rattle.abt_disk.specs.Stores.{ReadsOnly}
use Rattle.abt_disk.proofs.Moments.{then_more}

pub reads_more : {D : Type 0} (seen : D → Blocks) (may_leave : D → Blocks → Type 0) (moment : D → ℕ) (left_since : D → ℕ → Blocks → Type 0) (old mid new : D)
    → ReadsOnly seen may_leave moment left_since old mid → ReadsOnly seen may_leave moment left_since mid new → ReadsOnly seen may_leave moment left_since old new
reads_more seen may_leave moment left_since old mid new one two = record {
  seen_same = λ b. two.seen_same b ∙ one.seen_same b;
  no_more = λ c left. one.no_more c (two.no_more c left);
  any_moment = then_more moment left_since old mid new _ _ (λ c. AreSame c (seen old)) one.any_moment two.any_moment
      (λ c same. same) (λ c same b. same b ∙ one.seen_same b);
}

pub reads_three : {D : Type 0} (seen : D → Blocks) (may_leave : D → Blocks → Type 0) (moment : D → ℕ) (left_since : D → ℕ → Blocks → Type 0) (old one two new : D)
    → ReadsOnly seen may_leave moment left_since old one → ReadsOnly seen may_leave moment left_since one two → ReadsOnly seen may_leave moment left_since two new
    → ReadsOnly seen may_leave moment left_since old new
reads_three seen may_leave moment left_since old one two new a b c =
    reads_more seen may_leave moment left_since old two new (reads_more seen may_leave moment left_since old one two a b) c
