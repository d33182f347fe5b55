-- How calls of a disk follow each other.
use Rattle.std.proofs.Common.{inl, inr, ⊎_elim, ℕ, ◌∙◌, arith}
use Rattle.abt_disk.specs.Disk.{Blocks, AreSame, Torn, Follows, Only, Elapses, LeavesOnly}

module _ {D : Type 0} (moment : D → ℕ) (left_since : D → ℕ → Blocks → Type 0) where
  -- one call, after which a crash leaves what has P
  pub first_call : (old new : D) (P may_leave : Blocks → Type 0) → ((c : Blocks) → left_since old (moment old) c → P c)
      → Elapses (moment old) (moment new) (left_since old) (left_since new) may_leave → ((c : Blocks) → may_leave c → P c)
      → LeavesOnly moment left_since old new P
  first_call old new P may_leave at_first time here = record {
    later = time.later;
    each = λ c left. ⊎_elim (at_first c) (here c) (time.nothing_else (moment old) c (omega arith) left);
    before = λ t c le left. ⊎_elim (λ past. inl past) (λ now. inr (here c now)) (time.nothing_else t c le left);
  }

  -- two runs, one after the other
  pub then_more : (old mid new : D) (P Q R : Blocks → Type 0) → LeavesOnly moment left_since old mid P → LeavesOnly moment left_since mid new Q
      → ((c : Blocks) → P c → R c) → ((c : Blocks) → Q c → R c) → LeavesOnly moment left_since old new R
  then_more old mid new P Q R one two from_p from_q = record {
    later = omega (arith, one.later, two.later);
    each = λ c left. ⊎_elim (λ past. from_p c (one.each c past)) (from_q c) (two.before (moment old) c one.later left);
    before = λ t c le left. ⊎_elim (λ past. ⊎_elim (λ past. inl past) (λ p. inr (from_p c p)) (one.before t c le past)) (λ q. inr (from_q c q))
        (two.before t c (omega (arith, le, one.later)) left);
  }

  -- nothing was asked
  pub no_call : (old : D) (P : Blocks → Type 0) → ((c : Blocks) → left_since old (moment old) c → P c) → LeavesOnly moment left_since old old P
  no_call old P here = record { later = omega arith; each = here; before = λ t c le left. inl left }

  -- the same of less
  pub weaker : (old new : D) (P Q : Blocks → Type 0) → LeavesOnly moment left_since old new P → ((c : Blocks) → P c → Q c) → LeavesOnly moment left_since old new Q
  weaker old new P Q run from = record {
    later = run.later;
    each = λ c left. from c (run.each c left);
    before = λ t c le left. ⊎_elim (λ past. inl past) (λ p. inr (from c p)) (run.before t c le left);
  }

-- what a torn block leaves of a disk that was all synced
pub torn_by : (block : ℕ) (blocks : Blocks) (before after : Blocks → Type 0) → Only blocks before → Follows (Torn block) before after
    → (c : Blocks) → after c → Torn block blocks c
torn_by block blocks before after only follows c left other differs =
    let from = follows c left in from.2 other differs ∙ only from.0 from.1 other

-- no block is torn
pub not_torn : (block : ℕ) (blocks : Blocks) (c : Blocks) → AreSame c blocks → Torn block blocks c
not_torn block blocks c same other differs = same other
