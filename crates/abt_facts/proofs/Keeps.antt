-- Whether an ask writes, and what, does not change by facts that leave the source.
use Rattle.std.proofs.Common.{◌≡◌, ℕ, List, ◌∷◌, refl, ap}
use Rattle.abt_keep.specs.Record.{KeptRecord}
use Rattle.abt_facts.specs.declared.fact.Fact.{Fact}
use Rattle.abt_facts.specs.declared.fact.Fact.TheVariants.{Stored}
use Rattle.abt_facts.specs.Keeping.{need_by, writes_by, written_by}
use Rattle.abt_facts.specs.Requests.{ask_of}
use Rattle.abt_facts.specs.Source.{SourceState, Down, Idle, Asking, open_ask, state_of, rate_of, kept_of, last_of, gap_of, need_of, writes, written_for}

-- a fact that asks for nothing leaves what the open request asks for
pub open_same : (f : Fact) (fs : List Fact) (state : SourceState) → ((s : ℕ) → ask_of (f ∷ fs) s ≡ ask_of fs s) → open_ask (f ∷ fs) state ≡ open_ask fs state
open_same f fs Down same = refl
open_same f fs Idle same = refl
open_same f fs (Asking seq) same = same seq

-- what was written leaves the need, whether an ask writes, and what it writes
pub need_stored : (kept : KeptRecord) (fs : List Fact) (ask : ℕ) → need_of (Stored kept ∷ fs) ask ≡ need_of fs ask
need_stored kept fs ask = ap (λ (r : ℕ). need_by (gap_of fs) (rate_of fs) r ask) (open_same (Stored kept) fs (state_of fs) (λ s. refl))

pub writes_stored : (kept : KeptRecord) (fs : List Fact) (ask : ℕ) → writes (Stored kept ∷ fs) ask ≡ writes fs ask
writes_stored kept fs ask = ap (λ (n : ℕ). writes_by (kept_of fs) (last_of fs) n) (need_stored kept fs ask)

pub written_stored : (kept : KeptRecord) (fs : List Fact) (ask : ℕ) → written_for (Stored kept ∷ fs) ask ≡ written_for fs ask
written_stored kept fs ask = ap (λ (n : ℕ). written_by (last_of fs) n) (need_stored kept fs ask)
