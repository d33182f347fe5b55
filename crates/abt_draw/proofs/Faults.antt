-- Why nothing is drawn, exactly.
use Rattle.std.proofs.Common.{◌≡◌, ◌∙◌, ap, refl, subst, sym, ◌+◌, ◌<◌, ◌⊎◌, inl, inr, ℕ, List, length, arith}
use Rattle.std.specs.Prelude.{◌↔◌, Some, Ok, Err, Result, IfOk, IfErr, IsErrOf, slice_get}
use Rattle.abt_net.specs.Topology.{Topology}
use Rattle.abt_model.specs.declared.event.Event.{Event}
use Rattle.abt_draw.specs.Drawn.{IsDrawn, IsUndrawn, IsUnplaced, IsPlaced, IsNamed, IsUndrawnRange, IsUnknown, AreKnown, IsFoundFirst, first_of, last_of}
use Rattle.abt_draw.specs.declared.fault.DrawFault.{DrawFault}
use Rattle.abt_draw.specs.declared.fault.DrawFault.TheVariants.{Engine, Events, Range, Only, Columns, Numbers}
use Rattle.abt_plans.specs.declared.picture.PicturePlan.{PicturePlan}

-- a fault of the range is one of all that is named
pub unplaced_range : (plan : PicturePlan) (net : Topology) (events : ℕ) (fault : DrawFault) → AreKnown plan.only.items (length net.conns)
    → IsUndrawnRange plan events fault → IsUnplaced plan net events fault
unplaced_range plan net events (Engine engine) known p = absurd p
unplaced_range plan net events (Events count) known p = (known, p)
unplaced_range plan net events (Range count) known p = (known, p)
unplaced_range plan net events (Only conn) known p = absurd p
unplaced_range plan net events Columns known p = absurd p
unplaced_range plan net events Numbers known p = absurd p

pub undrawn_unplaced : (plan : PicturePlan) (net : Topology) (events : List Event) (fault : DrawFault)
    → IsUnplaced plan net (length events) fault → IsUndrawn plan net events fault
undrawn_unplaced plan net events (Engine engine) p = absurd p
undrawn_unplaced plan net events (Events count) p = p
undrawn_unplaced plan net events (Range count) p = p
undrawn_unplaced plan net events (Only conn) p = p
undrawn_unplaced plan net events Columns p = absurd p
undrawn_unplaced plan net events Numbers p = p

unknown_known : (only : List ℕ) (conns conn : ℕ) → IsUnknown only conns conn → AreKnown only conns → ⊥
unknown_known only conns conn unknown known = let low = known unknown.place conn unknown.named in omega (arith, low, unknown.beyond)

in_order : (a b : ℕ) → (a < b) ⊎ ((a ≡ b) ⊎ (b < a))
in_order a b = grind arith

same_place : (only : List ℕ) (i j c d : ℕ) → i ≡ j → slice_get only i ≡ Some c → slice_get only j ≡ Some d → c ≡ d
same_place only i j c d same is_c is_d = cc

same_unknown : (only : List ℕ) (conns c d : ℕ) → IsUnknown only conns c → IsUnknown only conns d → c ≡ d
same_unknown only conns c d p q = elim (in_order p.place q.place) [
  | inl before ↦ let low = q.first p.place c before p.named in absurd (omega (arith, low, p.beyond))
  | inr rest ↦ elim rest [
    | inl same ↦ same_place only p.place q.place c d same p.named q.named
    | inr behind ↦ let low = p.first q.place d behind q.named in absurd (omega (arith, low, q.beyond))
  ]
]

same_events : (plan : PicturePlan) (events n m : ℕ) → n + first_of plan ≡ last_of plan events + 1 → m + first_of plan ≡ last_of plan events + 1 → n ≡ m
same_events plan events n m p q = omega (arith, p, q)

too_many : (plan : PicturePlan) (net : Topology) (events n : ℕ) → n + first_of plan ≡ last_of plan events + 1 → 2000 < n → IsNamed plan net events → ⊥
too_many plan net events n is many named = omega (arith, is, many, named.few)

-- nothing is wrong with what is drawn
placed_not : (plan : PicturePlan) (net : Topology) (events : ℕ) (fault : DrawFault) → IsUnplaced plan net events fault → IsPlaced plan net events → ⊥
placed_not plan net events (Only conn) p placed = unknown_known plan.only.items (length net.conns) conn p placed.named.known
placed_not plan net events (Range count) p placed = p.1.1 placed.named.range
placed_not plan net events (Events count) p placed = too_many plan net events count p.1.1 p.1.2 placed.named
placed_not plan net events Numbers p placed = omega (arith, p.1, placed.numbers)
placed_not plan net events Columns p placed = absurd p
placed_not plan net events (Engine engine) p placed = absurd p

-- there is one fault
same_fault : (plan : PicturePlan) (net : Topology) (events : ℕ) (f g : DrawFault) → IsUnplaced plan net events f → IsUnplaced plan net events g → f ≡ g
same_fault plan net events (Only c) (Only d) p q = ap Only (same_unknown plan.only.items (length net.conns) c d p q)
same_fault plan net events (Only c) (Range m) p q = absurd (unknown_known plan.only.items (length net.conns) c p q.0)
same_fault plan net events (Only c) (Events m) p q = absurd (unknown_known plan.only.items (length net.conns) c p q.0)
same_fault plan net events (Only c) Numbers p q = absurd (unknown_known plan.only.items (length net.conns) c p q.0.known)
same_fault plan net events (Range n) (Only d) p q = absurd (unknown_known plan.only.items (length net.conns) d q p.0)
same_fault plan net events (Range n) (Range m) p q = ap Range (p.1.0 ∙ sym q.1.0)
same_fault plan net events (Range n) (Events m) p q = absurd (p.1.1 q.1.0)
same_fault plan net events (Range n) Numbers p q = absurd (p.1.1 q.0.range)
same_fault plan net events (Events n) (Only d) p q = absurd (unknown_known plan.only.items (length net.conns) d q p.0)
same_fault plan net events (Events n) (Range m) p q = absurd (q.1.1 p.1.0)
same_fault plan net events (Events n) (Events m) p q = ap Events (same_events plan events n m p.1.1 q.1.1)
same_fault plan net events (Events n) Numbers p q = absurd (too_many plan net events n p.1.1 p.1.2 q.0)
same_fault plan net events Numbers (Only d) p q = absurd (unknown_known plan.only.items (length net.conns) d q p.0.known)
same_fault plan net events Numbers (Range m) p q = absurd (q.1.1 p.0.range)
same_fault plan net events Numbers (Events m) p q = absurd (too_many plan net events m q.1.1 q.1.2 p.0)
same_fault plan net events Numbers Numbers p q = refl
same_fault plan net events (Engine e) g p q = absurd p
same_fault plan net events Columns g p q = absurd p
same_fault plan net events f (Engine e) p q = absurd q
same_fault plan net events f Columns p q = absurd q

-- a fault that is found first is one of what has no rows
first_unplaced : (plan : PicturePlan) (net : Topology) (events : List Event) (fault : DrawFault) → IsFoundFirst fault → IsUndrawn plan net events fault
    → IsUnplaced plan net (length events) fault
first_unplaced plan net events (Engine engine) first p = absurd first
first_unplaced plan net events (Events count) first p = p
first_unplaced plan net events (Range count) first p = p
first_unplaced plan net events (Only conn) first p = p
first_unplaced plan net events Columns first p = absurd first
first_unplaced plan net events Numbers first p = p

found_alone : (plan : PicturePlan) (net : Topology) (events : List Event) (f g : DrawFault) → IsUnplaced plan net (length events) f
    → IsUndrawn plan net events g → f ≡ g
found_alone plan net events f (Engine engine) p q = absurd (placed_not plan net (length events) f p q.0)
found_alone plan net events f Columns p q = absurd (placed_not plan net (length events) f p q.0)
found_alone plan net events f (Only conn) p q = same_fault plan net (length events) f (Only conn) p q
found_alone plan net events f (Range count) p q = same_fault plan net (length events) f (Range count) p q
found_alone plan net events f (Events count) p q = same_fault plan net (length events) f (Events count) p q
found_alone plan net events f Numbers p q = same_fault plan net (length events) f Numbers p q

-- such a fault is told exactly if it is there
pub exactly : {X : Type 0} (plan : PicturePlan) (net : Topology) (events : List Event) (P : X → Type 0) → ((x : X) → P x → IsDrawn plan net events)
    → (r : Result X DrawFault) → IfOk r P → IfErr r (IsUndrawn plan net events) → (fault : DrawFault) → IsFoundFirst fault
    → IsErrOf r fault ↔ IsUndrawn plan net events fault
exactly plan net events P drawn (Ok x) ok err fault first = (
  λ is. absurd (let e = is in cc),
  λ undrawn. absurd (placed_not plan net (length events) fault (first_unplaced plan net events fault first undrawn) (drawn x ok).placed),
)
exactly plan net events P drawn (Err told) ok err fault first = (
  λ is. let same : told ≡ fault = (let e = is in cc) in subst (IsUndrawn plan net events) same err,
  λ undrawn. ap Err (sym (found_alone plan net events fault told (first_unplaced plan net events fault first undrawn) err)),
)
