-- Nothing that is drawn stands above its line.
use Rattle.std.proofs.Common.{◌≡◌, ℕ, zero, suc, ◌+◌, ◌≤◌, List, [], ◌∷◌, ◌++◌, refl, sym, subst, ap, ◌∙◌, inl, inr, arith, length, map, append_assoc, All, sum}
use Rattle.std.specs.Prelude.{Some, option_map, slice_get}
use Rattle.std.specs.List.{enumerate_from}
use Rattle.std.proofs.lemmas.List.Elements.{All-nil, All-cons}
use Rattle.std.proofs.lemmas.List.Sums.{sum-map}
use Rattle.std.proofs.lemmas.Option.{slice_get_within}
use Rattle.abt_facts.specs.declared.fact.Fact.{Fact}
use Rattle.abt_facts.specs.Hop.{held_of}
use Rattle.abt_facts.specs.Source.{rate_of}
use Rattle.abt_net.specs.declared.conn.Conn.{Conn}
use Rattle.abt_net.specs.Topology.{Topology, IsWithinRules}
use Rattle.abt_model.specs.declared.event.Event.{Event}
use Rattle.abt_model.specs.Events.{AsksRate}
use Rattle.abt_model.specs.Outcomes.{after_event}
use Rattle.abt_model.specs.Past.{Past, facts_of}
use Rattle.abt_model.specs.Reserved.{held_on, reserved_on, capacity_of}
use Rattle.abt_model.specs.Run.{facts_after}
use Rattle.abt_model.specs.Safe.{IsSafe}
use Rattle.abt_model.proofs.EveryPasts.{every_safe}
use Rattle.abt_model.proofs.Runs.{facts_from_push}
use Rattle.abt_model.proofs.Served.{conn_within}
use Rattle.abt_model.proofs.Worlds.{cases_option}
use Rattle.abt_world.proofs.Standings.{some_same}
use Rattle.abt_chart.specs.Frames.{frame_after, frames_from, stack_after, stacks_after, least_held, StandsBelow}

-- what a numbered list has at a place
numbered_from : {A B : Type 0} (f : ℕ × A → B) (k : ℕ) (xs : List A) (i : ℕ) →
    slice_get (map f (enumerate_from k xs)) i ≡ option_map (λ x. f (k + i, x)) (slice_get xs i)
numbered_from f k [] i = refl
numbered_from f k (x ∷ xs) zero = let here : k ≡ k + 0 = omega arith in ap (λ n. Some (f (n, x))) here
numbered_from {A = A} f k (x ∷ xs) (suc i) =
    let more : k + 1 + i ≡ k + suc i = omega arith in
    numbered_from f (k + 1) xs i ∙ ap (λ n. option_map (λ (z : A). f (n, z)) (slice_get xs i)) more

numbered_at : {A B : Type 0} (f : ℕ × A → B) (xs : List A) (i : ℕ) →
    slice_get (map f (enumerate_from 0 xs)) i ≡ option_map (λ x. f (i, x)) (slice_get xs i)
numbered_at {A = A} f xs i =
    let here : 0 + i ≡ i = omega arith in
    numbered_from f 0 xs i ∙ ap (λ n. option_map (λ (x : A). f (n, x)) (slice_get xs i)) here

-- the item behind it, where the list has one there
item_at : {A B : Type 0} (f : ℕ × A → B) (xs : List A) (i : ℕ) (y : B) → slice_get (map f (enumerate_from 0 xs)) i ≡ Some y →
    (x : A) × (slice_get xs i ≡ Some x) × (y ≡ f (i, x))
item_at {A = A} f xs i y at = elim (cases_option (slice_get xs i)) [
  | inl none ↦ absurd (let e = sym at ∙ numbered_at f xs i ∙ ap (option_map (λ (x : A). f (i, x))) none in cc)
  | inr some ↦ (some.0, some.1, some_same _ _ (sym at ∙ numbered_at f xs i ∙ ap (option_map (λ (x : A). f (i, x))) some.1))
]

-- what is at most what each hop holds is at most the least of it
least_bound : (facts : List Fact) (n r : ℕ) → 1 ≤ n → ((hop : ℕ) → 1 ≤ hop → hop ≤ n → r ≤ held_of facts hop) → r ≤ least_held facts n
least_bound facts zero r low all = absurd (omega (arith, low))
least_bound facts (suc zero) r low all = all 1 (omega arith) (omega arith)
least_bound facts (suc (suc n)) r low all =
    let before : r ≤ least_held facts (suc n) = least_bound facts (suc n) r (omega arith) (λ hop above below. all hop above (omega (arith, below))) in
    let last : r ≤ held_of facts (suc (suc n)) = all (suc (suc n)) (omega arith) (omega arith) in
    omega (arith, before, last)

stack_below : (net : Topology) (past : Past) → IsSafe net past → (p capacity : ℕ) (stack : List ℕ) →
    slice_get (stacks_after net past) p ≡ Some stack → slice_get (map (λ numbered. capacity_of net past numbered.0) (enumerate_from 0 net.capacities)) p ≡ Some capacity →
    sum stack ≤ capacity
stack_below net past safe p capacity stack at limit =
    let there = item_at (λ (numbered : ℕ × ℕ). stack_after net past numbered.0) net.capacities p stack at in
    let above = item_at (λ (numbered : ℕ × ℕ). capacity_of net past numbered.0) net.capacities p capacity limit in
    let low = slice_get_within net.capacities p there.0 there.1 in
    let total : sum stack ≡ reserved_on net past p =
    ap sum there.2 ∙ sum-map (λ (numbered : ℕ × Conn). held_on (facts_of numbered.0 past) numbered.1.path p) (enumerate_from 0 net.conns) in
    subst (λ n. n ≤ capacity) (sym total) (subst (λ n. reserved_on net past p ≤ n) (sym above.2) (safe.sums p low))

rate_below : (net : Topology) (past : Past) → IsWithinRules net → IsSafe net past → (c rate least : ℕ) →
    slice_get (map (λ (numbered : ℕ × Conn). rate_of (facts_of numbered.0 past)) (enumerate_from 0 net.conns)) c ≡ Some rate →
    slice_get (map (λ (numbered : ℕ × Conn). least_held (facts_of numbered.0 past) (length numbered.1.path)) (enumerate_from 0 net.conns)) c ≡ Some least →
    rate ≤ least
rate_below net past rules safe c rate least at held =
    let there = item_at (λ (numbered : ℕ × Conn). rate_of (facts_of numbered.0 past)) net.conns c rate at in
    let below = item_at (λ (numbered : ℕ × Conn). least_held (facts_of numbered.0 past) (length numbered.1.path)) net.conns c least held in
    let conn = below.0 in
    let within = conn_within net rules c conn below.1 in
    let has : 1 ≤ length conn.path = omega (arith, within.has_hop) in
    let bound = least_bound (facts_of c past) (length conn.path) (rate_of (facts_of c past)) has (safe.rates c conn below.1) in
    subst (λ n. n ≤ least) (sym there.2) (subst (λ n. rate_of (facts_of c past) ≤ n) (sym below.2) bound)

frame_below : (net : Topology) (past : Past) → IsWithinRules net → IsSafe net past → StandsBelow (frame_after net past)
frame_below net past rules safe = record { stacks = stack_below net past safe; rates = rate_below net past rules safe }

-- the rates of events are those of the first of them
rates_before : (before after : List Event) → All AsksRate (before ++ after) → All AsksRate before
rates_before [] after all = All-nil AsksRate
rates_before (e ∷ before) after all = All-cons AsksRate e before (all 0 e (omega arith)) (rates_before before after (λ i d low. all (suc i) d (omega (arith, low))))

-- nothing stands above its line after some events, and after each that follows
pub all_below : (net : Topology) (before shown : List Event) → IsWithinRules net → All AsksRate (before ++ shown) →
    All StandsBelow (frames_from net (facts_after net before) shown)
all_below net before [] rules rates =
    All-cons StandsBelow _ [] (frame_below net _ rules (every_safe net before rules (rates_before before [] rates))) (All-nil StandsBelow)
all_below net before (e ∷ shown) rules rates =
    let past = facts_after net before in
    let next : facts_after net (before ++ e ∷ []) ≡ after_event net past e = facts_from_push net [] before e in
    let rest = all_below net (before ++ e ∷ []) shown rules (subst (All AsksRate) (sym (append_assoc before (e ∷ []) shown)) rates) in
    All-cons StandsBelow _ _ (frame_below net past rules (every_safe net before rules (rates_before before (e ∷ shown) rates)))
    (subst (λ (p : Past). All StandsBelow (frames_from net p shown)) next rest)
