-- The entries that a fault names: each stands where events end for its actor, and there is one of each.
use Rattle.std.proofs.Common.{◌≡◌, ℕ, zero, suc, ◌<◌, List, [], ◌∷◌, ◌++◌, length, refl, sym, subst, arith}
use Rattle.std.specs.Prelude.{nat_lt}
use Rattle.std.proofs.lemmas.Bool.{cond_both}
use Rattle.std.proofs.lemmas.Bool.Decides.{nat_tests}
use Rattle.abt_net.specs.Topology.{Topology}
use Rattle.abt_model.specs.declared.event.Event.{Event}
use Rattle.abt_weave.specs.Actors.{IsAmong, placed_on, entry_count}
use Rattle.abt_weave.specs.Faults.{IsFirstMismatch, left_at, left_below, source_left, port_left, all_left}
use Rattle.abt_weave.specs.Projections.{steps_on, entries_on}
use Rattle.abt_weave.specs.Stuck.{RunJournals, port_journal, source_journal}
use Rattle.abt_weave.specs.declared.actor.Actor.{Actor}
use Rattle.abt_weave.specs.declared.actor.Actor.TheVariants.{Source, Port}
use Rattle.abt_weave.specs.declared.actor.Stuck.{Stuck}
use Rattle.abt_audit.specs.Parts.{IsOfNone, NamesEachOnce}

-- Lists of stuck entries.

-- each of them is so
abbrev pub Each : (Stuck → Type 0) → List Stuck → Type 0
Each P [] = Unit {0}
Each P (stuck ∷ more) = P stuck × Each P more

pub each_both : (P : Stuck → Type 0) (xs ys : List Stuck) → Each P xs → Each P ys → Each P (xs ++ ys)
each_both P [] ys a b = b
each_both P (x ∷ xs) ys a b = (a.0, each_both P xs ys a.1 b)

pub each_of : (P Q : Stuck → Type 0) (xs : List Stuck) → ((x : Stuck) → P x → Q x) → Each P xs → Each Q xs
each_of P Q [] f a = tt
each_of P Q (x ∷ xs) f a = (f x a.0, each_of P Q xs f a.1)

none_both : (a : Actor) (xs ys : List Stuck) → IsOfNone a xs → IsOfNone a ys → IsOfNone a (xs ++ ys)
none_both a [] ys p q = q
none_both a (x ∷ xs) ys p q = (p.0, none_both a xs ys p.1 q)

none_apart : (P Q : Actor → Type 0) → ((a : Actor) → P a → Q a → ⊥) → (a : Actor) (ys : List Stuck) → P a → Each (λ s. Q s.actor) ys → IsOfNone a ys
none_apart P Q apart a [] p qs = tt
none_apart P Q apart a (y ∷ ys) p qs = (λ same. apart a p (subst Q (sym same) qs.0), none_apart P Q apart a ys p qs.1)

pub once_both : (P Q : Actor → Type 0) → ((a : Actor) → P a → Q a → ⊥) → (xs ys : List Stuck) → Each (λ s. P s.actor) xs → Each (λ s. Q s.actor) ys
    → NamesEachOnce xs → NamesEachOnce ys → NamesEachOnce (xs ++ ys)
once_both P Q apart [] ys ps qs once also = also
once_both P Q apart (x ∷ xs) ys ps qs once also = (
  none_both x.actor xs ys once.0 (none_apart P Q apart x.actor ys ps.0 qs),
  once_both P Q apart xs ys ps.1 qs once.1 also,
)

-- Entries that are left, one of each actor.

abbrev IsSource : ℕ → Actor → Type 0
IsSource n (Source c) = c ≡ n
IsSource n (Port p) = ⊥

abbrev IsPort : ℕ → Actor → Type 0
IsPort n (Source c) = ⊥
IsPort n (Port p) = p ≡ n

-- what is left below a number, where each number has an actor of its own
record AreApart (P Q : ℕ → Actor → Type 0) : Type 0 where
  apart : (n : ℕ) (a : Actor) → P n a → Q n a → ⊥
  grows : (n : ℕ) (a : Actor) → P n a → P (suc n) a
  own : (n : ℕ) (a : Actor) → Q n a → P (suc n) a

once_below : (P Q : ℕ → Actor → Type 0) → AreApart P Q → (left : ℕ → List Stuck) (n : ℕ) → ((i : ℕ) → Each (λ s. Q i s.actor) (left i))
    → ((i : ℕ) → NamesEachOnce (left i)) → NamesEachOnce (left_below left n) × Each (λ s. P n s.actor) (left_below left n)
once_below P Q are left zero each once = (tt, tt)
once_below P Q are left (suc n) each once =
    let before = once_below P Q are left n each once in (
      once_both (P n) (Q n) (are.apart n) (left_below left n) (left n) before.1 (each n) before.0 (once n),
      each_both (λ s. P (suc n) s.actor) (left_below left n) (left n)
          (each_of (λ s. P n s.actor) (λ s. P (suc n) s.actor) (left_below left n) (λ s. are.grows n s.actor) before.1)
          (each_of (λ s. Q n s.actor) (λ s. P (suc n) s.actor) (left n) (λ s. are.own n s.actor) (each n)),
    )

once_at : (actor : Actor) (place entries : ℕ) → NamesEachOnce (left_at actor place entries)
once_at actor place entries = cond_both (nat_lt place entries) (record { actor = actor; place = place } ∷ []) [] NamesEachOnce (λ _. (tt, tt)) (λ _. tt)

each_at : (Q : Actor → Type 0) (actor : Actor) (place entries : ℕ) → Q actor → Each (λ s. Q s.actor) (left_at actor place entries)
each_at Q actor place entries is =
    cond_both (nat_lt place entries) (record { actor = actor; place = place } ∷ []) [] (Each (λ s. Q s.actor)) (λ _. (is, tt)) (λ _. tt)

sources_apart : AreApart (λ n. IsAmong n 0) IsSource
sources_apart = record { apart = apart; grows = grows; own = own }
  where
    apart : (n : ℕ) (a : Actor) → IsAmong n 0 a → IsSource n a → ⊥
    apart n (Source c) low is = omega (arith, low, is)
    apart n (Port p) low is = is

    grows : (n : ℕ) (a : Actor) → IsAmong n 0 a → IsAmong (suc n) 0 a
    grows n (Source c) low = omega (arith, low)
    grows n (Port p) low = low

    own : (n : ℕ) (a : Actor) → IsSource n a → IsAmong (suc n) 0 a
    own n (Source c) is = omega (arith, is)
    own n (Port p) is = absurd is

ports_apart : AreApart (λ n. IsAmong 0 n) IsPort
ports_apart = record { apart = apart; grows = grows; own = own }
  where
    apart : (n : ℕ) (a : Actor) → IsAmong 0 n a → IsPort n a → ⊥
    apart n (Source c) low is = is
    apart n (Port p) low is = omega (arith, low, is)

    grows : (n : ℕ) (a : Actor) → IsAmong 0 n a → IsAmong 0 (suc n) a
    grows n (Source c) low = low
    grows n (Port p) low = omega (arith, low)

    own : (n : ℕ) (a : Actor) → IsPort n a → IsAmong 0 (suc n) a
    own n (Source c) is = absurd is
    own n (Port p) is = omega (arith, is)

pub left_once : (net : Topology) (js : RunJournals) (ended : List Event) → NamesEachOnce (all_left net js ended)
left_once net js ended =
    let sources = once_below (λ n. IsAmong n 0) IsSource sources_apart (source_left net js ended) (length js.sources)
    (λ c. each_at (IsSource c) (Source c) (length (entries_on net c ended)) (length (source_journal js c)) refl)
    (λ c. once_at (Source c) (length (entries_on net c ended)) (length (source_journal js c))) in
    let ports = once_below (λ n. IsAmong 0 n) IsPort ports_apart (port_left net js ended) (length js.ports)
    (λ p. each_at (IsPort p) (Port p) (length (steps_on net p ended)) (length (port_journal js p)) refl)
    (λ p. once_at (Port p) (length (steps_on net p ended)) (length (port_journal js p))) in
    once_both (IsAmong (length js.sources) 0) (IsAmong 0 (length js.ports)) apart (left_below (source_left net js ended) (length js.sources))
    (left_below (port_left net js ended) (length js.ports)) sources.1 ports.1 sources.0 ports.0
  where
    apart : (a : Actor) → IsAmong (length js.sources) 0 a → IsAmong 0 (length js.ports) a → ⊥
    apart (Source c) low none = omega (arith, none)
    apart (Port p) none low = omega (arith, none)

-- What a fault names.

-- an entry stands where the events end for its actor
abbrev pub IsNext : Topology → RunJournals → List Event → Stuck → Type 0
IsNext net js ended s = (s.place ≡ placed_on net ended s.actor) × (s.place < entry_count js s.actor)

next_at : (net : Topology) (js : RunJournals) (ended : List Event) (actor : Actor)
    → Each (IsNext net js ended) (left_at actor (placed_on net ended actor) (entry_count js actor))
next_at net js ended actor =
    let place = placed_on net ended actor in
    cond_both (nat_lt place (entry_count js actor)) (record { actor = actor; place = place } ∷ []) [] (Each (IsNext net js ended))
    (λ less. ((refl, grind (arith, nat_tests, less)), tt)) (λ _. tt)

each_below : (P : Stuck → Type 0) (left : ℕ → List Stuck) (n : ℕ) → ((i : ℕ) → Each P (left i)) → Each P (left_below left n)
each_below P left zero each = tt
each_below P left (suc n) each = each_both P (left_below left n) (left n) (each_below P left n each) (each n)

pub left_next : (net : Topology) (js : RunJournals) (ended : List Event) → Each (IsNext net js ended) (all_left net js ended)
left_next net js ended =
    each_both (IsNext net js ended) (left_below (source_left net js ended) (length js.sources)) (left_below (port_left net js ended) (length js.ports))
    (each_below (IsNext net js ended) (source_left net js ended) (length js.sources) (λ c. next_at net js ended (Source c)))
    (each_below (IsNext net js ended) (port_left net js ended) (length js.ports) (λ p. next_at net js ended (Port p)))

pub mismatch_place : (net : Topology) (js : RunJournals) (ended : List Event) (actor : Actor) (place : ℕ) → IsFirstMismatch net js ended actor place
    → place ≡ placed_on net ended actor
mismatch_place net js ended (Source c) place first = first.0
mismatch_place net js ended (Port p) place first = first.0
