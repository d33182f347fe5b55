-- Readings that end at the first fault, and the result of a function that needs memory for them.
use Rattle.std.specs.Prelude.{◌≡◌, ◌⊎◌, List, Result, Ok, Err, Vec}
use Rattle.std.specs.declared.alloc.Global.{Global}

-- the first, and then what is read with it; its fault stands
infixl 10 ◌>>=◌
abbrev pub ◌>>=◌ : {A B Fault : Type 0} → Result A Fault → (A → Result B Fault) → Result B Fault
Ok x >>= f = f x
Err fault >>= f = Err fault

-- The result is the exact one, seen so, or memory was refused, which this fault tells.
abbrev pub GivesOr : {A B Fault : Type 0} → (memory : Fault) → (B → A) → Result A Fault → Result B Fault → Type 0
GivesOr memory seen exact (Ok x) = exact ≡ Ok (seen x)
GivesOr memory seen exact (Err fault) = (fault ≡ memory) ⊎ (exact ≡ Err fault)

-- a list, not seen by where it lies in memory
abbrev pub listed : {A : Type 0} → Vec A Global → List A
listed items = items.items
