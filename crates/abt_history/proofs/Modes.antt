-- What holds where a run keeps its history, from what holds there.
use Rattle.std.proofs.Common.{◌≡◌, Bool, true, false, refl}
use Rattle.abt_history.specs.Modes.{When}

pub where_kept : {A : Type 0} (b : Bool) → (b ≡ true → A) → When b A
where_kept true a = a refl
where_kept false a = tt

pub kept : {A : Type 0} (b : Bool) → b ≡ true → When b A → A
kept true is a = a
kept false is a = absurd (cc)

pub of_kept : {A B : Type 0} (b : Bool) → When b A → (A → B) → When b B
of_kept true a f = f a
of_kept false a f = tt

pub of_both : {A B C : Type 0} (b : Bool) → When b A → When b B → (A → B → C) → When b C
of_both true x y f = f x y
of_both false x y f = tt
