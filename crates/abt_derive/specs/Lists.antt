-- The first items of a list, as long as they pass a test.
use Rattle.std.specs.Prelude.{Bool, List, [], ◌∷◌, if◌then◌else◌}

abbrev pub first_ones : {A : Type 0} → (A → Bool) → List A → List A
first_ones test [] = []
first_ones test (item ∷ items) = if test item then item ∷ first_ones test items else []

-- what stands behind these
abbrev pub behind_first : {A : Type 0} → (A → Bool) → List A → List A
behind_first test [] = []
behind_first test (item ∷ items) = if test item then behind_first test items else item ∷ items
