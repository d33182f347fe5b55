-- Names of files.
use Rattle.std.specs.Prelude.{ℕ, ◌≡◌, List, [], ◌∷◌, Any, ⊤, codes}
use Rattle.abt_text.specs.Text.{Text, ◌⋅◌, decimal}

-- the name of the standard input or the standard output
abbrev pub standard : Text
standard = codes "-"

-- the name of a file that is written beside another, in the folder of a name that ends with a slash, or of no name
abbrev pub beside : (folder : Text) → (number : ℕ) → Text
beside folder number = folder ⋅ codes ".abt." ⋅ decimal number ⋅ codes ".part"

-- No file that is written is used otherwise, nor written twice, as far as the words of their names say.
abbrev pub AreNamesApart : {Name : Type 0} → (Name → Text) → (used written : List Name) → Type 0
AreNamesApart text used [] = ⊤
AreNamesApart text used (name ∷ more) =
    ¬ (Any (λ other. text other ≡ text name) used) × ¬ (Any (λ other. text other ≡ text name) more) × AreNamesApart text used more
