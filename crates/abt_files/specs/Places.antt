-- Which files names are of, as far as the system says.
use Rattle.std.specs.Prelude.{◌≡◌, List, [], ◌∷◌, Any, ⊤, string_bytes}
use Rattle.abt_files.specs.declared.place.Place.{Place}
use Rattle.abt_files.specs.declared.place.Place.TheVariants.{There, New}

-- Two files are one: the same number on the same device; or, where none is yet, the same name in the same folder.
abbrev pub AreOne : Place → Place → Type 0
AreOne (There device number) (There other_device other_number) = (device ≡ other_device) × (number ≡ other_number)
AreOne (New device number name) (New other_device other_number other_name) =
    (device ≡ other_device) × (number ≡ other_number) × (string_bytes name ≡ string_bytes other_name)
AreOne place other = ⊥

-- No file that is written is used otherwise, and none is written twice.
abbrev pub ArePlacesApart : (used written : List Place) → Type 0
ArePlacesApart used [] = ⊤
ArePlacesApart used (place ∷ more) = ¬ (Any (AreOne place) used) × ¬ (Any (AreOne place) more) × ArePlacesApart used more
