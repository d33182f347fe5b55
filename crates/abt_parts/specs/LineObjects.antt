-- Answers to lines as objects (docs/FORMATS.md, "Parts by hand"): one for each line, which has its number.
use Rattle.std.specs.Prelude.{◌≡◌, ℕ, ◌+◌, List, [], ◌∷◌, ◌++◌, Option, Some, None, Result, Ok, Err, codes}
use Rattle.json.specs.Token.{Token, key, null}
use Rattle.abt_entry.specs.ObjectMembers.{text_member, number_member}
use Rattle.abt_json.specs.Kinds.{exact_members, kind_object}
use Rattle.abt_text.specs.Text.{Text, ◌⋅◌}
use Rattle.abt_parts.specs.Lines.{fault_name}
use Rattle.abt_parts.specs.declared.fault.LineFault.{LineFault}

-- the object of a kind that answers the line of a number
abbrev pub line_object : (kind : Text) → ℕ → List Token → Text
line_object kind number members = kind_object kind (number_member (codes "line") number ++ members)

-- the answer to a line that has a fault
abbrev pub named_fault_object : ℕ → (name : Text) → Text
named_fault_object number name = line_object (codes "fault") number (text_member (codes "fault") name)

abbrev pub fault_object : ℕ → LineFault → Text
fault_object number fault = named_fault_object number (fault_name fault)

-- a moment that may be absent
abbrev pub moment_members : (name as_text : Text) → Option ℕ → List Token
moment_members name as_text (Some moment) = exact_members name as_text moment
moment_members name as_text None = key name ∷ null ∷ []

-- the answer to a moment, or else the fault
abbrev pub object_to : (answer : ℕ → Text) → ℕ → Result ℕ LineFault → Text
object_to answer number (Ok moment) = answer moment
object_to answer number (Err fault) = fault_object number fault

-- a line is answered so, and what is kept is then that
abbrev pub IsObject : {Kept : Type 0} → (object : ℕ → Kept → Option Text → Text) → (next : Kept → Option Text → Kept) → (old : Kept) → ℕ → Option Text
    → (said : Text) → (new : Kept) → Type 0
IsObject object next old number line said new = (said ≡ object number old line) × (new ≡ next old line)

-- The answers to some lines, the first of this number, by the answer to a line, what is kept then, and what is said
-- behind the last line.
abbrev pub objects_of : {Kept : Type 0} → (object : ℕ → Kept → Option Text → Text) → (next : Kept → Option Text → Kept) → (last : Kept → Text)
    → Kept → ℕ → List (Option Text) → Text
objects_of object next last kept number [] = last kept
objects_of object next last kept number (line ∷ lines) =
    object number kept line ⋅ objects_of object next last (next kept line) (number + 1) lines
