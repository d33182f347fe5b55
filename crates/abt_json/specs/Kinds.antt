-- Objects of a kind, and numbers that not every reader holds exactly (docs/FORMATS.md, "JSON").
use Rattle.std.specs.Prelude.{ℕ, ◌^◌, List, [], ◌++◌, codes, nat_lt, if◌then◌else◌}
use Rattle.json.specs.Token.{Token}
use Rattle.abt_text.specs.Text.{Text, decimal}
use Rattle.abt_entry.specs.ObjectMembers.{text_member, number_member, object_line}

-- an object of a kind
abbrev pub kind_object : Text → List Token → Text
kind_object kind members = object_line (text_member (codes "kind") kind ++ members)

-- up to here each whole number is a double
abbrev pub double_max : ℕ
double_max = 2 ^ 53

-- a number above that as a text, in a member of its own
abbrev pub text_of_great : (name : Text) → ℕ → List Token
text_of_great name n = if nat_lt double_max n then text_member name (decimal n) else []

-- a number, and behind it that text
abbrev pub exact_members : (name as_text : Text) → ℕ → List Token
exact_members name as_text n = number_member name n ++ text_of_great as_text n
