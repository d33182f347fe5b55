-- The values of members: numbers, words, rates and channels.
use Rattle.std.specs.Prelude.{ℕ, ◌^◌, ◌&&◌, nat_le, Bool, if◌then◌else◌, List, length, Option, Some, None, option_and_then}
use Rattle.std.specs.Char.{is_ascii_digit}
use Rattle.std.specs.List.{list_all}
use Rattle.std.specs.Str.Parse.{digits_value}
use Rattle.json.specs.Json.{Json}
use Rattle.json.specs.Find.{get, as_number, as_str, as_bool}
use Rattle.abt_text.specs.Text.{Text}
use Rattle.abt_text.specs.Words.{below}
use Rattle.abt_format.specs.Values.{rate_of}
use Rattle.abt_entry.specs.declared.member.Member.{Member}
use Rattle.abt_entry.specs.Members.{member_name}
use Rattle.abt_text.specs.FirstFault.{◌>>=◌}
use Rattle.abt_entry.specs.Reading.{Read, needed}

-- the value of a member, if there is one
abbrev pub find : Member → Json → Option Json
find name json = get (member_name name) json

-- the value of a member that has to be there
abbrev pub member_at : Member → Json → Read Json
member_at name json = needed name (find name json)

-- 1 to 20 decimal digits, and nothing else
abbrev pub is_whole : Text → Bool
is_whole text = nat_le 1 (length text) && nat_le (length text) 20 && list_all is_ascii_digit text

abbrev pub digits_of : Text → Option ℕ
digits_of text = if is_whole text then Some (digits_value 10 text) else None

-- the number that a value is, if it is whole, without a sign, a point or an exponent, and below a limit
abbrev pub whole_below : ℕ → Json → Option ℕ
whole_below limit json = below limit (option_and_then digits_of (as_number json))

-- such a number that is the value of a member
abbrev pub whole_of : ℕ → Member → Json → Read ℕ
whole_of limit name json = needed name (whole_below limit json)

-- such a number of a member that has to be there
abbrev pub whole_at : ℕ → Member → Json → Read ℕ
whole_at limit name json = do
  value ← member_at name json
  whole_of limit name value

-- the rate whose code a value is, a text of four hexadecimal digits
abbrev pub rate_as : Member → Json → Read ℕ
rate_as name json = needed name (option_and_then rate_of (as_str json))

abbrev pub rate_at : Member → Json → Read ℕ
rate_at name json = do
  value ← member_at name json
  rate_as name value

-- what is read of the value of a member, if it is there, and else the other
abbrev pub if_there : {A : Type 0} → Option Json → (Json → Read A) → Read A → Read A
if_there (Some value) reading other = reading value
if_there None reading other = other

abbrev pub truth_at : Member → Json → Read Bool
truth_at name json = do
  value ← member_at name json
  needed name (as_bool value)
