-- The line of an ask whose record the store didn't keep (docs/LIVE.md, "A source").
use Rattle.std.specs.Prelude.{ℕ, List, [], ◌∷◌, ◌++◌, codes}
use Rattle.std.specs.Fmt.{decimal}
use Rattle.json.specs.Json.{Json, string, object, no_members}
use Rattle.json.specs.Print.{print}
use Rattle.json.specs.Token as token
use Rattle.json.specs.Tree.{json_tokens}
use Rattle.abt_text.specs.Text.{Text, ◌⋅◌, newline}
use Rattle.abt_entry.specs.Members.{member_name}
use Rattle.abt_entry.specs.Written.{number_json, only, rate_json, rate_text, with_member}
use Rattle.abt_entry.specs.declared.member.Member.TheVariants as of

-- the ask, by a store that failed
abbrev pub failed_ask_json : (rate : ℕ) → Json
failed_ask_json rate = object (with_member of.Ask (rate_json rate) (with_member of.Store (string (codes "failed")) no_members))

abbrev pub failed_json : (conn rate : ℕ) → Json
failed_json conn rate =
    object (with_member of.Source (number_json conn) (with_member of.Did (failed_ask_json rate)
    (with_member of.Outcome (only of.Refused (string (codes "Keep"))) no_members)))

-- whether it is stored all the same is left open
abbrev pub failed_line : (conn rate : ℕ) → Text
failed_line conn rate = print (json_tokens (failed_json conn rate)) ⋅ newline

-- The tokens of parts of it, as they are written one after the other.
abbrev pub ask_tokens : (rate : ℕ) → List token.Token
ask_tokens rate =
    token.key (member_name of.Ask) ∷ token.string (rate_text rate) ∷ token.key (member_name of.Store) ∷ token.string (codes "failed") ∷ []

abbrev pub outcome_tokens : List token.Token
outcome_tokens = token.key (member_name of.Outcome) ∷ json_tokens (only of.Refused (string (codes "Keep")))

abbrev pub did_tokens : (rate : ℕ) → List token.Token
did_tokens rate = token.key (member_name of.Did) ∷ (json_tokens (failed_ask_json rate) ++ outcome_tokens)

abbrev pub source_tokens : (conn rate : ℕ) → List token.Token
source_tokens conn rate = token.key (member_name of.Source) ∷ token.number (decimal conn) ∷ did_tokens rate
