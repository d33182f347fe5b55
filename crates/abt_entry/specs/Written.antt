-- Numbers, rates, channels, requests and answers, as they are written.
use Rattle.std.specs.Prelude.{◌≡◌, ℕ, List, [], ◌∷◌, ◌++◌, OnOk, Result}
use Rattle.std.specs.Fmt.{decimal}
use Rattle.std.specs.Int.{w16, to_be_bytes}
use Rattle.json.specs.Json.{Json, Members, number, string, boolean, object, member, no_members}
use Rattle.json.specs.Token as token
use Rattle.json.specs.Written.{Written}
use Rattle.hex.specs.Hex.{encode_lower}
use Rattle.abt_cell.specs.Channel.{Channel}
use Rattle.abt_cell.specs.Message.{Terms, Reply}
use Rattle.abt_rate.specs.Code.{code_of}
use Rattle.abt_text.specs.Text.{Text}
use Rattle.abt_entry.specs.declared.member.Member.{Member}
use Rattle.abt_entry.specs.declared.member.Member.TheVariants as of
use Rattle.abt_entry.specs.Members.{member_name}

-- The tokens are appended, or else the write failed; what stood before the writer stays.
pub record Puts {E : Type 0} (result : Result (Unit {0}) E) (old new : Written) (tokens : List token.Token) : Type 0 where
  pub ok : OnOk result (new.tokens ≡ old.tokens ++ tokens)
  pub before : new.before ≡ old.before

-- one member, and then more
abbrev pub with_member : Member → Json → Members → Members
with_member name json more = member (member_name name) json more

-- an object of one member
abbrev pub only : Member → Json → Json
only name json = object (with_member name json no_members)

abbrev pub number_json : ℕ → Json
number_json n = number (decimal n)

-- the canonical code of a rate as four hexadecimal digits
abbrev pub rate_text : ℕ → Text
rate_text rate = encode_lower (to_be_bytes w16 (code_of rate))

abbrev pub rate_json : ℕ → Json
rate_json rate = string (rate_text rate)

abbrev pub with_channel : Channel → Members → Members
with_channel vc more = with_member of.Vpi (number_json vc.vpi) (with_member of.Vci (number_json vc.vci) more)

abbrev pub with_terms : Terms → Members → Members
with_terms terms more =
    with_channel terms.vc (with_member of.Seq (number_json terms.seq)
    (with_member of.Floor (rate_json terms.floor) (with_member of.Ask (rate_json terms.ask) more)))

-- a request and an answer, by their fields
abbrev pub request_json : Terms → Json
request_json terms = object (with_terms terms no_members)

abbrev pub answer_json : Reply → Json
answer_json reply = object (with_terms reply.terms (with_member of.Granted (boolean reply.granted) no_members))

-- the tokens of the members of a request
abbrev pub rates_tokens : (floor ask : ℕ) → List token.Token
rates_tokens floor ask =
    token.key (member_name of.Floor) ∷ token.string (rate_text floor) ∷ token.key (member_name of.Ask) ∷ token.string (rate_text ask) ∷ []

abbrev pub asked_tokens : Terms → List token.Token
asked_tokens terms = token.key (member_name of.Seq) ∷ token.number (decimal terms.seq) ∷ rates_tokens terms.floor terms.ask

abbrev pub channel_tokens : Channel → List token.Token
channel_tokens vc =
    token.key (member_name of.Vpi) ∷ token.number (decimal vc.vpi) ∷ token.key (member_name of.Vci) ∷ token.number (decimal vc.vci) ∷ []

abbrev pub terms_tokens : Terms → List token.Token
terms_tokens terms = channel_tokens terms.vc ++ asked_tokens terms
