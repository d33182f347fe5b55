-- Names that are told apart by comparing them.
use Rattle.std.proofs.Common.{◌≡◌, ◌≢◌, List, [], ◌∷◌, map, refl, subst, arith, true, false, cond, Bool, ◌&&◌}
use Rattle.std.specs.Prelude.{All}
use Rattle.std.specs.Str.{bytes_eq}
use Rattle.std.proofs.lemmas.Bool.{and_parts, false≢true}
use Rattle.std.proofs.lemmas.List.Elements.{All-nil, All-cons}
use Rattle.std.proofs.lemmas.List.Kept.{AllPairs-cons}
use Rattle.std.proofs.lemmas.Slice.Eq.{bytes_eq-Decides}
use Rattle.std.specs.Str.{IsUtf8}
use Rattle.json.specs.Strict.{AreDistinct}
use Rattle.json.proofs.Printed.Utf8.{IsUtf8-are_ascii}
use Rattle.abt_entry.specs.Members.{member_name}
use Rattle.abt_entry.specs.declared.member.Member.{Member}
use Rattle.abt_entry.specs.declared.member.Member.TheVariants as of
use Rattle.abt_text.specs.Text.{Text}

abbrev pub is_new : Text → List Text → Bool
is_new key [] = true
is_new key (other ∷ more) = cond (bytes_eq key other) false (is_new key more)

abbrev pub are_new : List Text → Bool
are_new [] = true
are_new (key ∷ more) = is_new key more && are_new more

pick : (key other : Text) (t : Bool) (rest : Bool) → bytes_eq key other ≡ t → cond (bytes_eq key other) false rest ≡ true → (key ≢ other) × (rest ≡ true)
pick key other true rest same e = absurd (false≢true (subst (λ (b : Bool). cond b false rest ≡ true) same e))
pick key other false rest not e = (
  (λ is. false≢true (subst (λ (b : Bool). b ≡ true) not ((bytes_eq-Decides key other).1 is))),
  subst (λ (b : Bool). cond b false rest ≡ true) not e,
)

others : (key : Text) (more : List Text) → is_new key more ≡ true → All (λ other. key ≢ other) more
others key [] e = All-nil (λ other. key ≢ other)
others key (other ∷ more) e =
    let parts = pick key other (bytes_eq key other) (is_new key more) refl e in
    All-cons (λ x. key ≢ x) other more parts.0 (others key more parts.1)

no_pairs : AreDistinct []
no_pairs i j d low within = absurd (omega (arith, within))

distinct : (keys : List Text) → are_new keys ≡ true → AreDistinct keys
distinct [] e = no_pairs
distinct (key ∷ more) e =
    let parts = and_parts (is_new key more) (are_new more) e in
    AllPairs-cons (λ a b. a ≢ b) key more (others key more parts.0) (distinct more parts.1)

pub distinct_names : (names : List Member) → are_new (map member_name names) ≡ true → AreDistinct (map member_name names)
distinct_names names e = distinct (map member_name names) e

pub name_utf8 : (name : Member) → IsUtf8 (member_name name)
name_utf8 of.Net = IsUtf8-are_ascii (member_name of.Net) refl
name_utf8 of.Ports = IsUtf8-are_ascii (member_name of.Ports) refl
name_utf8 of.Connections = IsUtf8-are_ascii (member_name of.Connections) refl
name_utf8 of.Vpi = IsUtf8-are_ascii (member_name of.Vpi) refl
name_utf8 of.Vci = IsUtf8-are_ascii (member_name of.Vci) refl
name_utf8 of.Path = IsUtf8-are_ascii (member_name of.Path) refl
name_utf8 of.Delay = IsUtf8-are_ascii (member_name of.Delay) refl
name_utf8 of.Tau = IsUtf8-are_ascii (member_name of.Tau) refl
name_utf8 of.Port = IsUtf8-are_ascii (member_name of.Port) refl
name_utf8 of.Place = IsUtf8-are_ascii (member_name of.Place) refl
name_utf8 of.Caller = IsUtf8-are_ascii (member_name of.Caller) refl
name_utf8 of.Input = IsUtf8-are_ascii (member_name of.Input) refl
name_utf8 of.Reply = IsUtf8-are_ascii (member_name of.Reply) refl
name_utf8 of.Request = IsUtf8-are_ascii (member_name of.Request) refl
name_utf8 of.Answer = IsUtf8-are_ascii (member_name of.Answer) refl
name_utf8 of.Arrive = IsUtf8-are_ascii (member_name of.Arrive) refl
name_utf8 of.At = IsUtf8-are_ascii (member_name of.At) refl
name_utf8 of.Capacity = IsUtf8-are_ascii (member_name of.Capacity) refl
name_utf8 of.Seq = IsUtf8-are_ascii (member_name of.Seq) refl
name_utf8 of.Floor = IsUtf8-are_ascii (member_name of.Floor) refl
name_utf8 of.Ask = IsUtf8-are_ascii (member_name of.Ask) refl
name_utf8 of.Granted = IsUtf8-are_ascii (member_name of.Granted) refl
name_utf8 of.Refused = IsUtf8-are_ascii (member_name of.Refused) refl
name_utf8 of.Dropped = IsUtf8-are_ascii (member_name of.Dropped) refl
name_utf8 of.Source = IsUtf8-are_ascii (member_name of.Source) refl
name_utf8 of.Did = IsUtf8-are_ascii (member_name of.Did) refl
name_utf8 of.Outcome = IsUtf8-are_ascii (member_name of.Outcome) refl
name_utf8 of.Start = IsUtf8-are_ascii (member_name of.Start) refl
name_utf8 of.Store = IsUtf8-are_ascii (member_name of.Store) refl
name_utf8 of.Emit = IsUtf8-are_ascii (member_name of.Emit) refl
name_utf8 of.Told = IsUtf8-are_ascii (member_name of.Told) refl
name_utf8 of.Asked = IsUtf8-are_ascii (member_name of.Asked) refl
name_utf8 of.Again = IsUtf8-are_ascii (member_name of.Again) refl
name_utf8 of.Emitted = IsUtf8-are_ascii (member_name of.Emitted) refl
name_utf8 of.Cell = IsUtf8-are_ascii (member_name of.Cell) refl
name_utf8 of.Next = IsUtf8-are_ascii (member_name of.Next) refl
name_utf8 of.TooSoon = IsUtf8-are_ascii (member_name of.TooSoon) refl
name_utf8 of.NotEnabled = IsUtf8-are_ascii (member_name of.NotEnabled) refl
name_utf8 of.Sent = IsUtf8-are_ascii (member_name of.Sent) refl
name_utf8 of.Arrived = IsUtf8-are_ascii (member_name of.Arrived) refl
name_utf8 of.End = IsUtf8-are_ascii (member_name of.End) refl
