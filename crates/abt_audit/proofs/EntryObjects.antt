-- Entries as objects: values that are written already, within an object.
use Rattle.std.proofs.Common.{◌≡◌, ◌≢◌, ◌∙◌, ℕ, Bool, true, false, fold, List, [], ◌∷◌, ◌++◌, refl, sym, ap, append_assoc, append-nil}
use Rattle.std.specs.Prelude.{Option, Some, None, option_map, unwrap_or, codes, OnOk, Result, Ok, Err, String}
use Rattle.std.specs.declared.alloc.Global.{Global}
use Rattle.json.specs.Json.{Json, Items, Members, null, boolean, number, string, array, object, no_items, item, no_members, member}
use Rattle.json.specs.Token.{Token}
use Rattle.json.specs.Tree.{json_tokens, items_tokens, members_tokens}
use Rattle.json.specs.Print.{ends, print, print_from, escape_byte}
use Rattle.json.proofs.Printed.Tokens.{print_from-append, ends_push}
use Rattle.abt_entry.specs.ObjectMembers.{object_line, text_member}
use Rattle.abt_text.specs.Text.{Text, ◌⋅◌, newline}
use Rattle.abt_journal_text.specs.declared.spot.Spot.{Spot}
use Rattle.abt_weave.specs.declared.actor.Actor.{Actor}
use Rattle.abt_audit.specs.EntryObjects.{answer_text, entry_member, entry_object, printed, printed_at, protocol_member, said_text, since_members, stuck_members, why_members, words_of}
use Rattle.abt_audit.specs.Objects.{kind_members}
use Rattle.abt_audit.specs.declared.entry_object.Said.{Said}

pub why_of_some : (names : List (String Global)) (reason : Text) (since : Option Spot) → reason ≢ []
    → why_members names reason since ≡ text_member (codes "why") (words_of reason) ++ since_members names since
why_of_some names [] since some = absurd (some refl)
why_of_some names (octet ∷ more) since some = refl

-- whether a value has just ended behind these tokens
abbrev after : Bool → List Token → Bool
after c ts = fold (λ _ t. ends t) c ts

mutual
  value_ends : (j : Json) (c : Bool) (more : List Token) → after c (json_tokens j ++ more) ≡ after true more
  value_ends null c more = refl
  value_ends (boolean b) c more = refl
  value_ends (number s) c more = refl
  value_ends (string s) c more = refl
  value_ends (array js) c more = items_end js false more
  value_ends (object ms) c more = members_end ms false more

  items_end : (js : Items) (c : Bool) (more : List Token) → after c (items_tokens js ++ more) ≡ after true more
  items_end no_items c more = refl
  items_end (item j js) c more =
      ap (after c) (append_assoc (json_tokens j) (items_tokens js) more) ∙ value_ends j c (items_tokens js ++ more) ∙ items_end js true more

  members_end : (ms : Members) (c : Bool) (more : List Token) → after c (members_tokens ms ++ more) ≡ after true more
  members_end no_members c more = refl
  members_end (member k j ms) c more =
      ap (after false) (append_assoc (json_tokens j) (members_tokens ms) more) ∙ value_ends j false (members_tokens ms ++ more) ∙ members_end ms true more

value_then : (j : Json) (more : List Token) → print (json_tokens j ++ more) ≡ printed j ++ print_from true more
value_then j more =
    print_from-append false (json_tokens j) more
    ∙ ap (λ c. printed j ++ print_from c more) (ap (after false) (sym (append-nil (json_tokens j))) ∙ value_ends j false [])

-- what is printed of tokens, a key, its value, and more
key_then : (ts more : List Token) (name : Text) (j : Json) → print ((ts ++ Token.key name ∷ []) ++ (json_tokens j ++ more))
    ≡ print (ts ++ Token.key name ∷ []) ++ (printed j ++ print_from true more)
key_then ts more name j =
    print_from-append false (ts ++ Token.key name ∷ []) (json_tokens j ++ more)
    ∙ ap (λ c. print (ts ++ Token.key name ∷ []) ++ print_from c (json_tokens j ++ more)) (ends_push false ts (Token.key name))
    ∙ ap (λ l. print (ts ++ Token.key name ∷ []) ++ l) (value_then j more)

answer_then : (a : Option Json) → print_from true (protocol_member a ++ Token.end_object ∷ []) ≡ answer_text (option_map printed a) ++ 125 ∷ []
unfolding print_from escape_byte
answer_then None = refl
answer_then (Some a) = ap (λ l. codes ",\"protocol\":" ++ l) (value_then a (Token.end_object ∷ []))

-- an object that ends by what an entry says, and maybe by what the protocol answers
object_ended : (ts : List Token) (e : Json) (a : Option Json)
    → print (ts ++ Token.key (codes "entry") ∷ []) ++ (printed e ++ (answer_text (option_map printed a) ++ codes "}\n"))
    ≡ print (ts ++ (entry_member e ++ (protocol_member a ++ Token.end_object ∷ []))) ++ newline
object_ended ts e a =
    let front = print (ts ++ Token.key (codes "entry") ∷ []) in
    let answered = answer_text (option_map printed a) in
    let more = protocol_member a ++ Token.end_object ∷ [] in
    let whole : print ((ts ++ Token.key (codes "entry") ∷ []) ++ (json_tokens e ++ more)) ++ newline ≡ (front ++ (printed e ++ (answered ++ 125 ∷ []))) ++ newline =
    ap (λ l. l ++ newline) (key_then ts more (codes "entry") e ∙ ap (λ l. front ++ (printed e ++ l)) (answer_then a)) in
    sym (ap (λ l. print l ++ newline) (sym (append_assoc ts (Token.key (codes "entry") ∷ []) (json_tokens e ++ more))) ∙ whole
    ∙ append_assoc front (printed e ++ (answered ++ 125 ∷ [])) newline
    ∙ ap (λ l. front ++ l) (append_assoc (printed e) (answered ++ 125 ∷ []) newline
    ∙ ap (λ l. printed e ++ l) (append_assoc answered (125 ∷ []) newline)))

-- members of an object, one after the other
members_joined : (kind stuck why entry answer last : List Token)
    → ((kind ++ stuck) ++ why) ++ (entry ++ (answer ++ last)) ≡ (kind ++ (stuck ++ why ++ entry ++ answer)) ++ last
members_joined kind stuck why entry answer last = simp (append_assoc)

-- the object of an entry is there
object_told : (kind : Text) (names : List (String Global)) (actor : Actor) (place : ℕ) (why : List Token) (a : Option Json) (o : Option (Spot × Json))
    (spot : Spot) (entry : Text) (answer : Option Text) (old before new : Text) (ts : List Token) → Some (spot, entry) ≡ option_map printed_at o
    → answer ≡ option_map printed a → before ≡ old
    → ts ≡ Token.begin_object ∷ (kind_members kind (stuck_members names spot actor place) ++ why)
    → new ≡ before ⋅ print (ts ++ Token.key (codes "entry") ∷ []) ⋅ entry ⋅ answer_text answer ⋅ codes "}\n"
    → new ≡ old ⋅ entry_object kind names actor place why a o
object_told kind names actor place why a None spot entry answer old before new ts there answers stays holds is = absurd (cc)
object_told kind names actor place why a (Some said) spot entry answer old before new ts there answers stays holds is =
    let here : spot ≡ said.0 = ap (λ (o : Option (Spot × Text)). (unwrap_or o (spot, entry)).0) there in
    let says : entry ≡ printed said.1 = ap (λ (o : Option (Spot × Text)). (unwrap_or o (spot, entry)).1) there in
    let front : List Token = Token.begin_object ∷ (kind_members kind (stuck_members names said.0 actor place) ++ why) in
    let tokens : ts ≡ front = holds ∙ ap (λ (s : Spot). Token.begin_object ∷ (kind_members kind (stuck_members names s actor place) ++ why)) here in
    is ∙ ap (λ (b : Text). b ++ (print (ts ++ Token.key (codes "entry") ∷ []) ++ (entry ++ (answer_text answer ++ codes "}\n")))) stays
    ∙ ap (λ (l : Text). old ++ l) (
    ap (λ (t : List Token). print (t ++ Token.key (codes "entry") ∷ []) ++ (entry ++ (answer_text answer ++ codes "}\n"))) tokens
    ∙ ap (λ (l : Text). print (front ++ Token.key (codes "entry") ∷ []) ++ (l ++ (answer_text answer ++ codes "}\n"))) says
    ∙ ap (λ (l : Option Text). print (front ++ Token.key (codes "entry") ∷ []) ++ (printed said.1 ++ (answer_text l ++ codes "}\n"))) answers
    ∙ object_ended front said.1 a
    ∙ ap (λ (l : List Token). print (Token.begin_object ∷ l) ++ newline)
    (members_joined (text_member (codes "kind") kind) (stuck_members names said.0 actor place) why (entry_member said.1) (protocol_member a) (Token.end_object ∷ []))
    )

-- The object of an entry is there, by what was added one after the other.
pub entry_told : (kind : Text) (names : List (String Global)) (actor : Actor) (place : ℕ) (why told : List Token) (a : Option Json) (o : Option (Spot × Json))
    (spot : Spot) (entry octets : Text) (answer : Option Text) (old before new : Text) (first ts : List Token) → Some (spot, entry) ≡ option_map printed_at o
    → answer ≡ option_map printed a → before ≡ old → first ≡ Token.begin_object ∷ kind_members kind (stuck_members names spot actor place)
    → ts ≡ first ++ told → told ≡ why → octets ≡ entry
    → new ≡ before ⋅ print (ts ++ Token.key (codes "entry") ∷ []) ⋅ octets ⋅ answer_text answer ⋅ codes "}\n"
    → new ≡ old ⋅ entry_object kind names actor place why a o
entry_told kind names actor place why told a o spot entry octets answer old before new first ts there answers stays begun more told_is octets_are is =
    let front : List Token = Token.begin_object ∷ kind_members kind (stuck_members names spot actor place) in
    object_told kind names actor place why a o spot entry answer old before new ts there answers stays
    (more ∙ ap (λ (t : List Token). t ++ told) begun ∙ ap (λ (m : List Token). front ++ m) told_is)
    (is ∙ ap (λ (e : Text). before ++ (print (ts ++ Token.key (codes "entry") ∷ []) ++ (e ++ (answer_text answer ++ codes "}\n")))) octets_are)

pub on_ok : {T E : Type 0} (r : Result T E) (P Q : Type 0) → (P → Q) → OnOk r P → OnOk r Q
on_ok (Ok x) P Q f p = f p
on_ok (Err e) P Q f p = tt

-- There is none without its entry.
none_told : (kind : Text) (names : List (String Global)) (actor : Actor) (place : ℕ) (why : List Token) (a : Option Json) (o : Option (Spot × Json))
    → None ≡ option_map printed_at o → entry_object kind names actor place why a o ≡ []
none_told kind names actor place why a None there = refl
none_told kind names actor place why a (Some said) there = absurd (cc)

pub unsaid : (found : Option Said) (kind : Text) (names : List (String Global)) (actor : Actor) (place : ℕ) (why : List Token) (a : Option Json)
    (o : Option (Spot × Json)) → found ≡ None → option_map said_text found ≡ option_map printed_at o → [] ≡ entry_object kind names actor place why a o
unsaid found kind names actor place why a o none there =
    sym (none_told kind names actor place why a o (ap (option_map said_text) (sym none) ∙ there))

-- what was found of an entry, if something was
pub said_of_some : (found : Option Said) (said : Said) (o : Option (Spot × Json)) → found ≡ Some said → option_map said_text found ≡ option_map printed_at o
    → Some (said.spot, said.entry.items) ≡ option_map printed_at o
said_of_some found said o is there = ap (option_map said_text) (sym is) ∙ there
