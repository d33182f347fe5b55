-- Values whose numbers are decimal digits and whose texts are UTF-8: they are printed as UTF-8 without a line feed, and read back.
use Rattle.std.proofs.Common.{◌≡◌, ◌≢◌, inl, inr, ℕ, zero, suc, ◌<◌, ◌≤◌, ◌^◌, ◌++◌, ◌==◌, List, [], ◌∷◌, length, get_or, refl, sym, subst, arith, true, false, cond, Bool, ◌&&◌, decimal}
use Rattle.std.specs.Prelude.{⊤, Some}
use Rattle.std.specs.Str.{IsUtf8}
use Rattle.std.proofs.lemmas.Bool.{cases_eq, cases_lt, ne_eqb, eq-eqb, and_parts, false≢true}
use Rattle.std.proofs.lemmas.Fmt.{decimal_is_IsNumeral, IsAscii-decimal}
use Rattle.std.proofs.lemmas.Str.{IsUtf8-append, IsUtf8-from_ascii, IsUtf8-nil}
use Rattle.std.proofs.lemmas.Str.Parse.{digit_at}
use Rattle.json.specs.Json.{Json, null, boolean, number, string, array, object, Items, no_items, item, Members, no_members, member, document, max_depth}
use Rattle.json.specs.Token as token
use Rattle.json.specs.Print.{escape_byte, escape, quoted, token_text, separator, begins, ends, print_from, print, IsNumber}
use Rattle.json.specs.Tree.{json_tokens, items_tokens, members_tokens, depth, HasNumbers, ItemsHaveNumbers, MembersHaveNumbers}
use Rattle.json.proofs.Printed.Trees.{document-print}
use Rattle.json.proofs.Printed.Decimals.{IsNumber-decimal}
use Rattle.json.proofs.Printed.Strings.{escape_byte_plain}
use Rattle.json.proofs.Printed.Utf8.{IsUtf8-are_ascii, IsUtf8-quoted, IsUtf8-key, IsUtf8-boolean, IsUtf8-separator}
use Rattle.abt_text.specs.Text.{Text}
use Rattle.abt_text.specs.Words.{Lacks}

-- decimal digits of a number of 64 bits
abbrev pub IsDecimal : Text → Type 0
IsDecimal text = (n : ℕ) × (n < 2 ^ 64) × (text ≡ decimal n)

abbrev mutual
  pub IsPlainJson : Json → Type 0
  IsPlainJson null = ⊤
  IsPlainJson (boolean b) = ⊤
  IsPlainJson (number s) = IsDecimal s
  IsPlainJson (string s) = IsUtf8 s
  IsPlainJson (array js) = ArePlainItems js
  IsPlainJson (object ms) = ArePlainMembers ms

  pub ArePlainItems : Items → Type 0
  ArePlainItems no_items = ⊤
  ArePlainItems (item j js) = IsPlainJson j × ArePlainItems js

  pub ArePlainMembers : Members → Type 0
  ArePlainMembers no_members = ⊤
  ArePlainMembers (member k j ms) = IsUtf8 k × IsPlainJson j × ArePlainMembers ms

is_number : (s : Text) → IsDecimal s → IsNumber s
is_number s (n, fits, is) = subst IsNumber (sym is) (IsNumber-decimal n fits)

mutual
  pub has_numbers : (j : Json) → IsPlainJson j → HasNumbers j
  has_numbers null h = tt
  has_numbers (boolean b) h = tt
  has_numbers (number s) h = is_number s h
  has_numbers (string s) h = tt
  has_numbers (array js) h = items_have js h
  has_numbers (object ms) h = members_have ms h

  items_have : (js : Items) → ArePlainItems js → ItemsHaveNumbers js
  items_have no_items h = tt
  items_have (item j js) h = (has_numbers j h.0, items_have js h.1)

  members_have : (ms : Members) → ArePlainMembers ms → MembersHaveNumbers ms
  members_have no_members h = tt
  members_have (member k j ms) h = (has_numbers j h.1, members_have ms h.2)

-- the value is read back
pub read_back : (j : Json) → IsPlainJson j → depth j ≤ max_depth → document (print (json_tokens j)) ≡ Some j
read_back j h shallow = document-print j (has_numbers j h) shallow

-- octets none of which is a line feed
abbrev pub Free : Text → Type 0
Free [] = ⊤
Free (x ∷ xs) = (x ≢ 10) × Free xs

pub free_both : (xs ys : Text) → Free xs → Free ys → Free (xs ++ ys)
free_both [] ys p q = q
free_both (x ∷ xs) ys p q = (p.0, free_both xs ys p.1 q)

pub lacks : (xs : Text) → Free xs → Lacks 10 xs
lacks [] p i low = absurd (omega (arith, low))
lacks (x ∷ xs) p zero low = p.0
lacks (x ∷ xs) p (suc i) low = lacks xs p.1 i (omega (arith, low))

above : (x : ℕ) → 10 < x → x ≢ 10
above x high e = absurd (omega (arith, high, e))

abbrev is_free : Text → Bool
is_free [] = true
is_free (x ∷ xs) = cond (x == 10) false (is_free xs)

free_sound : (xs : Text) → is_free xs ≡ true → Free xs
free_sound [] e = tt
free_sound (x ∷ xs) e = elim (cases_eq x 10) [
  | inl same ↦ absurd (false≢true (subst (λ (b : Bool). cond b false (is_free xs) ≡ true) (eq-eqb x 10 same) e))
  | inr not ↦ (not, free_sound xs (subst (λ (b : Bool). cond b false (is_free xs) ≡ true) (ne_eqb x 10 not) e))
]

-- the escapes of the octets below n are free
abbrev escapes_free : ℕ → Bool
escapes_free zero = true
escapes_free (suc n) = is_free (escape_byte n) && escapes_free n

escape_below : (n : ℕ) → escapes_free n ≡ true → (x : ℕ) → x < n → is_free (escape_byte x) ≡ true
escape_below zero e x low = absurd (omega (arith, low))
escape_below (suc n) e x low =
    let p = and_parts _ _ e in
    elim (cases_eq x n) [ inl same ↦ rw same p.0 | inr not ↦ escape_below n p.1 x (omega (arith, low, not)) ]

all_free : escapes_free 128 ≡ true
unfolding escape_byte
all_free = refl

free_byte : (x : ℕ) → Free (escape_byte x)
free_byte x = elim (cases_lt x 128) [
  | inl low ↦ free_sound _ (escape_below 128 all_free x low)
  | inr high ↦ subst Free (sym (escape_byte_plain x (λ e. omega (arith, e, high)) (λ e. omega (arith, e, high)) (omega (arith, high)))) ((λ e. omega (arith, e, high)), tt)
]

free_escape : (s : Text) → Free (escape s)
free_escape [] = tt
free_escape (x ∷ xs) = free_both (escape_byte x) (escape xs) (free_byte x) (free_escape xs)

free_quoted : (s : Text) → Free (quoted s)
free_quoted s = (above 34 (omega arith), free_both (escape s) (34 ∷ []) (free_escape s) (above 34 (omega arith), tt))

free_at : (xs : Text) → ((i : ℕ) → i < length xs → get_or xs i 0 ≢ 10) → Free xs
free_at [] h = tt
free_at (x ∷ xs) h = (h 0 (omega arith), free_at xs (λ i low. h (suc i) (omega (arith, low))))

free_decimal : (s : Text) → IsDecimal s → Free s
free_decimal s (n, fits, is) = subst Free (sym is)
    (free_at (decimal n) (λ i low. let digit = digit_at (decimal n) i (decimal_is_IsNumeral n fits).0.1 low in above _ (omega (arith, digit.0))))

-- a token whose number, if it is one, is decimal digits
abbrev IsPlain : token.Token → Type 0
IsPlain token.begin_object = ⊤
IsPlain token.end_object = ⊤
IsPlain token.begin_array = ⊤
IsPlain token.end_array = ⊤
IsPlain (token.key s) = IsUtf8 s
IsPlain (token.string s) = IsUtf8 s
IsPlain (token.number s) = IsDecimal s
IsPlain (token.boolean b) = ⊤
IsPlain token.null = ⊤
IsPlain token.bad = ⊤

abbrev ArePlain : List token.Token → Type 0
ArePlain [] = ⊤
ArePlain (t ∷ ts) = IsPlain t × ArePlain ts

free_token : (t : token.Token) → IsPlain t → Free (token_text t)
free_token token.begin_object p = free_sound (123 ∷ []) refl
free_token token.end_object p = free_sound (125 ∷ []) refl
free_token token.begin_array p = free_sound (91 ∷ []) refl
free_token token.end_array p = free_sound (93 ∷ []) refl
free_token (token.key s) p = free_both (quoted s) (58 ∷ []) (free_quoted s) (free_sound (58 ∷ []) refl)
free_token (token.string s) p = free_quoted s
free_token (token.number s) p = free_decimal s p
free_token (token.boolean true) p = free_sound (116 ∷ 114 ∷ 117 ∷ 101 ∷ []) refl
free_token (token.boolean false) p = free_sound (102 ∷ 97 ∷ 108 ∷ 115 ∷ 101 ∷ []) refl
free_token token.null p = free_sound (110 ∷ 117 ∷ 108 ∷ 108 ∷ []) refl
free_token token.bad p = tt

free_comma : (b : Bool) → Free (cond b (44 ∷ []) [])
free_comma true = free_sound (44 ∷ []) refl
free_comma false = tt

free_print : (b : Bool) (ts : List token.Token) → ArePlain ts → Free (print_from b ts)
unfolding print_from
free_print b [] p = tt
free_print b (t ∷ ts) p =
    free_both (separator b t) (token_text t ++ print_from (ends t) ts) (free_comma (b && begins t))
    (free_both (token_text t) (print_from (ends t) ts) (free_token t p.0) (free_print (ends t) ts p.1))

plain_both : (ts us : List token.Token) → ArePlain ts → ArePlain us → ArePlain (ts ++ us)
plain_both [] us p q = q
plain_both (t ∷ ts) us p q = (p.0, plain_both ts us p.1 q)

mutual
  plain_value : (j : Json) → IsPlainJson j → ArePlain (json_tokens j)
  plain_value null h = (tt, tt)
  plain_value (boolean b) h = (tt, tt)
  plain_value (number s) h = (h, tt)
  plain_value (string s) h = (h, tt)
  plain_value (array js) h = (tt, plain_items js h)
  plain_value (object ms) h = (tt, plain_members ms h)

  plain_items : (js : Items) → ArePlainItems js → ArePlain (items_tokens js)
  plain_items no_items h = (tt, tt)
  plain_items (item j js) h = plain_both (json_tokens j) (items_tokens js) (plain_value j h.0) (plain_items js h.1)

  plain_members : (ms : Members) → ArePlainMembers ms → ArePlain (members_tokens ms)
  plain_members no_members h = (tt, tt)
  plain_members (member k j ms) h = (h.0, plain_both (json_tokens j) (members_tokens ms) (plain_value j h.1) (plain_members ms h.2))

-- the text has no line feed
pub print_lacks : (j : Json) → IsPlainJson j → Lacks 10 (print (json_tokens j))
print_lacks j h = lacks (print (json_tokens j)) (free_print false (json_tokens j) (plain_value j h))

utf8_token : (t : token.Token) → IsPlain t → IsUtf8 (token_text t)
utf8_token token.begin_object p = IsUtf8-are_ascii (123 ∷ []) refl
utf8_token token.end_object p = IsUtf8-are_ascii (125 ∷ []) refl
utf8_token token.begin_array p = IsUtf8-are_ascii (91 ∷ []) refl
utf8_token token.end_array p = IsUtf8-are_ascii (93 ∷ []) refl
utf8_token (token.key s) p = IsUtf8-key s p
utf8_token (token.string s) p = IsUtf8-quoted s p
utf8_token (token.number s) p = subst IsUtf8 (sym p.2) (IsUtf8-from_ascii (decimal p.0) (IsAscii-decimal p.0 p.1))
utf8_token (token.boolean b) p = IsUtf8-boolean b
utf8_token token.null p = IsUtf8-are_ascii (110 ∷ 117 ∷ 108 ∷ 108 ∷ []) refl
utf8_token token.bad p = IsUtf8-nil

utf8_print : (b : Bool) (ts : List token.Token) → ArePlain ts → IsUtf8 (print_from b ts)
unfolding print_from
utf8_print b [] p = IsUtf8-nil
utf8_print b (t ∷ ts) p =
    IsUtf8-append (separator b t) (token_text t ++ print_from (ends t) ts) (IsUtf8-separator b t)
    (IsUtf8-append (token_text t) (print_from (ends t) ts) (utf8_token t p.0) (utf8_print (ends t) ts p.1))

-- the text is UTF-8
pub print_utf8 : (j : Json) → IsPlainJson j → IsUtf8 (print (json_tokens j))
print_utf8 j h = utf8_print false (json_tokens j) (plain_value j h)
