-- Only one cell is written for a request or an answer.
use Rattle.std.proofs.Common.{◌≡◌, ◌≢◌, ℕ, suc, ◌+◌, ◌*◌, ◌/◌, ◌%◌, ◌^◌, ◌<◌, ◌≤◌, ◌⊎◌, inl, inr, List, [], ◌∷◌, ◌++◌, length, get_or, take, drop, replicate, Bool, true, false, cond, arith, ap, sym, subst, refl, ◌∙◌, eqb-true}
use Rattle.std.proofs.Math.Seq.{drop-cons}
use Rattle.std.proofs.lemmas.List.{take-append-drop, drop-drop, drop_all}
use Rattle.std.specs.Int.{bit_at, w16, w32, to_be_bytes}
use Rattle.std.specs.Prelude.{◌==◌}
use Rattle.std.proofs.lemmas.Bool.{cases_eq, eqb-false}
use Rattle.abt_rate.specs.Code.{code_of}
use Rattle.abt_cell.specs.Message.{Terms}
use Rattle.abt_cell.specs.Polynomial.{polynomial_of, IsMultiple, IsRemainder}
use Rattle.abt_cell.specs.Codec.{octets_with, header_for, draft_of, request_of, flags_of, IsSayable}
use Rattle.abt_cell.specs.Layout.{IsCell, header_of, flag, ask_code, floor_code, seq_of, check_of, payload_of, unused_of, filler_of, terms_of}
use Rattle.abt_cell.specs.Reading.{Reads, IsWritten}
use Rattle.abt_cell.specs.declared.message.Rm.{Rm}
use Rattle.abt_cell.specs.declared.message.Rm.TheVariants.{Request, Answer}
use Rattle.abt_cell.proofs.Multiples.{remainder_only}
use Rattle.abt_cell.proofs.Written.{sum-octets_with, polynomial-octets_with}

-- ---- a cell by its octets

pair : (xs : List ℕ) (i : ℕ) → i + 2 ≤ length xs → drop i xs ≡ get_or xs i 0 ∷ get_or xs (suc i) 0 ∷ drop (suc (suc i)) xs
pair xs i long =
    let first : i < length xs = omega arith in
    let second : suc i < length xs = omega arith in
    drop-cons xs i 0 first ∙ ap (λ rest. get_or xs i 0 ∷ rest) (drop-cons xs (suc i) 0 second)

part : (xs : List ℕ) (i n : ℕ) (ys : List ℕ) → take n (drop i xs) ≡ ys → drop i xs ≡ ys ++ drop (i + n) xs
part xs i n ys is = sym (take-append-drop n (drop i xs)) ∙ rw (is, drop-drop n i xs)

short-octets : (a b : ℕ) → a < 2 ^ 8 → b < 2 ^ 8 → to_be_bytes w16 (a * 2 ^ 8 + b) ≡ a ∷ b ∷ []
short-octets a b fits_a fits_b =
    let high : (a * 256 + b) / 256 % 256 ≡ a = omega arith in
    let low : (a * 256 + b) % 256 ≡ b = omega arith in
    rw (high, low)

long-octets : (a b c d : ℕ) → a < 2 ^ 8 → b < 2 ^ 8 → c < 2 ^ 8 → d < 2 ^ 8 → to_be_bytes w32 ((a * 2 ^ 8 + b) * 2 ^ 16 + (c * 2 ^ 8 + d)) ≡ a ∷ b ∷ c ∷ d ∷ []
long-octets a b c d fits_a fits_b fits_c fits_d =
    let n : ℕ = (a * 256 + b) * 65536 + (c * 256 + d) in
    let e0 : ((a * 256 + b) * 65536 + (c * 256 + d)) / 16777216 % 256 ≡ a = omega arith in
    let e1 : ((a * 256 + b) * 65536 + (c * 256 + d)) / 65536 % 256 ≡ b = omega arith in
    let e2 : ((a * 256 + b) * 65536 + (c * 256 + d)) / 256 % 256 ≡ c = omega arith in
    let e3 : ((a * 256 + b) * 65536 + (c * 256 + d)) % 256 ≡ d = omega arith in
    rw (e0, e1, e2, e3)

assembled : (h h' a a' f f' s s' k k' : List ℕ) (flags : ℕ) → h ≡ h' → a ≡ a' → f ≡ f' → s ≡ s' → k ≡ k' → h ++ (2 ∷ flags ∷ []) ++ a ++ f ++ replicate 6 0 ++ s ++ replicate 30 0x6a ++ k ≡ h' ++ (2 ∷ flags ∷ []) ++ a' ++ f' ++ replicate 6 0 ++ s' ++ replicate 30 0x6a ++ k'
assembled h h' a a' f f' s s' k k' flags e1 e2 e3 e4 e5 = rw (e1, e2, e3, e4, e5)

pub by-fields : (cell : List ℕ) → IsCell cell → get_or cell 4 0 ≡ 2 → unused_of cell ≡ replicate 6 0 → filler_of cell ≡ replicate 30 0x6a → cell ≡ octets_with (header_of cell) (get_or cell 5 0) (ask_code cell) (floor_code cell) (seq_of cell) (check_of cell)
by-fields cell is protocol unused filler =
    let long = is.long in
    let at : (i : ℕ) → get_or cell i 0 < 2 ^ 8 = is.octets in
    let from_52 : drop 52 cell ≡ [] = drop_all 52 cell (omega arith) in
    let from_50 = pair cell 50 (omega arith) ∙ ap (λ rest. get_or cell 50 0 ∷ get_or cell 51 0 ∷ rest) from_52 in
    let from_20 = part cell 20 30 (replicate 30 0x6a) filler ∙ ap (λ rest. replicate 30 0x6a ++ rest) from_50 in
    let from_18 = pair cell 18 (omega arith) ∙ ap (λ rest. get_or cell 18 0 ∷ get_or cell 19 0 ∷ rest) from_20 in
    let from_16 = pair cell 16 (omega arith) ∙ ap (λ rest. get_or cell 16 0 ∷ get_or cell 17 0 ∷ rest) from_18 in
    let from_10 = part cell 10 6 (replicate 6 0) unused ∙ ap (λ rest. replicate 6 0 ++ rest) from_16 in
    let from_8 = pair cell 8 (omega arith) ∙ ap (λ rest. get_or cell 8 0 ∷ get_or cell 9 0 ∷ rest) from_10 in
    let from_6 = pair cell 6 (omega arith) ∙ ap (λ rest. get_or cell 6 0 ∷ get_or cell 7 0 ∷ rest) from_8 in
    let from_4 = pair cell 4 (omega arith) ∙ ap (λ rest. get_or cell 4 0 ∷ get_or cell 5 0 ∷ rest) from_6 in
    let from_2 = pair cell 2 (omega arith) ∙ ap (λ rest. get_or cell 2 0 ∷ get_or cell 3 0 ∷ rest) from_4 in
    let from_0 = pair cell 0 (omega arith) ∙ ap (λ rest. get_or cell 0 0 ∷ get_or cell 1 0 ∷ rest) from_2 in
    let header = long-octets (get_or cell 0 0) (get_or cell 1 0) (get_or cell 2 0) (get_or cell 3 0) (at 0) (at 1) (at 2) (at 3) in
    let ask = short-octets (get_or cell 6 0) (get_or cell 7 0) (at 6) (at 7) in
    let floor = short-octets (get_or cell 8 0) (get_or cell 9 0) (at 8) (at 9) in
    let seq = long-octets (get_or cell 16 0) (get_or cell 17 0) (get_or cell 18 0) (get_or cell 19 0) (at 16) (at 17) (at 18) (at 19) in
    let check = short-octets (get_or cell 50 0) (get_or cell 51 0) (at 50) (at 51) in
    from_0 ∙ ap (λ identifier. get_or cell 0 0 ∷ get_or cell 1 0 ∷ get_or cell 2 0 ∷ get_or cell 3 0 ∷ identifier ∷ get_or cell 5 0 ∷ get_or cell 6 0 ∷ get_or cell 7 0 ∷ get_or cell 8 0 ∷ get_or cell 9 0 ∷ (replicate 6 0 ++ (get_or cell 16 0 ∷ get_or cell 17 0 ∷ get_or cell 18 0 ∷ get_or cell 19 0 ∷ (replicate 30 0x6a ++ (get_or cell 50 0 ∷ get_or cell 51 0 ∷ []))))) protocol
    ∙ sym (assembled _ _ _ _ _ _ _ _ _ _ (get_or cell 5 0) header ask floor seq check)

-- ---- what the fields say

-- which of the two is said
chosen-rm : (b : Bool) (terms : Terms) (granted : Bool) (rm : Rm) → cond b (Request terms) (Answer (record { terms = terms; granted = granted })) ≡ rm → ((b ≡ true) × (rm ≡ Request terms)) ⊎ ((b ≡ false) × (rm ≡ Answer (record { terms = terms; granted = granted })))
chosen-rm true terms granted rm is = inl (refl, sym is)
chosen-rm false terms granted rm is = inr (refl, sym is)

request-chosen : (b : Bool) (terms : Terms) (granted : Bool) → request_of (cond b (Request terms) (Answer (record { terms = terms; granted = granted }))) ≡ terms
request-chosen true terms granted = refl
request-chosen false terms granted = refl

terms-read : (cell : List ℕ) (rm : Rm) → Reads cell rm → terms_of cell ≡ request_of rm
terms-read cell rm reads = sym (request-chosen (flag cell 3 == 0) (terms_of cell) (flag cell 5 == 0)) ∙ ap request_of reads.content

-- an octet by its bits
octet-by-bits : (f : ℕ) → f < 2 ^ 8 → f ≡ bit_at f 7 * 128 + bit_at f 6 * 64 + bit_at f 5 * 32 + bit_at f 4 * 16 + bit_at f 3 * 8 + bit_at f 2 * 4 + bit_at f 1 * 2 + bit_at f 0
octet-by-bits f fits = omega arith

flags-granted : (f : ℕ) → f ≡ 140 + bit_at f 5 * 32 → f ≡ 140 + cond (bit_at f 5 == 0) 0 0x20
flags-granted f is = elim (cases_eq (bit_at f 5) 0) as (λ _. f ≡ 140 + cond (bit_at f 5 == 0) 0 0x20) [
  | inl none ↦ rw none (omega arith)
  | inr some ↦ let one : bit_at f 5 ≡ 1 = omega arith in rw one (omega arith)
]

flags-read : (cell : List ℕ) (rm : Rm) → IsCell cell → IsWritten rm cell → get_or cell 5 0 ≡ flags_of rm
flags-read cell rm is written =
    let reads = written.reads in
    let bits = octet-by-bits (get_or cell 5 0) (is.octets 5) in
    let maintenance = reads.maintenance in
    let rigid = reads.rigid in
    let direction = reads.direction in
    let management = written.traffic_management in
    let reserved = written.reserved in
    elim (chosen-rm (flag cell 3 == 0) (terms_of cell) (flag cell 5 == 0) rm reads.content) as (λ _. get_or cell 5 0 ≡ flags_of rm) [
      | inl request ↦
          let none : flag cell 3 ≡ 0 = eqb-true _ _ request.0 in
          let not_congested = written.congestion none in
          let four : get_or cell 5 0 ≡ 4 = omega arith in
          four ∙ sym (ap flags_of request.1)
      | inr answer ↦
          let some : flag cell 3 ≢ 0 = eqb-false _ _ answer.0 in
          let sum : get_or cell 5 0 ≡ 140 + flag cell 5 * 32 = omega arith in
          flags-granted (get_or cell 5 0) sum ∙ sym (ap flags_of answer.1)
    ]

header-parts : (h vpi vci : ℕ) → h / 2 ^ 20 ≡ vpi → h / 2 ^ 4 % 2 ^ 16 ≡ vci → h / 2 % 2 ^ 3 ≡ 6 → h % 2 ≡ 0 → h ≡ vpi * 2 ^ 20 + vci * 2 ^ 4 + 12
header-parts h vpi vci a b c d = omega arith

header-read : (cell : List ℕ) (rm : Rm) → IsWritten rm cell → header_of cell ≡ (request_of rm).vc.vpi * 2 ^ 20 + (request_of rm).vc.vci * 2 ^ 4 + 12
header-read cell rm written =
    let terms = terms-read cell rm written.reads in
    let vpi = ap (λ (t : Terms). t.vc.vpi) terms in
    let vci = ap (λ (t : Terms). t.vc.vci) terms in
    let pti = written.reads.pti in
    let clp = written.clp in
    header-parts (header_of cell) _ _ vpi vci pti clp

module _ (rm : Rm) (check : ℕ) (sayable : IsSayable rm) (remains : IsRemainder (polynomial_of (payload_of (draft_of rm 0))) check) where
  pub only-written : (cell : List ℕ) → IsCell cell → IsWritten rm cell → cell ≡ draft_of rm check
  only-written cell is written =
      let header : ℕ = header_for (request_of rm) in
      let ask : ℕ = code_of (request_of rm).ask in
      let floor : ℕ = code_of (request_of rm).floor in
      let seq : ℕ = (request_of rm).seq in
      let terms = terms-read cell rm written.reads in
      let header_is : header_of cell ≡ header_for (request_of rm) = header-read cell rm written in
      let flags_is = flags-read cell rm is written in
      let ask_is : ask_code cell ≡ code_of (request_of rm).ask = sayable.ask.only (ask_code cell) written.ask (ap (λ (t : Terms). t.ask) terms) in
      let floor_is : floor_code cell ≡ code_of (request_of rm).floor = sayable.floor.only (floor_code cell) written.floor (ap (λ (t : Terms). t.floor) terms) in
      let seq_is : seq_of cell ≡ (request_of rm).seq = ap (λ (t : Terms). t.seq) terms in
      let spelled : cell ≡ draft_of rm (check_of cell) =
      by-fields cell is written.reads.protocol written.unused written.filler ∙ rw (header_is, flags_is, ask_is, floor_is, seq_is) in
      let low = written.above_check in
      let fits : check_of cell < 2 ^ 16 = omega arith in
      let multiple = subst (λ xs. IsMultiple (polynomial_of (payload_of xs))) spelled written.reads.check in
      let sum = polynomial-octets_with header (flags_of rm) ask floor seq (check_of cell) fits ∙ sym (sum-octets_with _ (check_of cell) low) in
      let check_is : check_of cell ≡ check = remainder_only _ (check_of cell) check (record { degree = low; multiple = subst IsMultiple sum multiple }) remains in
      spelled ∙ ap (draft_of rm) check_is
