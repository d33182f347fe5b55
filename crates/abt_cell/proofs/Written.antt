-- The cell that is written for a request or an answer.
use Rattle.std.proofs.Common.{◌≡◌, ℕ, ◌+◌, ◌*◌, ◌/◌, ◌%◌, ◌^◌, ◌<◌, Bool, true, false, cond, arith, ap, sym, subst, refl, set, List, length, length-set, get_or, get_or-set_same, get_or-set_other, inl, inr, ◌∙◌, bit_xor}
use Rattle.std.proofs.lemmas.Bool.{cases_eq}
use Rattle.std.specs.Int.Bits.{xor_shifted}
use Rattle.std.specs.Int.{bit_at}
use Rattle.std.specs.Prelude.{if◌then◌else◌, ◌==◌}
use Rattle.abt_rate.specs.Code.{code_of}
use Rattle.abt_rate.specs.Rate.{units_of, IsCanonical}
use Rattle.abt_cell.specs.Message.{Terms}
use Rattle.abt_cell.specs.Polynomial.{polynomial_of, IsMultiple, IsRemainder}
use Rattle.abt_cell.specs.Codec.{octets_with, header_for, draft_of, request_of, flags_of, IsSayable}
use Rattle.abt_cell.specs.Layout.{IsCell, header_of, ask_code, floor_code, seq_of, payload_of}
use Rattle.abt_cell.specs.Reading.{IsWritten}
use Rattle.abt_cell.specs.declared.message.Rm.{Rm}
use Rattle.abt_cell.specs.declared.message.Rm.TheVariants.{Request, Answer}

header-octets_with : (header flags ask floor seq check : ℕ) → header < 2 ^ 32 → header_of (octets_with header flags ask floor seq check) ≡ header
header-octets_with header flags ask floor seq check fits = omega arith

word-octets_with : (n : ℕ) → n < 2 ^ 16 → n / 256 % 256 * 256 + n % 256 ≡ n
word-octets_with n fits = omega arith

ask-octets_with : (header flags ask floor seq check : ℕ) → ask < 2 ^ 16 → ask_code (octets_with header flags ask floor seq check) ≡ ask
ask-octets_with header flags ask floor seq check fits = omega arith

floor-octets_with : (header flags ask floor seq check : ℕ) → floor < 2 ^ 16 → floor_code (octets_with header flags ask floor seq check) ≡ floor
floor-octets_with header flags ask floor seq check fits = omega arith

seq-octets_with : (header flags ask floor seq check : ℕ) → seq < 2 ^ 32 → seq_of (octets_with header flags ask floor seq check) ≡ seq
seq-octets_with header flags ask floor seq check fits = omega arith

ends-octets_with : (x check : ℕ) → check < 2 ^ 16 → (x * 256 + check / 256 % 256) * 256 + check % 256 ≡ (x * 256 + 0) * 256 + 0 + check
ends-octets_with x check fits = omega arith

-- the polynomial without the check, and with it
pub polynomial-octets_with : (header flags ask floor seq check : ℕ) → check < 2 ^ 16 → polynomial_of (payload_of (octets_with header flags ask floor seq check)) ≡ polynomial_of (payload_of (octets_with header flags ask floor seq 0)) + check
polynomial-octets_with header flags ask floor seq check fits = ends-octets_with _ check fits

pub sum-octets_with : (x check : ℕ) → check < 2 ^ 10 → bit_xor ((x * 256 + 0) * 256 + 0) check ≡ (x * 256 + 0) * 256 + 0 + check
sum-octets_with x check low =
    let shifted : (x * 256 + 0) * 256 + 0 ≡ x * 2 ^ 16 = omega arith in
    let fits : check < 2 ^ 16 = omega arith in
    rw shifted (xor_shifted x 16 check fits)

-- ---- the check put into the draft

pub put-octet : (cell : List ℕ) (place octet : ℕ) → place < 52 → octet < 2 ^ 8 → IsCell cell → IsCell (set cell place octet)
put-octet cell place octet within fits is =
    let long = is.long in
    let inside : place < length cell = omega arith in
    record {
      long = length-set cell place octet ∙ is.long;
      octets = λ other. elim (cases_eq other place) as (λ _. get_or (set cell place octet) other 0 < 2 ^ 8) [
        | inl same ↦ rw same (rw get_or-set_same fits)
        | inr apart ↦ rw get_or-set_other (is.octets other)
      ];
    }

pub drafted : (rm : Rm) (check : ℕ) → set (set (draft_of rm 0) 50 (check / 256 % 256)) 51 (check % 256) ≡ draft_of rm check
drafted rm check = refl

-- ---- the flags

record Flags (rm : Rm) (flags : ℕ) : Type 0 where
  pub maintenance : bit_at flags 4 ≡ 0
  pub rigid : bit_at flags 2 ≡ 1
  pub direction : bit_at flags 7 ≡ bit_at flags 3
  pub traffic_management : bit_at flags 6 ≡ 0
  pub congestion : bit_at flags 3 ≡ 0 → bit_at flags 5 ≡ 0
  pub reserved : (bit_at flags 1 ≡ 0) × (bit_at flags 0 ≡ 0)
  pub content : (terms : Terms) → terms ≡ request_of rm → (if bit_at flags 3 == 0 then Request terms else Answer (record { terms = terms; granted = bit_at flags 5 == 0 })) ≡ rm

answer-flags : (terms : Terms) (granted : Bool) → Flags (Answer (record { terms = terms; granted = granted })) (0x8c + cond granted 0 0x20)
answer-flags terms true = record {
  maintenance = refl;
  rigid = refl;
  direction = refl;
  traffic_management = refl;
  congestion = λ answer. absurd (omega arith);
  reserved = (refl, refl);
  content = λ same e. ap (λ t. Answer (record { terms = t; granted = true })) e;
}
answer-flags terms false = record {
  maintenance = refl;
  rigid = refl;
  direction = refl;
  traffic_management = refl;
  congestion = λ answer. absurd (omega arith);
  reserved = (refl, refl);
  content = λ same e. ap (λ t. Answer (record { terms = t; granted = false })) e;
}

flags-are : (rm : Rm) → Flags rm (flags_of rm)
flags-are (Request terms) = record {
  maintenance = refl;
  rigid = refl;
  direction = refl;
  traffic_management = refl;
  congestion = λ request. refl;
  reserved = (refl, refl);
  content = λ same e. ap Request e;
}
flags-are (Answer reply) = answer-flags reply.terms reply.granted

-- ---- what is written reads as rm

terms-are : (t : Terms) (vpi vci seq floor ask : ℕ) → vpi ≡ t.vc.vpi → vci ≡ t.vc.vci → seq ≡ t.seq → floor ≡ t.floor → ask ≡ t.ask → let built : Terms = record { vc = record { vpi = vpi; vci = vci }; seq = seq; floor = floor; ask = ask } in built ≡ t
terms-are t vpi vci seq floor ask a b c d e = rw (a, b, c, d, e)

module _ (rm : Rm) (check : ℕ) (sayable : IsSayable rm) (remains : IsRemainder (polynomial_of (payload_of (draft_of rm 0))) check) where
  pub written : IsWritten rm (draft_of rm check)
  written =
      let header : ℕ = header_for (request_of rm) in
      let ask : ℕ = code_of (request_of rm).ask in
      let floor : ℕ = code_of (request_of rm).floor in
      let seq : ℕ = (request_of rm).seq in
      let vpi = sayable.vpi in
      let vci = sayable.vci in
      let low = remains.degree in
      let reserved_ask = sayable.ask.canonical.reserved in
      let reserved_floor = sayable.floor.canonical.reserved in
      let positive = sayable.seq_positive in
      let header_fits : header_for (request_of rm) < 2 ^ 32 = omega arith in
      let header_as = header-octets_with header (flags_of rm) ask floor seq check header_fits in
      let ask_as = ask-octets_with header (flags_of rm) ask floor seq check (omega arith) in
      let floor_as = floor-octets_with header (flags_of rm) ask floor seq check (omega arith) in
      let seq_as = seq-octets_with header (flags_of rm) ask floor seq check sayable.seq_fits in
      let flags = flags-are rm in
      let ask_units = ap units_of ask_as ∙ sayable.ask.units_are in
      let floor_units = ap units_of floor_as ∙ sayable.floor.units_are in
      record {
        reads = record {
          pti = ap (λ h. h / 2 % 2 ^ 3) header_as ∙ omega arith;
          check = subst IsMultiple (sum-octets_with _ check low ∙ sym (polynomial-octets_with header (flags_of rm) ask floor seq check (omega arith))) remains.multiple;
          protocol = refl;
          maintenance = flags.maintenance;
          rigid = flags.rigid;
          direction = flags.direction;
          seq = λ none. absurd (omega arith);
          rates = rw (ask_units, floor_units) sayable.order;
          content = flags.content _ (terms-are (request_of rm) _ _ _ _ _ (ap (λ h. h / 2 ^ 20) header_as ∙ omega arith) (ap (λ h. h / 2 ^ 4 % 2 ^ 16) header_as ∙ omega arith) seq_as floor_units ask_units);
        };
        clp = ap (λ h. h % 2) header_as ∙ omega arith;
        traffic_management = flags.traffic_management;
        congestion = flags.congestion;
        reserved = flags.reserved;
        unused = refl;
        filler = refl;
        above_check = omega arith;
        ask = subst IsCanonical (sym ask_as) sayable.ask.canonical;
        floor = subst IsCanonical (sym floor_as) sayable.floor.canonical;
      }
