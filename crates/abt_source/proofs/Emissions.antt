-- What a shaper says of each of its answers makes it the one that is computed.
use Rattle.std.proofs.Common.{◌≡◌, ◌≢◌, ℕ, ◌+◌, ◌<◌, ◌≤◌, Option, None, Some, Result, Ok, Err, arith, refl, sym, ap, ◌∙◌}
use Rattle.std.specs.Prelude.{◌↔◌, IsOk, IsErrOf, IfSome, IsSomeAnd, MatchResult}
use Rattle.std.proofs.lemmas.Bool.Decides.{nat_tests}
use Rattle.abt_rate.specs.Rate.{spacing_of}
use Rattle.abt_shaper.specs.Shaping.{Shaping, IsBehind, IsOnward}
use Rattle.abt_shaper.specs.declared.fault.ShapeFault.{ShapeFault}
use Rattle.abt_shaper.specs.declared.fault.ShapeFault.TheVariants.{ClockBack, TimeRange, Zero, TooSoon}
use Rattle.abt_rate.specs.Limits.{emit_max}
use Rattle.abt_source.specs.Calls.{emission_at}

-- what is computed, by each condition of the shaper
some_behind : (last next rate now : ℕ) → now < last → emission_at (Some last) next rate now ≡ Err ClockBack
some_behind last next rate now h = grind (arith, nat_tests)

behind :
    (emitted : Option ℕ) (next rate now : ℕ) → IsSomeAnd emitted (λ last. now < last) →
    emission_at emitted next rate now ≡ Err ClockBack
behind None next rate now h = absurd h
behind (Some last) next rate now h = some_behind last next rate now h

none_late : (next rate now : ℕ) → emit_max < now → emission_at None next rate now ≡ Err TimeRange
none_late next rate now h = grind (arith, nat_tests)

some_late : (last next rate now : ℕ) → last ≤ now → emit_max < now → emission_at (Some last) next rate now ≡ Err TimeRange
some_late last next rate now h l = grind (arith, nat_tests)

late :
    (emitted : Option ℕ) (next rate now : ℕ) → IfSome emitted (λ last. last ≤ now) → emit_max < now →
    emission_at emitted next rate now ≡ Err TimeRange
late None next rate now h l = none_late next rate now l
late (Some last) next rate now h l = some_late last next rate now h l

none_zero : (next now : ℕ) → now ≤ emit_max → emission_at None next 0 now ≡ Err Zero
none_zero next now h = grind (arith, nat_tests)

some_zero : (last next now : ℕ) → last ≤ now → now ≤ emit_max → emission_at (Some last) next 0 now ≡ Err Zero
some_zero last next now h l = grind (arith, nat_tests)

zero :
    (emitted : Option ℕ) (next rate now : ℕ) → IfSome emitted (λ last. last ≤ now) → now ≤ emit_max → rate ≡ 0 →
    emission_at emitted next rate now ≡ Err Zero
zero None next rate now h l z = rw z (none_zero next now l)
zero (Some last) next rate now h l z = rw z (some_zero last next now h l)

none_soon :
    (next rate now : ℕ) → now ≤ emit_max → rate ≢ 0 → now < next → emission_at None next rate now ≡ Err (TooSoon next)
none_soon next rate now l nz soon = grind (arith, nat_tests)

some_soon :
    (last next rate now : ℕ) → last ≤ now → now ≤ emit_max → rate ≢ 0 → now < next →
    emission_at (Some last) next rate now ≡ Err (TooSoon next)
some_soon last next rate now h l nz soon = grind (arith, nat_tests)

soon :
    (emitted : Option ℕ) (next rate now : ℕ) → IfSome emitted (λ last. last ≤ now) → now ≤ emit_max → rate ≢ 0 →
    now < next → emission_at emitted next rate now ≡ Err (TooSoon next)
soon None next rate now h l nz s = none_soon next rate now l nz s
soon (Some last) next rate now h l nz s = some_soon last next rate now h l nz s

none_leaves :
    (next rate now : ℕ) → now ≤ emit_max → rate ≢ 0 → next ≤ now →
    emission_at None next rate now ≡ Ok (now + spacing_of rate)
none_leaves next rate now l nz from = grind (arith, nat_tests)

some_leaves :
    (last next rate now : ℕ) → (now < last → ⊥) → now ≤ emit_max → rate ≢ 0 → next ≤ now →
    emission_at (Some last) next rate now ≡ Ok (now + spacing_of rate)
some_leaves last next rate now h l nz from = grind (arith, nat_tests)

leaves :
    (emitted : Option ℕ) (next rate now : ℕ) → (IsSomeAnd emitted (λ last. now < last) → ⊥) → now ≤ emit_max →
    rate ≢ 0 → next ≤ now → emission_at emitted next rate now ≡ Ok (now + spacing_of rate)
leaves None next rate now h l nz from = none_leaves next rate now l nz from
leaves (Some last) next rate now h l nz from = some_leaves last next rate now h l nz from

pub emission_exact :
    (s new : Shaping) (now rate : ℕ) (r : Result ℕ ShapeFault) →
    (IsErrOf r ClockBack ↔ IsBehind s now) →
    (IsErrOf r TimeRange ↔ (IsOnward s now × (emit_max < now))) →
    (IsErrOf r Zero ↔ (IsOnward s now × (now ≤ emit_max) × (rate ≡ 0))) →
    ((next : ℕ) → IsErrOf r (TooSoon next) ↔
    (IsOnward s now × (now ≤ emit_max) × (rate ≢ 0) × (now < s.next) × (next ≡ s.next))) →
    (IsOk r ↔ ((now ≤ emit_max) × (rate ≢ 0) × (s.next ≤ now))) →
    MatchResult r (λ next. (next ≡ now + spacing_of rate) × (new ≡ record { next = next; emitted = Some now })) (λ _. new ≡ s) →
    r ≡ emission_at s.emitted s.next rate now
emission_exact s new now rate (Err ClockBack) cb tr z ts ok value = sym (behind s.emitted s.next rate now (cb.0 refl))
emission_exact s new now rate (Err TimeRange) cb tr z ts ok value =
    let h = tr.0 refl in sym (late s.emitted s.next rate now h.0 h.1)
emission_exact s new now rate (Err Zero) cb tr z ts ok value =
    let h = z.0 refl in sym (zero s.emitted s.next rate now h.0 h.1 h.2)
emission_exact s new now rate (Err (TooSoon n)) cb tr z ts ok value =
    let h = (ts n).0 refl in
    ap (λ m. Err (TooSoon m)) h.4 ∙ sym (soon s.emitted s.next rate now h.0 h.1 h.2 h.3)
emission_exact s new now rate (Ok n) cb tr z ts ok value =
    let h = ok.0 refl in
    ap Ok value.0 ∙ sym (leaves s.emitted s.next rate now (λ b. let e = cb.1 b in cc) h.0 h.1 h.2)
