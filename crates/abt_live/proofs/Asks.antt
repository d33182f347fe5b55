-- What an ask comes to, whatever the store.
use Rattle.std.proofs.Common.{◌≡◌, ◌≢◌, ℕ, ◌≤◌, ◌<◌, ◌⊎◌, inl, inr, ap, true, false, ◌∙◌, sym, subst, arith}
use Rattle.std.specs.Prelude.{if◌then◌else◌, Result, Ok, Err}
use Rattle.std.proofs.lemmas.Bool.{cond-true, cond-false, cases_Bool, cases_eq}
use Rattle.abt_rate.specs.Limits.{number_max}
use Rattle.abt_cell.specs.Message.{Terms}
use Rattle.abt_keep.specs.Record.{KeptRecord}
use Rattle.abt_keep.specs.declared.fault.StoreFault.{StoreFault}
use Rattle.abt_source.specs.SourceView.{SourceView}
use Rattle.abt_source.specs.Calls.{has_to_write, record_to_write, next_request, asking_source, request_goes, result_of_ask}
use Rattle.abt_source.specs.declared.ask.AskRefused.{AskRefused}
use Rattle.abt_source.specs.declared.fault.AskFault.TheVariants.{SeqExhausted, Keep}
use Rattle.abt_live.specs.Asking.{Goes, Stays}

-- what an ask gives: a source and its request, or a source and a fault
abbrev pub sent : {S : Type 0} → SourceView → Terms → Result (SourceView × Terms) (AskRefused S)
sent t q = Ok (t, q)

abbrev pub refusal : {S : Type 0} → AskRefused S → Result (SourceView × Terms) (AskRefused S)
refusal refused = Err refused

sent_parts : (S : Type 0) (s t : SourceView) (q : Terms) (rate : ℕ) → sent {S = S} t q ≡ request_goes s rate → (t ≡ asking_source s (next_request s rate)) × (q ≡ next_request s rate)
sent_parts S s t q rate e =
    let both : (let got : SourceView × Terms = (t, q) in let wanted : SourceView × Terms = (asking_source s (next_request s rate), next_request s rate) in got ≡ wanted) = cc in
    (ap (λ (p : SourceView × Terms). p.0) both, ap (λ (p : SourceView × Terms). p.1) both)

stored_parts : (S : Type 0) (s t : SourceView) (q : Terms) (rate : ℕ) (answer : Result (Unit {0}) StoreFault) → sent {S = S} t q ≡ result_of_ask s rate answer →
    (t ≡ asking_source s (next_request s rate)) × (q ≡ next_request s rate)
stored_parts S s t q rate (Ok done) e = sent_parts S s t q rate e
stored_parts S s t q rate (Err fault) e = absurd (cc)

gone : (s t : SourceView) (q : Terms) (old new : KeptRecord) (rate : ℕ) → s.last ≢ number_max → t ≡ asking_source s (next_request s rate) → q ≡ next_request s rate →
    new ≡ (if has_to_write s rate then record_to_write s rate else old) → Goes s old rate t q new
gone s t q old new rate some e f h = record {
  number_left = some;
  asked = f;
  waits = e ∙ ap (asking_source s) (sym f);
  kept_is = h;
}

-- a request that went out
pub goes : (S : Type 0) (s t : SourceView) (q : Terms) (old new : KeptRecord) (rate : ℕ) → s.last < number_max →
    (has_to_write s rate ≡ false → (new ≡ old) × (sent {S = S} t q ≡ request_goes s rate)) →
    (has_to_write s rate ≡ true → (answer : Result (Unit {0}) StoreFault) × (sent {S = S} t q ≡ result_of_ask s rate answer)) →
    (has_to_write s rate ≡ true → new ≡ t.kept) → Goes s old rate t q new
goes S s t q old new rate left kept gives ok =
    let some : s.last ≢ number_max = λ e. omega arith in
    elim (cases_Bool (has_to_write s rate)) [
      | inl does ↦ (
          let given = gives does in
          let is = stored_parts S s t q rate given.0 given.1 in
          let holds : new ≡ record_to_write s rate = ok does ∙ ap (λ (v : SourceView). v.kept) is.0 ∙ cond-true _ _ _ does in
          gone s t q old new rate some is.0 is.1 (holds ∙ sym (cond-true _ _ _ does)))
      | inr not ↦ (
          let both = kept not in
          let is = sent_parts S s t q rate both.1 in
          gone s t q old new rate some is.0 is.1 (both.0 ∙ sym (cond-false _ _ _ not)))
    ]

never_sent : (S : Type 0) (s : SourceView) (r : AskRefused S) (rate : ℕ) → refusal r ≡ request_goes s rate → ⊥
never_sent S s r rate e = cc

fault_of_store : (S : Type 0) (s : SourceView) (r : AskRefused S) (rate : ℕ) (answer : Result (Unit {0}) StoreFault) → refusal r ≡ result_of_ask s rate answer → (r.source ≡ s) × (r.fault ≡ Keep)
fault_of_store S s r rate (Ok done) e = absurd (cc)
fault_of_store S s r rate (Err fault) e = (let is : r ≡ record { source = s; fault = Keep } = cc in (ap (λ (x : AskRefused S). x.source) is, ap (λ (x : AskRefused S). x.fault) is))

fault_of_numbers : (S : Type 0) (s : SourceView) (r : AskRefused S) → refusal r ≡ Err (record { source = s; fault = SeqExhausted }) → (r.source ≡ s) × (r.fault ≡ SeqExhausted)
fault_of_numbers S s r e = (let is : r ≡ record { source = s; fault = SeqExhausted } = cc in (ap (λ (x : AskRefused S). x.source) is, ap (λ (x : AskRefused S). x.fault) is))

-- an ask that was refused
pub stays : (S : Type 0) (s : SourceView) (r : AskRefused S) (old new : KeptRecord) (rate : ℕ) → s.last ≤ number_max →
    (s.last ≡ number_max → refusal r ≡ Err (record { source = s; fault = SeqExhausted })) → (s.last ≡ number_max → new ≡ old) →
    (s.last < number_max → has_to_write s rate ≡ false → refusal r ≡ request_goes s rate) →
    (s.last < number_max → has_to_write s rate ≡ true → (answer : Result (Unit {0}) StoreFault) × (refusal r ≡ result_of_ask s rate answer)) →
    (r.fault ≡ Keep → (new ≡ old) ⊎ (new ≡ record_to_write s rate)) → (r.source ≡ s) × Stays s old rate new r.fault
stays S s r old new rate within exhausted same kept gives keep = elim (cases_eq s.last number_max) [
  | inl all ↦ (
      let is = fault_of_numbers S s r (exhausted all) in
      (is.0, subst (Stays s old rate new) (sym is.1) (all, same all)))
  | inr some ↦ (
      let left : s.last < number_max = omega arith in
      elim (cases_Bool (has_to_write s rate)) [
        | inr not ↦ absurd (never_sent S s r rate (kept left not))
        | inl does ↦ (
            let given = gives left does in
            let is = fault_of_store S s r rate given.0 given.1 in
            (is.0, subst (Stays s old rate new) (sym is.1) (some, does, keep is.1)))
      ])
]
