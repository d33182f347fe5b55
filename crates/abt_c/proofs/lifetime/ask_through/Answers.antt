use Rattle.std.proofs.Common.{◌≡◌, ◌≢◌, ◌⊎◌, inl, inr, ℕ, ap, sym, subst, ◌∙◌, arith}
use Rattle.std.specs.Prelude.{Some, None}
use Rattle.abt_rate.specs.Limits.{number_max}
use Rattle.abt_rate.specs.Rate.{units_of}
use Rattle.abt_source.specs.Calls.{record_to_write, next_request}
use Rattle.abt_cell.specs.declared.message.Rm.TheVariants.{Request as RequestRm}
use Rattle.abt_c.specs.Records.{record_of}
use Rattle.abt_c.specs.Sources.{IsReady, IsWriting, source_in}
use Rattle.abt_c.specs.declared.source_state.AbtSource.{AbtSource}
use Rattle.abt_c.proofs.Lives.{WentBy, asked_then, given_up, went_out, went_out_written, went_nowhere, ready_again, writing_then}
use Rattle.abt_c.proofs.lifetime.ask_through.Goals as goal

pub returns-then-outcome-eq-ASKED-clause-value : goal.returns-then-outcome-eq-ASKED-clause-value
returns-then-outcome-eq-ASKED-clause-value g c =
    let step = c.abt_raw_source_ask-outcome in
    let before = c.args.state.now in
    let old = g.K.SeqStore.content c.args.store.now in
    let rm = step.new.rm in
    let is = c.if-outcome-eq-ASKED.true in
    let parts = step.ensures.asked.0 is in
    let goes = step.ensures.goes is in
    subst (λ (u : ℕ). WentBy before step.new.state old old u (Some rm)) c.code.ensures.units
    (went_out before step.new.state old (units_of c.code.result) rm parts.2 parts.3 goes.0 goes.2)

pub returns-then-abt_raw_source_wrote-eq-ASKED-clause-value : goal.returns-then-abt_raw_source_wrote-eq-ASKED-clause-value
returns-then-abt_raw_source_wrote-eq-ASKED-clause-value g c =
    let first = c.abt_raw_source_ask-outcome in
    let second = c.abt_raw_source_wrote in
    let before = c.args.state.now in
    let between = first.new.state in
    let after = second.new.state in
    let code = c.code.result in
    let old = g.K.SeqStore.content c.args.store.now in
    let new = g.K.SeqStore.content c.became-told.new.store in
    let is_write = c.if-outcome-ne-WRITE_FIRST.false in
    let parts = first.ensures.write_first.0 is_write in
    let between_is = (first.ensures.writes is_write).1 in
    let writing : IsWriting between = subst IsWriting (sym between_is) (writing_then before code parts.1) in
    let record_is : c.read_back-record.result ≡ record_to_write (source_in before) (units_of code) =
    c.read_back-record.ensures ∙ c.expected.ensures ∙ ap (λ (s : AbtSource). record_to_write (source_in s) c.args.rate) between_is ∙ ap (record_to_write (source_in before)) (sym c.code.ensures.units) in
    let is = c.if-abt_raw_source_wrote-eq-ASKED.true in
    let made = second.ensures.asked.0 is in
    let goes = second.ensures.goes is in
    let says = subst (λ (s : AbtSource). second.new.rm ≡ record_of (RequestRm (next_request (source_in s) (units_of s.wanted)))) between_is goes.1 in
    let holds : new ≡ record_to_write (source_in before) (units_of code) = c.became-told.ensures.made made.1 ∙ record_is in
    subst (λ (u : ℕ). WentBy before after old new u (Some second.new.rm)) c.code.ensures.units
    (went_out_written before after old new (units_of code) second.new.rm parts.2 parts.3 (asked_then before between after code between_is goes.0) says holds)

pub returns-clause-value : goal.returns-clause-value
returns-clause-value g c =
    let first = c.abt_raw_source_ask-outcome in
    let second = c.abt_raw_source_wrote in
    let before = c.args.state.now in
    let between = first.new.state in
    let after = second.new.state in
    let code = c.code.result in
    let old = g.K.SeqStore.content c.args.store.now in
    let new = g.K.SeqStore.content c.became-told.new.store in
    let is_write = c.if-outcome-ne-WRITE_FIRST.false in
    let parts = first.ensures.write_first.0 is_write in
    let between_is = (first.ensures.writes is_write).1 in
    let writing : IsWriting between = subst IsWriting (sym between_is) (writing_then before code parts.1) in
    let record_is : c.read_back-record.result ≡ record_to_write (source_in before) (units_of code) =
    c.read_back-record.ensures ∙ c.expected.ensures ∙ ap (λ (s : AbtSource). record_to_write (source_in s) c.args.rate) between_is ∙ ap (record_to_write (source_in before)) (sym c.code.ensures.units) in
    let no = c.if-abt_raw_source_wrote-eq-ASKED.false in
    let left : between.last ≢ number_max = subst (λ (s : AbtSource). s.last ≢ number_max) (sym between_is) parts.2 in
    let told : c.became-told.result ≡ 2 = elim c.became-told.ensures.either [ inl made ↦ absurd (no (second.ensures.asked.1 (writing, made, left))) | inr failed ↦ failed ] in
    let not_kept = second.ensures.not_kept.1 (writing, omega arith, omega arith) in
    let after_is = given_up before between after code between_is (second.ensures.stays not_kept).0 in
    let same : source_in after ≡ source_in before = ap source_in after_is in
    let holds : (new ≡ old) ⊎ (new ≡ record_to_write (source_in before) (units_of code)) = elim (c.became-told.ensures.failed told) [ inl stayed ↦ inl stayed | inr written ↦ inr (written ∙ record_is) ] in
    subst (λ (u : ℕ). WentBy before after old new u None) c.code.ensures.units (went_nowhere before after old new (units_of code) parts.2 parts.3 same holds)

pub returns-clause-ready : goal.returns-clause-ready
returns-clause-ready g c =
    let first = c.abt_raw_source_ask-outcome in
    let second = c.abt_raw_source_wrote in
    let before = c.args.state.now in
    let between = first.new.state in
    let after = second.new.state in
    let code = c.code.result in
    let old = g.K.SeqStore.content c.args.store.now in
    let new = g.K.SeqStore.content c.became-told.new.store in
    let is_write = c.if-outcome-ne-WRITE_FIRST.false in
    let parts = first.ensures.write_first.0 is_write in
    let between_is = (first.ensures.writes is_write).1 in
    let writing : IsWriting between = subst IsWriting (sym between_is) (writing_then before code parts.1) in
    let record_is : c.read_back-record.result ≡ record_to_write (source_in before) (units_of code) =
    c.read_back-record.ensures ∙ c.expected.ensures ∙ ap (λ (s : AbtSource). record_to_write (source_in s) c.args.rate) between_is ∙ ap (record_to_write (source_in before)) (sym c.code.ensures.units) in
    let no = c.if-abt_raw_source_wrote-eq-ASKED.false in
    let left : between.last ≢ number_max = subst (λ (s : AbtSource). s.last ≢ number_max) (sym between_is) parts.2 in
    let told : c.became-told.result ≡ 2 = elim c.became-told.ensures.either [ inl made ↦ absurd (no (second.ensures.asked.1 (writing, made, left))) | inr failed ↦ failed ] in
    let not_kept = second.ensures.not_kept.1 (writing, omega arith, omega arith) in
    let after_is = given_up before between after code between_is (second.ensures.stays not_kept).0 in
    subst IsReady (sym after_is) (ready_again before code parts.1)
