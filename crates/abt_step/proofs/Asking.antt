-- Which requests were asked, after one event more.
use Rattle.std.proofs.Common.{◌≡◌, ℕ, ◌==◌, Bool, true, false, List, [], ◌∷◌, ◌++◌, refl, sym, ap, ◌∙◌, append-nil}
use Rattle.std.proofs.lemmas.Bool.{cond_both}
use Rattle.abt_facts.specs.declared.fact.Fact.{Fact}
use Rattle.abt_facts.specs.declared.fact.Fact.TheVariants as fact
use Rattle.abt_keep.specs.Record.{KeptRecord}
use Rattle.abt_keep.specs.declared.plan.StorePlan.TheVariants.{Works, FailsBefore, FailsAfter}
use Rattle.abt_model.specs.declared.event.Event.{Event}
use Rattle.abt_model.specs.declared.event.Event.TheVariants.{Start, Ask, Again, Crash, Emit, Arrive, Request, Turn, Answer, Told, Capacity}
use Rattle.abt_model.specs.declared.outcome.Heard.TheVariants as heard
use Rattle.abt_model.specs.declared.outcome.Outcome.{Outcome}
use Rattle.abt_model.specs.declared.outcome.Outcome.TheVariants.{Started, Asked, AskRefused, Crashed, Emitted, Arrived, Requested, Turned, Answered, Told as HasTold, CapacitySet}
use Rattle.abt_model.specs.Outcomes.{conn_of, delivery, past_by, write_adds}
use Rattle.abt_model.specs.Past.{Past, with_facts}
use Rattle.abt_node.specs.declared.reply.Back.TheVariants as back
use Rattle.abt_node.specs.declared.reply.Onward.TheVariants as onward
use Rattle.abt_source.specs.declared.fault.AskFault.TheVariants as ask_fault
use Rattle.abt_step.specs.Possible.{asked_by, asks_of}

-- what is stored, and that a request came to the first hop, asks nothing
stored : (c : ℕ) (past : Past) (writes : Bool) (written : KeptRecord) → asks_of (with_facts c (write_adds writes written) past) ≡ asks_of past
stored c past true written = refl
stored c past false written = refl

delivered : (c hop seq : ℕ) (past : Past) → asks_of (with_facts c (delivery hop seq) past) ≡ asks_of past
delivered c hop seq past =
    cond_both (hop == 1) (fact.Delivered seq ∷ []) [] (λ (l : List Fact). asks_of (with_facts c l past) ≡ asks_of past) (λ e. refl) (λ e. refl)

none : (past : Past) → asks_of past ≡ asks_of past ++ []
none past = sym (append-nil (asks_of past))

asks : (c seq : ℕ) (past : Past) (writes : Bool) (written : KeptRecord)
    → asks_of (with_facts c (write_adds writes written) past) ++ (c, seq) ∷ [] ≡ asks_of past ++ (c, seq) ∷ []
asks c seq past writes written = ap (λ l. l ++ (c, seq) ∷ []) (stored c past writes written)

-- an event adds what it asks
pub asks_next : (past : Past) (e : Event) (o : Outcome) → asks_of (past_by past e o (conn_of e)) ≡ asks_of past ++ asked_by e o
asks_next past (Ask c rate Works) (Asked request) = asks c request.seq past _ _
asks_next past (Ask c rate FailsBefore) (Asked request) = asks c request.seq past _ _
asks_next past (Ask c rate FailsAfter) (Asked request) = asks c request.seq past _ _
asks_next past (Ask c rate Works) (AskRefused ask_fault.Keep) = none past
asks_next past (Ask c rate Works) (AskRefused ask_fault.SeqExhausted) = none past
asks_next past (Ask c rate FailsBefore) (AskRefused ask_fault.Keep) = none past
asks_next past (Ask c rate FailsBefore) (AskRefused ask_fault.SeqExhausted) = none past
asks_next past (Ask c rate FailsAfter) (AskRefused ask_fault.Keep) = none past
asks_next past (Ask c rate FailsAfter) (AskRefused ask_fault.SeqExhausted) = none past
asks_next past (Request c hop seq) (Requested onward.Pass) = delivered c hop seq past ∙ none past
asks_next past (Request c hop seq) (Requested (onward.Refuse answer)) = delivered c hop seq past ∙ none past
asks_next past (Request c hop seq) (Requested (onward.Drop cause)) = delivered c hop seq past ∙ none past
asks_next past (Answer c hop seq true) (Answered back.Pass) = none past
asks_next past (Answer c hop seq true) (Answered (back.Drop cause)) = none past
asks_next past (Answer c hop seq false) (Answered back.Pass) = none past
asks_next past (Answer c hop seq false) (Answered (back.Drop cause)) = none past
asks_next past (Start c now) Started = none past
asks_next past (Crash c) Crashed = none past
asks_next past (Emit c now) (Emitted cell next) = none past
asks_next past (Arrive c cell at) (Arrived verdict) = none past
asks_next past (Turn c seq) Turned = none past
asks_next past (Told c seq granted) (HasTold heard.Raised) = none past
asks_next past (Told c seq granted) (HasTold heard.Refused) = none past
asks_next past (Told c seq granted) (HasTold heard.Ignored) = none past
asks_next past (Capacity p u) CapacitySet = none past
asks_next past e o = none past
