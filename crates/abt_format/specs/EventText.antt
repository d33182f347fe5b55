-- The text of an event, as scenarios have it (docs/FORMATS.md, "Scenario"): codes are canonical, and numbers have no zeros in front.
use Rattle.std.specs.Prelude.{ℕ, Bool, true, false, codes}
use Rattle.abt_rate.specs.Code.{code_of}
use Rattle.abt_keep.specs.declared.plan.StorePlan.{StorePlan}
use Rattle.abt_keep.specs.declared.plan.StorePlan.TheVariants.{Works, FailsBefore, FailsAfter}
use Rattle.abt_model.specs.declared.event.Event.{Event}
use Rattle.abt_model.specs.declared.event.Event.TheVariants.{Start, Ask, Again, Crash, Emit, Arrive, Request, Turn, Answer, Told, Capacity}
use Rattle.abt_text.specs.Text.{Text, ◌⋅◌, decimal, code_text}

-- a word, and then numbers, each behind a space
abbrev pub with_one : Text → ℕ → Text
with_one word a = word ⋅ codes " " ⋅ decimal a

abbrev pub with_two : Text → (a b : ℕ) → Text
with_two word a b = word ⋅ codes " " ⋅ decimal a ⋅ codes " " ⋅ decimal b

abbrev pub with_three : Text → (a b c : ℕ) → Text
with_three word a b c = word ⋅ codes " " ⋅ decimal a ⋅ codes " " ⋅ decimal b ⋅ codes " " ⋅ decimal c

-- how the store fails, if it does
abbrev pub plan_text : StorePlan → Text
plan_text Works = codes ""
plan_text FailsBefore = codes " before"
plan_text FailsAfter = codes " after"

-- the words of an answer at a hop, and at its source
abbrev pub answer_word : Bool → Text
answer_word true = codes "yes"
answer_word false = codes "no"

abbrev pub told_word : Bool → Text
told_word true = codes "told-yes"
told_word false = codes "told-no"

abbrev pub event_text : Event → Text
event_text (Start c now) = with_two (codes "start") c now
event_text (Ask c rate plan) = codes "ask " ⋅ decimal c ⋅ codes " " ⋅ code_text (code_of rate) ⋅ plan_text plan
event_text (Again c) = with_one (codes "again") c
event_text (Crash c) = with_one (codes "crash") c
event_text (Emit c now) = with_two (codes "emit") c now
event_text (Arrive c cell at) = with_three (codes "arrive") c cell at
event_text (Request c hop seq) = with_three (codes "request") c hop seq
event_text (Turn c seq) = with_two (codes "turn") c seq
event_text (Answer c hop seq granted) = with_three (answer_word granted) c hop seq
event_text (Told c seq granted) = with_two (told_word granted) c seq
event_text (Capacity p u) = with_two (codes "capacity") p u
