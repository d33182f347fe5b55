-- Steps of a net over lines.
use Rattle.std.proofs.Common.{◌≡◌, ◌∙◌, inl, inr, ℕ, ◌+◌, ◌<◌, ◌++◌, List, [], ◌∷◌, Option, Bool, refl, sym, ap, subst, append_assoc, length, take, drop, true, false, take-append-drop, append-nil, arith, get_or}
use Rattle.std.specs.Prelude.{◌==◌, None, Some, Result, Ok, Err, IfErr, IsErrAnd, is_ok, OnOk, OnErr, if◌then◌else◌}
use Rattle.std.specs.Str.{IsUtf8, is_utf8}
use Rattle.std.specs.Io.KnownBytes.{Appends}
use Rattle.std.proofs.lemmas.Str.{IsUtf8-from_is_utf8, is_utf8-from_IsUtf8}
use Rattle.std.proofs.lemmas.Bool.{false_from_ne_true}
use Rattle.abt_format.specs.Report.{safe_line}
use Rattle.abt_net.specs.Topology.{Topology}
use Rattle.abt_model.specs.declared.event.Event.{Event}
use Rattle.abt_lines.specs.Lines.{seen_lines}
use Rattle.abt_lines.specs.Runs.{AnswersAll, IsMade}
use Rattle.abt_lines.specs.Served.{Begins, IsServed, IsServedPart, ServesAll, ServesPart}
use Rattle.abt_step.specs.AnswerObjects.{end_object}
use Rattle.abt_step.specs.Asked.{asked_by, asked_in, asked_on, begins_with}
use Rattle.abt_step.specs.declared.asked.Asked.TheVariants.{Wrong}
use Rattle.abt_step.specs.declared.asked.AskedFault.TheVariants.{Event as NoEvent}
use Rattle.abt_step.specs.Stepped.{answer_to, answers_to, dialogue, ending, events_past, events_past_all, lines_to, object_to}
use Rattle.abt_step.specs.Steps.{AnswersLines, EndsStepping, IsPast, StandsAt, StepsLine}
use Rattle.abt_plans.specs.declared.answer_form.AnswerForm.{AnswerForm}
use Rattle.abt_step.specs.declared.asked.Asked.{Asked}
use Rattle.abt_step.specs.declared.stepped.SteppedLines.{SteppedLines}

abbrev pub Lines : Type 0
Lines = List (Option (List ℕ))

pub run_said : AnswersLines
run_said form net opening events old new number [] said stands (none, same) =
    (none, subst (StandsAt form net opening events) (sym same) stands)
run_said form net opening events old new number (line ∷ lines) said stands (mid, first, rest, is, step, run) =
    let past = step form net opening events stands in
    let more = run_said form net opening (events_past opening events (asked_on line)) mid new (number + 1) lines rest past.stands run in (
      is ∙ ap (λ t. t ++ rest) past.says ∙ ap (λ t. answer_to form net opening events (asked_on line) ++ t) more.0,
      more.1,
    )

-- the answers to some lines, and then to more
answers_more : (form : AnswerForm) (net : Topology) (opening events : List Event) (a b : Lines)
    → answers_to form net opening events (a ++ b) ≡ answers_to form net opening events a ++ answers_to form net opening (events_past_all opening events a) b
answers_more form net opening events [] b = refl
answers_more form net opening events (line ∷ a) b =
    ap (λ t. answer_to form net opening events (asked_on line) ++ t) (answers_more form net opening (events_past opening events (asked_on line)) a b)
    ∙ sym (append_assoc (answer_to form net opening events (asked_on line)) (answers_to form net opening (events_past opening events (asked_on line)) a)
    (answers_to form net opening (events_past_all opening (events_past opening events (asked_on line)) a) b))

all_said : (form : AnswerForm) (net : Topology) (opening : List Event) (first last : SteppedLines) (lines : Lines) (text : List ℕ)
    → StandsAt form net opening opening first → AnswersAll StepsLine EndsStepping first 1 lines text last → text ≡ dialogue form net opening lines
all_said form net opening first last lines text stands all =
    let said = run_said form net opening opening first last 1 lines all.answers stands all.runs in
    all.is ∙ ap (λ t. t ++ all.behind) said.0
    ∙ ap (λ t. answers_to form net opening opening lines ++ t) (all.ended form net opening (events_past_all opening opening lines) said.1)

made_said : (form : AnswerForm) (net : Topology) (opening : List Event) (first : SteppedLines) (lines : Lines) (text : List ℕ)
    → StandsAt form net opening opening first → IsMade StepsLine EndsStepping first lines text → Begins text (dialogue form net opening lines)
made_said form net opening first lines text stands (inl (n, part)) =
    let said = run_said form net opening opening first part.server 1 (take n lines) text stands part.runs in
    let more = answers_to form net opening (events_past_all opening opening (take n lines)) (drop n lines) in record {
      rest = more ++ ending form true;
      is = ap (λ l. answers_to form net opening opening l ++ ending form true) (sym (take-append-drop n lines))
          ∙ ap (λ t. t ++ ending form true) (answers_more form net opening opening (take n lines) (drop n lines) ∙ ap (λ t. t ++ more) (sym said.0))
          ∙ append_assoc text more (ending form true);
    }
made_said form net opening first lines text stands (inr (last, all)) =
    record { rest = []; is = sym (append-nil text ∙ all_said form net opening first last lines text stands all) }

pub served : (form : AnswerForm) (net : Topology) (opening : List Event) (first last : SteppedLines) (left old new : Option (List ℕ))
    → StandsAt form net opening opening first
    → ServesAll StepsLine EndsStepping first last left old new → IsServed (λ source. dialogue form net opening (seen_lines source)) left old new
served form net opening first last None old new stands all = tt
served form net opening first last (Some source) old new stands (printed, went, all) =
    subst (Appends old new) (all_said form net opening first last (seen_lines source) printed stands all) went

pub served_part : (form : AnswerForm) (net : Topology) (opening : List Event) (first : SteppedLines) (left old new : Option (List ℕ))
    → StandsAt form net opening opening first
    → ServesPart StepsLine EndsStepping first left old new → IsServedPart (λ source. dialogue form net opening (seen_lines source)) left old new
served_part form net opening first None old new stands part = tt
served_part form net opening first (Some source) old new stands (made, of, went) =
    let begins = made_said form net opening first (seen_lines source) made stands of in record {
      printed = went.printed;
      written = went.written;
      front = record {
        rest = went.front.rest ++ begins.rest;
        is = begins.is ∙ ap (λ front. front ++ begins.rest) went.front.is ∙ append_assoc went.printed went.front.rest begins.rest;
      };
    }

pub on_ok : {T E : Type 0} (r : Result T E) (P Q : Type 0) → OnOk r P → (P → Q) → OnOk r Q
on_ok (Ok x) P Q p f = f p
on_ok (Err e) P Q p f = tt

pub on_all : {T E : Type 0} (r : Result T E) (P : Type 0) → P → OnOk r P
on_all (Ok x) P p = p
on_all (Err e) P p = tt

pub on_err : {T E : Type 0} (r : Result T E) (P Q : Type 0) → OnErr r P → (P → Q) → OnErr r Q
on_err (Ok x) P Q p f = tt
on_err (Err e) P Q p f = f p

-- Octets that are text, or aren't.
pub utf8_line : (octets text : List ℕ) → text ≡ octets → IsUtf8 octets → asked_by text ≡ asked_in octets
utf8_line octets text is valid =
    ap asked_by is ∙ sym (ap (λ (b : Bool). if b then asked_by octets else Wrong NoEvent) (is_utf8-from_IsUtf8 octets valid))

pub no_utf8 : (octets : List ℕ) → (IsUtf8 octets → ⊥) → Wrong NoEvent ≡ asked_in octets
no_utf8 octets invalid =
    sym (ap (λ (b : Bool). if b then asked_by octets else Wrong NoEvent) (false_from_ne_true (is_utf8 octets) (λ e. invalid (IsUtf8-from_is_utf8 octets e))))

pub first_octet : (text : List ℕ) (octet d : ℕ) → 0 < length text → begins_with octet text ≡ (get_or text 0 d == octet)
first_octet [] octet d some = absurd (omega (arith, some))
first_octet (first ∷ text) octet d some = refl

-- what is told is what was told
pub if_err-from : {T E : Type 0} (r : Result T E) (P Q : E → Type 0) → ((y : E) → P y → Q y) → IsErrAnd r P → IfErr r Q
if_err-from (Ok x) P Q f p = absurd p
if_err-from (Err e) P Q f p = f e p

-- the form of an answer
pub as_object : (form : AnswerForm) (net : Topology) (opening events : List Event) (asked : Asked) → form.json ≡ true
    → object_to form net opening events asked ≡ answer_to form net opening events asked
as_object form net opening events asked is =
    sym (ap (λ (b : Bool). if b then object_to form net opening events asked else lines_to form net opening events asked) is)

pub in_words : (form : AnswerForm) (net : Topology) (opening events : List Event) (asked : Asked) → form.json ≡ false
    → lines_to form net opening events asked ≡ answer_to form net opening events asked
in_words form net opening events asked is =
    sym (ap (λ (b : Bool). if b then object_to form net opening events asked else lines_to form net opening events asked) is)

-- What was asked for is done.
abbrev pub Past : SteppedLines → Asked → List ℕ → SteppedLines → Type 0
Past old asked said new =
    (form : AnswerForm) (net : Topology) (opening events : List Event) → StandsAt form net opening events old → IsPast form net opening events asked said new

pub ok_past : {T E : Type 0} (r : Result T E) (old new : SteppedLines) (asked other : Asked) (said : List ℕ) → asked ≡ other
    → ((form : AnswerForm) (net : Topology) (opening events : List Event) → StandsAt form net opening events old
    → OnOk r (IsPast form net opening events asked said new)) → OnOk r (Past old other said new)
ok_past (Ok x) old new asked other said same f = subst (λ a. Past old a said new) same f
ok_past (Err e) old new asked other said same f = tt

-- What is said at the end.
pub ending_object : (form : AnswerForm) (safe : Bool) → form.json ≡ true → end_object safe ≡ ending form safe
ending_object form safe is = sym (ap (λ (b : Bool). if b then end_object safe else safe_line safe) is)

pub ending_line : (form : AnswerForm) (safe : Bool) → form.json ≡ false → safe_line safe ≡ ending form safe
ending_line form safe is = sym (ap (λ (b : Bool). if b then end_object safe else safe_line safe) is)

pub ended : {T E : Type 0} (r : Result T E) (new old said : List ℕ) (last : SteppedLines) → OnOk r (new ≡ old ++ said) → old ≡ []
    → EndsStepping last 0 said → OnOk r (EndsStepping last 0 new)
ended (Ok x) new old said last is none safe = λ form net opening events p. is ∙ ap (λ t. t ++ said) none ∙ safe form net opening events p
ended (Err e) new old said last is none safe = tt

pub on_pushed : {T E : Type 0} (r : Result T E) (new old said : List ℕ) → new ≡ (if is_ok r then old ++ said else old) → OnOk r (new ≡ old ++ said)
on_pushed (Ok x) new old said is = is
on_pushed (Err e) new old said is = tt
