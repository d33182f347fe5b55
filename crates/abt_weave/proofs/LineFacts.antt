-- What a first hop looks at before it takes a cell is what the source's projection and the port's say.
use Rattle.std.proofs.Common.{◌≡◌, ℕ, refl, ap, Bool, true, false, List, [], ◌∷◌, ◌++◌, ◌∙◌, sym, Some}
use Rattle.std.specs.Prelude.{◌+◌, ◌==◌, if◌then◌else◌, max}
use Rattle.abt_gcra.specs.declared.verdict.Verdict.TheVariants.{Conforming}
use Rattle.abt_facts.specs.declared.fact.Fact.{Fact}
use Rattle.abt_facts.specs.declared.fact.Fact.TheVariants.{Started, Crashed, Stored, Asked, Heard, Emitted, Delivered, Passed, Shut, Turned, Back, Arrived}
use Rattle.abt_facts.specs.Requests.{floor_of, ask_of, mark_of}
use Rattle.abt_facts.specs.Keeping.{need_by, writes_by, written_by}
use Rattle.abt_facts.specs.Source.{SourceState, Down, Idle, Asking, Source, open_ask, need_in, after, source_of, rate_of, stored_of, kept_of, last_of, need_of, writes, written_for}
use Rattle.abt_facts.specs.Cells.{emitted_of, moment_of, after_last_of, last_arrival_of, delivered_mark_of}

-- the facts of the access line: those of the source, the requests that came to the first hop, and the cells, whatever was held
abbrev pub line : List Fact → List Fact
line [] = []
line (Passed seq hop ∷ facts) = line facts
line (Shut seq hop ∷ facts) = line facts
line (Turned seq ∷ facts) = line facts
line (Back seq hop ∷ facts) = line facts
line (Arrived cell at rate verdict ∷ facts) = Arrived cell at 0 Conforming ∷ line facts
line (fact ∷ facts) = fact ∷ line facts

pub line-append : (xs ys : List Fact) → line (xs ++ ys) ≡ line xs ++ line ys
line-append [] ys = refl
line-append (Started now kept ∷ xs) ys = ap (λ (l : List Fact). Started now kept ∷ l) (line-append xs ys)
line-append (Crashed ∷ xs) ys = ap (λ (l : List Fact). Crashed ∷ l) (line-append xs ys)
line-append (Stored kept ∷ xs) ys = ap (λ (l : List Fact). Stored kept ∷ l) (line-append xs ys)
line-append (Asked seq floor ask mark ∷ xs) ys = ap (λ (l : List Fact). Asked seq floor ask mark ∷ l) (line-append xs ys)
line-append (Heard seq granted ∷ xs) ys = ap (λ (l : List Fact). Heard seq granted ∷ l) (line-append xs ys)
line-append (Emitted cell at rate ∷ xs) ys = ap (λ (l : List Fact). Emitted cell at rate ∷ l) (line-append xs ys)
line-append (Delivered seq ∷ xs) ys = ap (λ (l : List Fact). Delivered seq ∷ l) (line-append xs ys)
line-append (Passed seq hop ∷ xs) ys = line-append xs ys
line-append (Shut seq hop ∷ xs) ys = line-append xs ys
line-append (Turned seq ∷ xs) ys = line-append xs ys
line-append (Back seq hop ∷ xs) ys = line-append xs ys
line-append (Arrived cell at rate verdict ∷ xs) ys = ap (λ (l : List Fact). Arrived cell at 0 Conforming ∷ l) (line-append xs ys)

pub floor_of-line : (facts : List Fact) (s : ℕ) → floor_of (line facts) s ≡ floor_of facts s
floor_of-line [] s = refl
floor_of-line (Started now kept ∷ facts) s = floor_of-line facts s
floor_of-line (Crashed ∷ facts) s = floor_of-line facts s
floor_of-line (Stored kept ∷ facts) s = floor_of-line facts s
floor_of-line (Asked seq floor ask mark ∷ facts) s = ap (λ (n : ℕ). if seq == s then floor else n) (floor_of-line facts s)
floor_of-line (Heard seq granted ∷ facts) s = floor_of-line facts s
floor_of-line (Emitted cell at rate ∷ facts) s = floor_of-line facts s
floor_of-line (Delivered seq ∷ facts) s = floor_of-line facts s
floor_of-line (Passed seq hop ∷ facts) s = floor_of-line facts s
floor_of-line (Shut seq hop ∷ facts) s = floor_of-line facts s
floor_of-line (Turned seq ∷ facts) s = floor_of-line facts s
floor_of-line (Back seq hop ∷ facts) s = floor_of-line facts s
floor_of-line (Arrived cell at rate verdict ∷ facts) s = floor_of-line facts s

pub ask_of-line : (facts : List Fact) (s : ℕ) → ask_of (line facts) s ≡ ask_of facts s
ask_of-line [] s = refl
ask_of-line (Started now kept ∷ facts) s = ask_of-line facts s
ask_of-line (Crashed ∷ facts) s = ask_of-line facts s
ask_of-line (Stored kept ∷ facts) s = ask_of-line facts s
ask_of-line (Asked seq floor ask mark ∷ facts) s = ap (λ (n : ℕ). if seq == s then ask else n) (ask_of-line facts s)
ask_of-line (Heard seq granted ∷ facts) s = ask_of-line facts s
ask_of-line (Emitted cell at rate ∷ facts) s = ask_of-line facts s
ask_of-line (Delivered seq ∷ facts) s = ask_of-line facts s
ask_of-line (Passed seq hop ∷ facts) s = ask_of-line facts s
ask_of-line (Shut seq hop ∷ facts) s = ask_of-line facts s
ask_of-line (Turned seq ∷ facts) s = ask_of-line facts s
ask_of-line (Back seq hop ∷ facts) s = ask_of-line facts s
ask_of-line (Arrived cell at rate verdict ∷ facts) s = ask_of-line facts s

pub mark_of-line : (facts : List Fact) (s : ℕ) → mark_of (line facts) s ≡ mark_of facts s
mark_of-line [] s = refl
mark_of-line (Started now kept ∷ facts) s = mark_of-line facts s
mark_of-line (Crashed ∷ facts) s = mark_of-line facts s
mark_of-line (Stored kept ∷ facts) s = mark_of-line facts s
mark_of-line (Asked seq floor ask mark ∷ facts) s = ap (λ (n : ℕ). if seq == s then mark else n) (mark_of-line facts s)
mark_of-line (Heard seq granted ∷ facts) s = mark_of-line facts s
mark_of-line (Emitted cell at rate ∷ facts) s = mark_of-line facts s
mark_of-line (Delivered seq ∷ facts) s = mark_of-line facts s
mark_of-line (Passed seq hop ∷ facts) s = mark_of-line facts s
mark_of-line (Shut seq hop ∷ facts) s = mark_of-line facts s
mark_of-line (Turned seq ∷ facts) s = mark_of-line facts s
mark_of-line (Back seq hop ∷ facts) s = mark_of-line facts s
mark_of-line (Arrived cell at rate verdict ∷ facts) s = mark_of-line facts s

-- what the open request asks for
pub open_ask-line : (facts : List Fact) (state : SourceState) → open_ask (line facts) state ≡ open_ask facts state
open_ask-line facts Down = refl
open_ask-line facts Idle = refl
open_ask-line facts (Asking seq) = ask_of-line facts seq

-- a source that asked, where the open request asked for so much
abbrev asked_from-line : (seq floor ask awaited : ℕ) → Source → Source
asked_from-line seq floor ask awaited s = record s {
  state = Asking seq;
  rate = floor;
  kept = if writes_by s.kept s.last (need_by s.gap s.rate awaited ask) then s.stored else s.kept;
  last = seq;
}

-- a source that heard an answer, and has this rate then
abbrev heard_from-line : (rate : ℕ) → Source → Source
heard_from-line rate s = record s { state = Idle; rate = rate }

-- the source is what these facts make it
pub source_of-line : (facts : List Fact) → source_of (line facts) ≡ source_of facts
source_of-line [] = refl
source_of-line (Started now kept ∷ facts) = ap (after facts (Started now kept)) (source_of-line facts)
source_of-line (Crashed ∷ facts) = ap (after facts Crashed) (source_of-line facts)
source_of-line (Stored kept ∷ facts) = ap (after facts (Stored kept)) (source_of-line facts)
source_of-line (Asked seq floor ask mark ∷ facts) =
    let s = source_of (line facts) in
    ap (λ (r : ℕ). asked_from-line seq floor ask r s) (open_ask-line facts s.state) ∙ ap (after facts (Asked seq floor ask mark)) (source_of-line facts)
source_of-line (Heard seq true ∷ facts) =
    ap (λ (r : ℕ). heard_from-line r (source_of (line facts))) (ask_of-line facts seq) ∙ ap (after facts (Heard seq true)) (source_of-line facts)
source_of-line (Heard seq false ∷ facts) =
    ap (λ (r : ℕ). heard_from-line r (source_of (line facts))) (floor_of-line facts seq) ∙ ap (after facts (Heard seq false)) (source_of-line facts)
source_of-line (Emitted cell at rate ∷ facts) = ap (after facts (Emitted cell at rate)) (source_of-line facts)
source_of-line (Delivered seq ∷ facts) = source_of-line facts
source_of-line (Passed seq hop ∷ facts) = source_of-line facts
source_of-line (Shut seq hop ∷ facts) = source_of-line facts
source_of-line (Turned seq ∷ facts) = source_of-line facts
source_of-line (Back seq hop ∷ facts) = source_of-line facts
source_of-line (Arrived cell at rate verdict ∷ facts) = source_of-line facts

pub rate_of-line : (facts : List Fact) → rate_of (line facts) ≡ rate_of facts
rate_of-line facts = ap (λ (s : Source). s.rate) (source_of-line facts)

pub stored_of-line : (facts : List Fact) → stored_of (line facts) ≡ stored_of facts
stored_of-line facts = ap (λ (s : Source). s.stored) (source_of-line facts)

pub last_of-line : (facts : List Fact) → last_of (line facts) ≡ last_of facts
last_of-line facts = ap (λ (s : Source). s.last) (source_of-line facts)

-- so an ask has the same need, writes in the same cases, and writes the same
need_of-line : (facts : List Fact) (ask : ℕ) → need_of (line facts) ask ≡ need_of facts ask
need_of-line facts ask =
    let s = source_of (line facts) in
    ap (λ (r : ℕ). need_by s.gap s.rate r ask) (open_ask-line facts s.state) ∙ ap (λ (x : Source). need_in facts x ask) (source_of-line facts)

pub writes-line : (facts : List Fact) (ask : ℕ) → writes (line facts) ask ≡ writes facts ask
writes-line facts ask =
    ap (λ (n : ℕ). writes_by (kept_of (line facts)) (last_of (line facts)) n) (need_of-line facts ask)
    ∙ ap (λ (s : Source). writes_by s.kept s.last (need_of facts ask)) (source_of-line facts)

pub written_for-line : (facts : List Fact) (ask : ℕ) → written_for (line facts) ask ≡ written_for facts ask
written_for-line facts ask =
    ap (λ (n : ℕ). written_by (last_of (line facts)) n) (need_of-line facts ask) ∙ ap (λ (n : ℕ). written_by n (need_of facts ask)) (last_of-line facts)

pub emitted_of-line : (facts : List Fact) → emitted_of (line facts) ≡ emitted_of facts
emitted_of-line [] = refl
emitted_of-line (Started now kept ∷ facts) = emitted_of-line facts
emitted_of-line (Crashed ∷ facts) = emitted_of-line facts
emitted_of-line (Stored kept ∷ facts) = emitted_of-line facts
emitted_of-line (Asked seq floor ask mark ∷ facts) = emitted_of-line facts
emitted_of-line (Heard seq granted ∷ facts) = emitted_of-line facts
emitted_of-line (Emitted cell at rate ∷ facts) = ap (λ (n : ℕ). n + 1) (emitted_of-line facts)
emitted_of-line (Delivered seq ∷ facts) = emitted_of-line facts
emitted_of-line (Passed seq hop ∷ facts) = emitted_of-line facts
emitted_of-line (Shut seq hop ∷ facts) = emitted_of-line facts
emitted_of-line (Turned seq ∷ facts) = emitted_of-line facts
emitted_of-line (Back seq hop ∷ facts) = emitted_of-line facts
emitted_of-line (Arrived cell at rate verdict ∷ facts) = emitted_of-line facts

pub moment_of-line : (facts : List Fact) (n : ℕ) → moment_of (line facts) n ≡ moment_of facts n
moment_of-line [] n = refl
moment_of-line (Started now kept ∷ facts) n = moment_of-line facts n
moment_of-line (Crashed ∷ facts) n = moment_of-line facts n
moment_of-line (Stored kept ∷ facts) n = moment_of-line facts n
moment_of-line (Asked seq floor ask mark ∷ facts) n = moment_of-line facts n
moment_of-line (Heard seq granted ∷ facts) n = moment_of-line facts n
moment_of-line (Emitted cell at rate ∷ facts) n = ap (λ (m : ℕ). if cell == n then at else m) (moment_of-line facts n)
moment_of-line (Delivered seq ∷ facts) n = moment_of-line facts n
moment_of-line (Passed seq hop ∷ facts) n = moment_of-line facts n
moment_of-line (Shut seq hop ∷ facts) n = moment_of-line facts n
moment_of-line (Turned seq ∷ facts) n = moment_of-line facts n
moment_of-line (Back seq hop ∷ facts) n = moment_of-line facts n
moment_of-line (Arrived cell at rate verdict ∷ facts) n = moment_of-line facts n

pub after_last_of-line : (facts : List Fact) → after_last_of (line facts) ≡ after_last_of facts
after_last_of-line [] = refl
after_last_of-line (Started now kept ∷ facts) = after_last_of-line facts
after_last_of-line (Crashed ∷ facts) = after_last_of-line facts
after_last_of-line (Stored kept ∷ facts) = after_last_of-line facts
after_last_of-line (Asked seq floor ask mark ∷ facts) = after_last_of-line facts
after_last_of-line (Heard seq granted ∷ facts) = after_last_of-line facts
after_last_of-line (Emitted cell at rate ∷ facts) = after_last_of-line facts
after_last_of-line (Delivered seq ∷ facts) = after_last_of-line facts
after_last_of-line (Passed seq hop ∷ facts) = after_last_of-line facts
after_last_of-line (Shut seq hop ∷ facts) = after_last_of-line facts
after_last_of-line (Turned seq ∷ facts) = after_last_of-line facts
after_last_of-line (Back seq hop ∷ facts) = after_last_of-line facts
after_last_of-line (Arrived cell at rate verdict ∷ facts) = refl

pub last_arrival_of-line : (facts : List Fact) → last_arrival_of (line facts) ≡ last_arrival_of facts
last_arrival_of-line [] = refl
last_arrival_of-line (Started now kept ∷ facts) = last_arrival_of-line facts
last_arrival_of-line (Crashed ∷ facts) = last_arrival_of-line facts
last_arrival_of-line (Stored kept ∷ facts) = last_arrival_of-line facts
last_arrival_of-line (Asked seq floor ask mark ∷ facts) = last_arrival_of-line facts
last_arrival_of-line (Heard seq granted ∷ facts) = last_arrival_of-line facts
last_arrival_of-line (Emitted cell at rate ∷ facts) = last_arrival_of-line facts
last_arrival_of-line (Delivered seq ∷ facts) = last_arrival_of-line facts
last_arrival_of-line (Passed seq hop ∷ facts) = last_arrival_of-line facts
last_arrival_of-line (Shut seq hop ∷ facts) = last_arrival_of-line facts
last_arrival_of-line (Turned seq ∷ facts) = last_arrival_of-line facts
last_arrival_of-line (Back seq hop ∷ facts) = last_arrival_of-line facts
last_arrival_of-line (Arrived cell at rate verdict ∷ facts) = refl

pub delivered_mark_of-line : (facts : List Fact) → delivered_mark_of (line facts) ≡ delivered_mark_of facts
delivered_mark_of-line [] = refl
delivered_mark_of-line (Started now kept ∷ facts) = delivered_mark_of-line facts
delivered_mark_of-line (Crashed ∷ facts) = delivered_mark_of-line facts
delivered_mark_of-line (Stored kept ∷ facts) = delivered_mark_of-line facts
delivered_mark_of-line (Asked seq floor ask mark ∷ facts) = delivered_mark_of-line facts
delivered_mark_of-line (Heard seq granted ∷ facts) = delivered_mark_of-line facts
delivered_mark_of-line (Emitted cell at rate ∷ facts) = delivered_mark_of-line facts
delivered_mark_of-line (Delivered seq ∷ facts) = ap (λ (n : ℕ). max n (delivered_mark_of (line facts))) (mark_of-line facts seq) ∙ ap (λ (n : ℕ). max (mark_of facts seq) n) (delivered_mark_of-line facts)
delivered_mark_of-line (Passed seq hop ∷ facts) = delivered_mark_of-line facts
delivered_mark_of-line (Shut seq hop ∷ facts) = delivered_mark_of-line facts
delivered_mark_of-line (Turned seq ∷ facts) = delivered_mark_of-line facts
delivered_mark_of-line (Back seq hop ∷ facts) = delivered_mark_of-line facts
delivered_mark_of-line (Arrived cell at rate verdict ∷ facts) = delivered_mark_of-line facts
