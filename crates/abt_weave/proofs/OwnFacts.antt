-- A source is what its own facts make it: those that hops add tell it nothing.
use Rattle.std.proofs.Common.{◌≡◌, ℕ, refl, ap, Bool, true, false, List, [], ◌∷◌, ◌++◌, ◌∙◌, sym, Option, Some}
use Rattle.std.specs.Prelude.{◌+◌, ◌==◌, if◌then◌else◌, max}
use Rattle.std.proofs.lemmas.Bool.{cond_both}
use Rattle.abt_cell.specs.Channel.{Channel}
use Rattle.abt_facts.specs.declared.fact.Fact.{Fact}
use Rattle.abt_facts.specs.declared.fact.Fact.TheVariants.{Started, Crashed, Stored, Asked, Heard, Emitted, Delivered, Passed, Shut, Turned, Back, Arrived}
use Rattle.abt_facts.specs.Requests.{floor_of, ask_of}
use Rattle.abt_facts.specs.Keeping.{need_by, writes_by, written_by}
use Rattle.abt_facts.specs.Source.{SourceState, Down, Idle, Asking, Source, open_ask, need_in, after, source_of, state_of, rate_of, stored_of, kept_of, last_of, clock_of, next_of, need_of, writes, written_for}
use Rattle.abt_facts.specs.Cells.{emitted_of}
use Rattle.abt_cell.specs.Message.{Terms}
use Rattle.abt_source.specs.SourceFacts.{request_of, waiting_in, view_of}
use Rattle.abt_source.specs.SourceView.{SourceView}
use Rattle.abt_actor.specs.Actor.{ActorView, actor_of}

-- the facts that a source adds itself
abbrev pub own : List Fact → List Fact
own [] = []
own (Delivered seq ∷ facts) = own facts
own (Passed seq hop ∷ facts) = own facts
own (Shut seq hop ∷ facts) = own facts
own (Turned seq ∷ facts) = own facts
own (Back seq hop ∷ facts) = own facts
own (Arrived cell at rate verdict ∷ facts) = own facts
own (fact ∷ facts) = fact ∷ own facts

pub own-append : (xs ys : List Fact) → own (xs ++ ys) ≡ own xs ++ own ys
own-append [] ys = refl
own-append (Started now kept ∷ xs) ys = ap (λ (l : List Fact). Started now kept ∷ l) (own-append xs ys)
own-append (Crashed ∷ xs) ys = ap (λ (l : List Fact). Crashed ∷ l) (own-append xs ys)
own-append (Stored kept ∷ xs) ys = ap (λ (l : List Fact). Stored kept ∷ l) (own-append xs ys)
own-append (Asked seq floor ask mark ∷ xs) ys = ap (λ (l : List Fact). Asked seq floor ask mark ∷ l) (own-append xs ys)
own-append (Heard seq granted ∷ xs) ys = ap (λ (l : List Fact). Heard seq granted ∷ l) (own-append xs ys)
own-append (Emitted cell at rate ∷ xs) ys = ap (λ (l : List Fact). Emitted cell at rate ∷ l) (own-append xs ys)
own-append (Delivered seq ∷ xs) ys = own-append xs ys
own-append (Passed seq hop ∷ xs) ys = own-append xs ys
own-append (Shut seq hop ∷ xs) ys = own-append xs ys
own-append (Turned seq ∷ xs) ys = own-append xs ys
own-append (Back seq hop ∷ xs) ys = own-append xs ys
own-append (Arrived cell at rate verdict ∷ xs) ys = own-append xs ys

pub floor_of-own : (facts : List Fact) (s : ℕ) → floor_of (own facts) s ≡ floor_of facts s
floor_of-own [] s = refl
floor_of-own (Started now kept ∷ facts) s = floor_of-own facts s
floor_of-own (Crashed ∷ facts) s = floor_of-own facts s
floor_of-own (Stored kept ∷ facts) s = floor_of-own facts s
floor_of-own (Asked seq floor ask mark ∷ facts) s = ap (λ (n : ℕ). if seq == s then floor else n) (floor_of-own facts s)
floor_of-own (Heard seq granted ∷ facts) s = floor_of-own facts s
floor_of-own (Emitted cell at rate ∷ facts) s = floor_of-own facts s
floor_of-own (Delivered seq ∷ facts) s = floor_of-own facts s
floor_of-own (Passed seq hop ∷ facts) s = floor_of-own facts s
floor_of-own (Shut seq hop ∷ facts) s = floor_of-own facts s
floor_of-own (Turned seq ∷ facts) s = floor_of-own facts s
floor_of-own (Back seq hop ∷ facts) s = floor_of-own facts s
floor_of-own (Arrived cell at rate verdict ∷ facts) s = floor_of-own facts s

pub ask_of-own : (facts : List Fact) (s : ℕ) → ask_of (own facts) s ≡ ask_of facts s
ask_of-own [] s = refl
ask_of-own (Started now kept ∷ facts) s = ask_of-own facts s
ask_of-own (Crashed ∷ facts) s = ask_of-own facts s
ask_of-own (Stored kept ∷ facts) s = ask_of-own facts s
ask_of-own (Asked seq floor ask mark ∷ facts) s = ap (λ (n : ℕ). if seq == s then ask else n) (ask_of-own facts s)
ask_of-own (Heard seq granted ∷ facts) s = ask_of-own facts s
ask_of-own (Emitted cell at rate ∷ facts) s = ask_of-own facts s
ask_of-own (Delivered seq ∷ facts) s = ask_of-own facts s
ask_of-own (Passed seq hop ∷ facts) s = ask_of-own facts s
ask_of-own (Shut seq hop ∷ facts) s = ask_of-own facts s
ask_of-own (Turned seq ∷ facts) s = ask_of-own facts s
ask_of-own (Back seq hop ∷ facts) s = ask_of-own facts s
ask_of-own (Arrived cell at rate verdict ∷ facts) s = ask_of-own facts s

-- what the open request asks for
pub open_ask-own : (facts : List Fact) (state : SourceState) → open_ask (own facts) state ≡ open_ask facts state
open_ask-own facts Down = refl
open_ask-own facts Idle = refl
open_ask-own facts (Asking seq) = ask_of-own facts seq

-- a source that asked, where the open request asked for so much
abbrev asked_from-own : (seq floor ask awaited : ℕ) → Source → Source
asked_from-own seq floor ask awaited s = record s {
  state = Asking seq;
  rate = floor;
  kept = if writes_by s.kept s.last (need_by s.gap s.rate awaited ask) then s.stored else s.kept;
  last = seq;
}

-- a source that heard an answer, and has this rate then
abbrev heard_from-own : (rate : ℕ) → Source → Source
heard_from-own rate s = record s { state = Idle; rate = rate }

-- the source is what these facts make it
pub source_of-own : (facts : List Fact) → source_of (own facts) ≡ source_of facts
source_of-own [] = refl
source_of-own (Started now kept ∷ facts) = ap (after facts (Started now kept)) (source_of-own facts)
source_of-own (Crashed ∷ facts) = ap (after facts Crashed) (source_of-own facts)
source_of-own (Stored kept ∷ facts) = ap (after facts (Stored kept)) (source_of-own facts)
source_of-own (Asked seq floor ask mark ∷ facts) =
    let s = source_of (own facts) in
    ap (λ (r : ℕ). asked_from-own seq floor ask r s) (open_ask-own facts s.state) ∙ ap (after facts (Asked seq floor ask mark)) (source_of-own facts)
source_of-own (Heard seq true ∷ facts) =
    ap (λ (r : ℕ). heard_from-own r (source_of (own facts))) (ask_of-own facts seq) ∙ ap (after facts (Heard seq true)) (source_of-own facts)
source_of-own (Heard seq false ∷ facts) =
    ap (λ (r : ℕ). heard_from-own r (source_of (own facts))) (floor_of-own facts seq) ∙ ap (after facts (Heard seq false)) (source_of-own facts)
source_of-own (Emitted cell at rate ∷ facts) = ap (after facts (Emitted cell at rate)) (source_of-own facts)
source_of-own (Delivered seq ∷ facts) = source_of-own facts
source_of-own (Passed seq hop ∷ facts) = source_of-own facts
source_of-own (Shut seq hop ∷ facts) = source_of-own facts
source_of-own (Turned seq ∷ facts) = source_of-own facts
source_of-own (Back seq hop ∷ facts) = source_of-own facts
source_of-own (Arrived cell at rate verdict ∷ facts) = source_of-own facts

pub state_of-own : (facts : List Fact) → state_of (own facts) ≡ state_of facts
state_of-own facts = ap (λ (s : Source). s.state) (source_of-own facts)

pub rate_of-own : (facts : List Fact) → rate_of (own facts) ≡ rate_of facts
rate_of-own facts = ap (λ (s : Source). s.rate) (source_of-own facts)

pub stored_of-own : (facts : List Fact) → stored_of (own facts) ≡ stored_of facts
stored_of-own facts = ap (λ (s : Source). s.stored) (source_of-own facts)

pub last_of-own : (facts : List Fact) → last_of (own facts) ≡ last_of facts
last_of-own facts = ap (λ (s : Source). s.last) (source_of-own facts)

pub clock_of-own : (facts : List Fact) → clock_of (own facts) ≡ clock_of facts
clock_of-own facts = ap (λ (s : Source). s.clock) (source_of-own facts)

pub next_of-own : (facts : List Fact) → next_of (own facts) ≡ next_of facts
next_of-own facts = ap (λ (s : Source). s.next) (source_of-own facts)

-- so an ask has the same need, writes in the same cases, and writes the same
need_of-own : (facts : List Fact) (ask : ℕ) → need_of (own facts) ask ≡ need_of facts ask
need_of-own facts ask =
    let s = source_of (own facts) in
    ap (λ (r : ℕ). need_by s.gap s.rate r ask) (open_ask-own facts s.state) ∙ ap (λ (x : Source). need_in facts x ask) (source_of-own facts)

pub writes-own : (facts : List Fact) (ask : ℕ) → writes (own facts) ask ≡ writes facts ask
writes-own facts ask =
    ap (λ (n : ℕ). writes_by (kept_of (own facts)) (last_of (own facts)) n) (need_of-own facts ask)
    ∙ ap (λ (s : Source). writes_by s.kept s.last (need_of facts ask)) (source_of-own facts)

pub written_for-own : (facts : List Fact) (ask : ℕ) → written_for (own facts) ask ≡ written_for facts ask
written_for-own facts ask =
    ap (λ (n : ℕ). written_by (last_of (own facts)) n) (need_of-own facts ask) ∙ ap (λ (n : ℕ). written_by n (need_of facts ask)) (last_of-own facts)

pub emitted_of-own : (facts : List Fact) → emitted_of (own facts) ≡ emitted_of facts
emitted_of-own [] = refl
emitted_of-own (Started now kept ∷ facts) = emitted_of-own facts
emitted_of-own (Crashed ∷ facts) = emitted_of-own facts
emitted_of-own (Stored kept ∷ facts) = emitted_of-own facts
emitted_of-own (Asked seq floor ask mark ∷ facts) = emitted_of-own facts
emitted_of-own (Heard seq granted ∷ facts) = emitted_of-own facts
emitted_of-own (Emitted cell at rate ∷ facts) = ap (λ (n : ℕ). n + 1) (emitted_of-own facts)
emitted_of-own (Delivered seq ∷ facts) = emitted_of-own facts
emitted_of-own (Passed seq hop ∷ facts) = emitted_of-own facts
emitted_of-own (Shut seq hop ∷ facts) = emitted_of-own facts
emitted_of-own (Turned seq ∷ facts) = emitted_of-own facts
emitted_of-own (Back seq hop ∷ facts) = emitted_of-own facts
emitted_of-own (Arrived cell at rate verdict ∷ facts) = emitted_of-own facts

pub request_of-own : (vc : Channel) (facts : List Fact) (s : ℕ) → request_of vc (own facts) s ≡ request_of vc facts s
request_of-own vc facts s =
    ap (λ (n : ℕ). (let made : Terms = record { vc = vc; seq = s; floor = n; ask = ask_of (own facts) s } in made)) (floor_of-own facts s)
    ∙ ap (λ (n : ℕ). (let made : Terms = record { vc = vc; seq = s; floor = floor_of facts s; ask = n } in made)) (ask_of-own facts s)

waiting_in-own : (vc : Channel) (facts : List Fact) (state : SourceState) → waiting_in vc (own facts) state ≡ waiting_in vc facts state
waiting_in-own vc facts Down = refl
waiting_in-own vc facts Idle = refl
waiting_in-own vc facts (Asking s) = ap (λ (t : Terms). Some t) (request_of-own vc facts s)

abbrev viewed : Channel → Source → Option Terms → SourceView
viewed vc s newest = record {
  vc = vc;
  rate = s.rate;
  last = s.last;
  kept = s.kept;
  gap = s.gap;
  next = s.next;
  emitted = s.emission;
  newest = newest;
}

view_of-own : (vc : Channel) (facts : List Fact) → view_of vc (own facts) ≡ view_of vc facts
view_of-own vc facts =
    ap (λ (s : Source). viewed vc s (waiting_in vc (own facts) s.state)) (source_of-own facts)
    ∙ ap (viewed vc (source_of facts)) (waiting_in-own vc facts (state_of facts))

abbrev acting : SourceView → Source → (cells : ℕ) → ActorView
acting view s cells = record { source = view; state = s.state; kept = s.stored; cells = cells; clock = s.clock }

pub actor_of-own : (vc : Channel) (facts : List Fact) → actor_of vc (own facts) ≡ actor_of vc facts
actor_of-own vc facts =
    ap (λ (v : SourceView). acting v (source_of (own facts)) (emitted_of (own facts))) (view_of-own vc facts)
    ∙ ap (λ (s : Source). acting (view_of vc facts) s (emitted_of (own facts))) (source_of-own facts)
    ∙ ap (acting (view_of vc facts) (source_of facts)) (emitted_of-own facts)
