-- The candidate of a port's next entry is the one event that comes with it.
use Rattle.std.proofs.Common.{◌≡◌, ℕ, refl, ap, Bool, true, false, List, ◌∙◌, sym, subst, Option, None, Some}
use Rattle.std.specs.Prelude.{◌==◌, ◌&&◌, ◌||◌, not, if◌then◌else◌, option_map}
use Rattle.std.proofs.lemmas.Bool.{false≢true, cond-true, eq-eqb, eqb-true, and_from}
use Rattle.abt_cell.specs.Channel.{Channel}
use Rattle.abt_model.specs.declared.event.Event.{Event}
use Rattle.abt_model.specs.declared.event.Event.TheVariants.{Arrive, Request, Answer}
use Rattle.abt_model.specs.Outcomes.{conn_of}
use Rattle.abt_model.specs.PortTable.{hop_visited}
use Rattle.abt_journal.specs.declared.input.PortInput.{PortInput}
use Rattle.abt_journal.specs.declared.input.PortInput.TheVariants.{Request as RequestIn, Answer as AnswerIn, Arrive as ArriveIn, Capacity as CapacityIn}
use Rattle.abt_model.specs.declared.entry.SourceEntry.{SourceEntry}
use Rattle.abt_model.specs.declared.entry.SourceEntry.TheVariants.{Did, Sent, Arrived as ArrivedAt}
use Rattle.abt_weave.specs.Asked.{floor_in, ask_in}
use Rattle.abt_weave.specs.Candidates.{is_sent_at, cell_arrived_at, event_by, channel_of}
use Rattle.abt_weave.specs.Comes.{input_told, entry_beside}
use Rattle.abt_weave.proofs.PortEvents.{some_same}

pub cond_some : {A : Type 0} → (b : Bool) (o : Option A) (y : A) → (if b then o else None) ≡ Some y → (b ≡ true) × (o ≡ Some y)
cond_some true o y h = (refl, h)
cond_some false o y h = absurd (cc)

pub and_both : (x y : Bool) → x && y ≡ true → (x ≡ true) × (y ≡ true)
and_both true y h = (refl, h)
and_both false y h = absurd (false≢true h)

sent_is : (place : ℕ) (next : Option SourceEntry) → is_sent_at place next ≡ true → next ≡ Some (Sent place)
sent_is place None h = absurd (false≢true h)
sent_is place (Some (Sent named)) h = ap (λ n. Some (Sent n)) (eqb-true named place h)
sent_is place (Some (Did event outcome)) h = absurd (false≢true h)
sent_is place (Some (ArrivedAt cell named)) h = absurd (false≢true h)

arrived_is : (place cell : ℕ) (next : Option SourceEntry) → cell_arrived_at place next ≡ Some cell → next ≡ Some (ArrivedAt cell place)
arrived_is place cell None h = absurd (cc)
arrived_is place cell (Some (Sent named)) h = absurd (cc)
arrived_is place cell (Some (Did event outcome)) h = absurd (cc)
arrived_is place cell (Some (ArrivedAt found named)) h =
    let both = cond_some (named == place) (Some found) cell h in
    ap (λ n. Some (ArrivedAt found n)) (eqb-true named place both.0) ∙ ap (λ n. Some (ArrivedAt n place)) (some_same both.1)

-- an event that is found
pub record IsFound (c hop place : ℕ) (input : PortInput) (placed : List SourceEntry) (next : Option SourceEntry) (event : Event) : Type 0 where
  pub conn : conn_of event ≡ Some c
  pub hop_is : hop_visited event ≡ hop
  pub brings : (vc : Channel) → channel_of input ≡ Some vc → input_told vc placed event ≡ Some input
  pub beside : (x : SourceEntry) → entry_beside place event ≡ Some x → next ≡ Some x

sent_beside : (hop place : ℕ) (next : Option SourceEntry) → not (hop == 1) || is_sent_at place next ≡ true → (x : SourceEntry) → (if hop == 1 then Some (Sent place) else None) ≡ Some x → next ≡ Some x
sent_beside hop place next h x e =
    let both = cond_some (hop == 1) (Some (Sent place)) x e in
    sent_is place next (sym (ap (λ b. not b || is_sent_at place next) both.0) ∙ h) ∙ both.1

mapped_cell : (c at : ℕ) (o : Option ℕ) (event : Event) → option_map (λ cell. Arrive c cell at) o ≡ Some event → (cell : ℕ) × (o ≡ Some cell) × (Arrive c cell at ≡ event)
mapped_cell c at None event h = absurd (cc)
mapped_cell c at (Some cell) event h = (cell, refl, some_same h)

pub found : (c hop place : ℕ) (input : PortInput) (placed : List SourceEntry) (next : Option SourceEntry) (event : Event) → event_by c hop place input placed next ≡ Some event → IsFound c hop place input placed next event
found c hop place (RequestIn q) placed next event h =
    let floors = q.floor == floor_in placed q.seq in
    let asks = q.ask == ask_in placed q.seq in
    let sent = not (hop == 1) || is_sent_at place next in
    let both = cond_some (floors && asks && sent) (Some (Request c hop q.seq)) event h in
    let parts = and_both (floors && asks) sent both.0 in
    let rates = and_both floors asks parts.0 in
    subst (IsFound c hop place (RequestIn q) placed next) (some_same both.1) (record {
      conn = refl;
      hop_is = refl;
      brings = λ vc of_it. subst (λ w. input_told w placed (Request c hop q.seq) ≡ Some (RequestIn q)) (some_same of_it)
          (ap (λ (n : ℕ). Some (RequestIn (record { vc = q.vc; seq = q.seq; floor = n; ask = ask_in placed q.seq }))) (sym (eqb-true q.floor (floor_in placed q.seq) rates.0))
          ∙ ap (λ (n : ℕ). Some (RequestIn (record { vc = q.vc; seq = q.seq; floor = q.floor; ask = n }))) (sym (eqb-true q.ask (ask_in placed q.seq) rates.1)));
      beside = sent_beside hop place next parts.1;
    })
found c hop place (AnswerIn a) placed next event h =
    let s = a.terms.seq in
    let floors = a.terms.floor == floor_in placed s in
    let asks = a.terms.ask == ask_in placed s in
    let both = cond_some (floors && asks) (Some (Answer c hop s a.granted)) event h in
    let rates = and_both floors asks both.0 in
    subst (IsFound c hop place (AnswerIn a) placed next) (some_same both.1) (record {
      conn = refl;
      hop_is = refl;
      brings = λ vc of_it. subst (λ w. input_told w placed (Answer c hop s a.granted) ≡ Some (AnswerIn a)) (some_same of_it)
          (ap (λ (n : ℕ). Some (AnswerIn (record { terms = record { vc = a.terms.vc; seq = s; floor = n; ask = ask_in placed s }; granted = a.granted }))) (sym (eqb-true a.terms.floor (floor_in placed s) rates.0))
          ∙ ap (λ (n : ℕ). Some (AnswerIn (record { terms = record { vc = a.terms.vc; seq = s; floor = a.terms.floor; ask = n }; granted = a.granted }))) (sym (eqb-true a.terms.ask (ask_in placed s) rates.1)));
      beside = λ x e. absurd (cc);
    })
found c hop place (ArriveIn vc at) placed next event h =
    let both = cond_some (hop == 1) (option_map (λ cell. Arrive c cell at) (cell_arrived_at place next)) event h in
    let cell = mapped_cell c at (cell_arrived_at place next) event both.1 in
    subst (IsFound c hop place (ArriveIn vc at) placed next) cell.2 (record {
      conn = refl;
      hop_is = sym (eqb-true hop 1 both.0);
      brings = λ w of_it. ap (λ (u : Channel). Some (ArriveIn u at)) (sym (some_same of_it));
      beside = λ x e. arrived_is place cell.0 next cell.1 ∙ e;
    })
found c hop place (CapacityIn u) placed next event h = absurd (cc)

-- and there is no other
pub record IsOnly (c hop place : ℕ) (vc : Channel) (input : PortInput) (placed : List SourceEntry) (next : Option SourceEntry) (event : Event) : Type 0 where
  pub is : event_by c hop place input placed next ≡ Some event
  pub channel : channel_of input ≡ Some vc

or_sent : (hop place : ℕ) (next : Option SourceEntry) → ((x : SourceEntry) → (if hop == 1 then Some (Sent place) else None) ≡ Some x → next ≡ Some x) → (b : Bool) → (hop == 1) ≡ b → not b || is_sent_at place next ≡ true
or_sent hop place next beside true first = ap (is_sent_at place) (beside (Sent place) (cond-true _ _ _ first)) ∙ eq-eqb place place refl
or_sent hop place next beside false later = refl

pub only : (place c : ℕ) (vc : Channel) (input : PortInput) (placed : List SourceEntry) (next : Option SourceEntry) (event : Event) →
    conn_of event ≡ Some c → input_told vc placed event ≡ Some input → ((x : SourceEntry) → entry_beside place event ≡ Some x → next ≡ Some x) → IsOnly c (hop_visited event) place vc input placed next event
only place c vc input placed next (Request d hop seq) whose brings beside =
    subst (λ n. IsOnly n hop place vc input placed next (Request d hop seq)) (some_same whose)
    (subst (λ i. IsOnly d hop place vc i placed next (Request d hop seq)) (some_same brings) (record {
      is = cond-true _ _ _ (and_from _ _ (and_from _ _ (eq-eqb (floor_in placed seq) (floor_in placed seq) refl) (eq-eqb (ask_in placed seq) (ask_in placed seq) refl)) (or_sent hop place next beside (hop == 1) refl));
      channel = refl;
    }))
only place c vc input placed next (Answer d hop seq granted) whose brings beside =
    subst (λ n. IsOnly n hop place vc input placed next (Answer d hop seq granted)) (some_same whose)
    (subst (λ i. IsOnly d hop place vc i placed next (Answer d hop seq granted)) (some_same brings) (record {
      is = cond-true _ _ _ (and_from _ _ (eq-eqb (floor_in placed seq) (floor_in placed seq) refl) (eq-eqb (ask_in placed seq) (ask_in placed seq) refl));
      channel = refl;
    }))
only place c vc input placed next (Arrive d cell at) whose brings beside =
    subst (λ n. IsOnly n 1 place vc input placed next (Arrive d cell at)) (some_same whose)
    (subst (λ i. IsOnly d 1 place vc i placed next (Arrive d cell at)) (some_same brings) (record {
      is = ap (λ o. option_map (λ n. Arrive d n at) (cell_arrived_at place o)) (beside (ArrivedAt cell place) refl) ∙ ap (option_map (λ n. Arrive d n at)) (cond-true _ _ _ (eq-eqb place place refl));
      channel = refl;
    }))
only place c vc input placed next other whose brings beside = absurd (cc)
