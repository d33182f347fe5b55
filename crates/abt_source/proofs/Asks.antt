-- The source that facts give, after an ask whose request goes out.
use Rattle.std.proofs.Common.{◌≡◌, ℕ, ◌+◌, Bool, true, false, List, [], ◌∷◌, Option, None, Some, refl, sym, ap, ◌∙◌, subst}
use Rattle.std.specs.Prelude.{◌==◌, ◌++◌, min, if◌then◌else◌}
use Rattle.std.proofs.lemmas.Bool.{eq-eqb, cond-true, cond-false}
use Rattle.abt_cell.specs.Channel.{Channel}
use Rattle.abt_cell.specs.Message.{Terms}
use Rattle.abt_keep.specs.Record.{KeptRecord}
use Rattle.abt_facts.specs.declared.fact.Fact.{Fact}
use Rattle.abt_facts.specs.declared.fact.Fact.TheVariants.{Stored, Asked}
use Rattle.abt_facts.specs.Keeping.{need_by, writes_by, written_by}
use Rattle.abt_facts.specs.Requests.{floor_of, ask_of}
use Rattle.abt_facts.specs.Source.{SourceState, Down, Idle, Asking, open_ask, state_of, rate_of, kept_of, last_of, gap_of, need_of, writes, written_for}
use Rattle.abt_facts.proofs.Keeps.{writes_stored}
use Rattle.abt_source.specs.SourceView.{SourceView}
use Rattle.abt_source.specs.Calls.{asked_in, need_for, has_to_write, record_to_write, next_request, asking_source, kept_after}
use Rattle.abt_source.specs.SourceFacts.{StandsFor, view_of, waiting_in, request_of, stored_by}

-- the open request of the facts is the one that the source waits for
pub asked_is : (vc : Channel) (facts : List Fact) (state : SourceState) → asked_in (waiting_in vc facts state) ≡ open_ask facts state
asked_is vc facts Down = refl
asked_is vc facts Idle = refl
asked_is vc facts (Asking seq) = refl

-- so the need and the write are those of the facts
pub need_is : (vc : Channel) (facts : List Fact) (ask : ℕ) → need_for (view_of vc facts) ask ≡ need_of facts ask
need_is vc facts ask = ap (λ r. need_by (gap_of facts) (rate_of facts) r ask) (asked_is vc facts (state_of facts))

pub writes_is : (vc : Channel) (facts : List Fact) (ask : ℕ) → has_to_write (view_of vc facts) ask ≡ writes facts ask
writes_is vc facts ask = ap (λ n. writes_by (kept_of facts) (last_of facts) n) (need_is vc facts ask)

pub written_is : (vc : Channel) (facts : List Fact) (ask : ℕ) → record_to_write (view_of vc facts) ask ≡ written_for facts ask
written_is vc facts ask = ap (λ n. written_by (last_of facts) n) (need_is vc facts ask)

abbrev goes : (vc : Channel) (facts wrote : List Fact) (ask mark : ℕ) (kept : KeptRecord) → Type 0
goes vc facts wrote ask mark kept =
    let view = view_of vc facts in
    let request = next_request view ask in
    StandsFor (Asked request.seq request.floor ask mark ∷ (wrote ++ facts)) (Asking request.seq)
    (record view { rate = request.floor; last = request.seq; kept = kept; newest = Some request })

request_is :
    (vc : Channel) (facts : List Fact) (seq floor ask mark : ℕ) →
    record { vc = vc; seq = seq; floor = floor; ask = ask } ≡ request_of vc (Asked seq floor ask mark ∷ facts) seq
request_is vc facts seq floor ask mark =
    let floor_is : floor ≡ floor_of (Asked seq floor ask mark ∷ facts) seq = sym (cond-true _ _ _ (eq-eqb seq seq refl)) in
    let ask_is : ask ≡ ask_of (Asked seq floor ask mark ∷ facts) seq = sym (cond-true _ _ _ (eq-eqb seq seq refl)) in
    cc

goes_by : (vc : Channel) (facts : List Fact) (ask mark : ℕ) (written : KeptRecord) (b : Bool) → writes facts ask ≡ b →
    goes vc facts (if b then Stored written ∷ [] else []) ask mark (if b then written else kept_of facts)
goes_by vc facts ask mark written true wrote =
    let seq = last_of facts + 1 in
    let floor = min (rate_of facts) ask in
    let known : written ≡ kept_of (Asked seq floor ask mark ∷ Stored written ∷ facts) =
    sym (cond-true _ _ _ (writes_stored written facts ask ∙ wrote)) in
    let newest = ap Some (request_is vc (Stored written ∷ facts) seq floor ask mark) in
    record { state_is = refl; view_is = cc }
goes_by vc facts ask mark written false wrote =
    let seq = last_of facts + 1 in
    let floor = min (rate_of facts) ask in
    let known : kept_of facts ≡ kept_of (Asked seq floor ask mark ∷ facts) = sym (cond-false _ _ _ wrote) in
    let newest = ap Some (request_is vc facts seq floor ask mark) in
    record { state_is = refl; view_is = cc }

-- the source of the facts with those of the ask
asked_view : (vc : Channel) (facts : List Fact) (ask mark : ℕ) →
    goes vc facts (stored_by (view_of vc facts) ask) ask mark (kept_after (view_of vc facts) ask)
asked_view vc facts ask mark =
    goes_by vc facts ask mark (record_to_write (view_of vc facts) ask) (has_to_write (view_of vc facts) ask) (sym (writes_is vc facts ask))

pub asked_stands :
    (facts : List Fact) (state : SourceState) (s : SourceView) (ask mark : ℕ) → StandsFor facts state s →
    StandsFor (Asked (s.last + 1) (min s.rate ask) ask mark ∷ (stored_by s ask ++ facts)) (Asking (s.last + 1)) (asking_source s (next_request s ask))
asked_stands facts state s ask mark stands =
    subst (λ (v : SourceView). StandsFor (Asked (v.last + 1) (min v.rate ask) ask mark ∷ (stored_by v ask ++ facts)) (Asking (v.last + 1)) (asking_source v (next_request v ask)))
    (sym stands.view_is) (asked_view s.vc facts ask mark)

-- the same, of a source whose parts are known by equations
pub asked_stands_by :
    (facts : List Fact) (state : SourceState) (s : SourceView) (ask mark : ℕ) (request : Terms) (kept : KeptRecord) (result : SourceView) →
    request ≡ next_request s ask → kept ≡ kept_after s ask → result ≡ record s { rate = request.floor; last = request.seq; kept = kept; newest = Some request } →
    StandsFor facts state s →
    StandsFor (Asked request.seq request.floor request.ask mark ∷ (stored_by s ask ++ facts)) (Asking request.seq) result
asked_stands_by facts state s ask mark request kept result request_is kept_is result_is stands =
    rw result_is (rw kept_is (subst
    (λ (r : Terms). StandsFor (Asked r.seq r.floor r.ask mark ∷ (stored_by s ask ++ facts)) (Asking r.seq) (record s { rate = r.floor; last = r.seq; kept = kept_after s ask; newest = Some r }))
    (sym request_is) (asked_stands facts state s ask mark stands)))

-- what an answer tells of whether an ask writes
none_given : (b : Bool) (written : KeptRecord) (answer : Option KeptRecord) → answer ≡ (if b then Some written else None) → answer ≡ None → b ≡ false
none_given true written answer is none = absurd (cc)
none_given false written answer is none = refl

some_given : (b : Bool) (written given : KeptRecord) (answer : Option KeptRecord) → answer ≡ (if b then Some written else None) → answer ≡ Some given → (b ≡ true) × (given ≡ written)
some_given true written given answer is some = (refl, let e : Some given ≡ Some written = sym some ∙ is in cc)
some_given false written given answer is some = absurd (cc)

pub kept_still :
    (s : SourceView) (ask : ℕ) (kept : KeptRecord) (answer : Option KeptRecord) →
    answer ≡ (if has_to_write s ask then Some (record_to_write s ask) else None) → answer ≡ None → kept ≡ s.kept → kept ≡ kept_after s ask
kept_still s ask kept answer is none same =
    same ∙ sym (cond-false _ _ _ (none_given (has_to_write s ask) (record_to_write s ask) answer is none))

pub kept_newly :
    (s : SourceView) (ask : ℕ) (kept : KeptRecord) (answer : Option KeptRecord) →
    answer ≡ (if has_to_write s ask then Some (record_to_write s ask) else None) → answer ≡ Some kept → kept ≡ kept_after s ask
kept_newly s ask kept answer is some =
    let given = some_given (has_to_write s ask) (record_to_write s ask) kept answer is some in
    given.1 ∙ sym (cond-true _ _ _ given.0)
