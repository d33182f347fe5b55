-- A source that isn't at its first port stays away until it has a turn.
use Rattle.std.proofs.Common.{◌≡◌, ℕ, ◌+◌, Bool, true, false, List, [], ◌∷◌, ◌++◌, length, refl, ap, sym, subst, ◌∙◌, arith, inl, inr, Option, None, Some}
use Rattle.std.specs.Prelude.{◌==◌, ◌&&◌, ◌||◌, ◌-◌, ◌≤◌, not, slice_index, if◌then◌else◌}
use Rattle.std.proofs.lemmas.Bool.{false≢true, cond-false, cases_Bool, eqb-true}
use Rattle.std.proofs.lemmas.List.{append-nil, append_assoc, length-append}
use mathlib.Core.List.{IsPrefix}
use Rattle.abt_net.specs.Topology.{Topology, conn_at}
use Rattle.abt_facts.specs.Cells.{last_arrival_of}
use Rattle.abt_net.specs.declared.conn.Conn.{Conn}
use Rattle.abt_model.specs.declared.event.Event.{Event}
use Rattle.abt_model.specs.declared.event.Event.TheVariants.{Arrive, Request}
use Rattle.abt_model.specs.Outcomes.{conn_of}
use Rattle.abt_model.specs.Past.{facts_of}
use Rattle.abt_weave.specs.Projections.{Visit, past_of, visit, steps_on, entries_on}
use Rattle.abt_weave.specs.Candidates.{is_own_of, is_beside}
use Rattle.abt_model.specs.PortTable.{hop_visited}
use Rattle.abt_weave.proofs.Candidates.{and_both}
use Rattle.abt_weave.proofs.Growth.{steps_one}
use Rattle.abt_weave.proofs.LineFacts.{line, last_arrival_of-line}
use Rattle.abt_weave.proofs.PortEvents.{visit_is, some_same}
use Rattle.abt_history.specs.declared.deed.Deed.{Deed}
use Rattle.abt_history.specs.declared.deed.Deed.TheVariants.{Happens, Goes, EndsPort, EndsSource, Comes}
use Rattle.abt_history.specs.Histories.{happened, is_of_source, turns_of_source, is_beside_of, out_after, is_out, has_ended}
use Rattle.abt_history.specs.Legal.{May, IsLegal, IsLegalFrom}
use Rattle.abt_history.proofs.Growing.{happened-append, turns-append, steps_grow}
use Rattle.abt_history.proofs.Quiet.{quiet}

pub out-append : (c : ℕ) (out : Bool) (xs ys : List Deed) → out_after c out (xs ++ ys) ≡ out_after c (out_after c out xs) ys
out-append c out [] ys = refl
out-append c out (Goes d ∷ xs) ys = out-append c (d == c || out) xs ys
out-append c out (Happens event ∷ xs) ys = out-append c (out && not (is_beside_of c event (conn_of event))) xs ys
out-append c out (EndsPort p ∷ xs) ys = out-append c out xs ys
out-append c out (EndsSource d ∷ xs) ys = out-append c out xs ys
out-append c out (Comes p input ∷ xs) ys = out-append c out xs ys

pub legal_rest : (net : Topology) (before xs ys : List Deed) → IsLegalFrom net before (xs ++ ys) → IsLegalFrom net (before ++ xs) ys
legal_rest net before [] ys legal = subst (λ (w : List Deed). IsLegalFrom net w ys) (sym (append-nil before)) legal
legal_rest net before (x ∷ xs) ys legal = subst (λ (w : List Deed). IsLegalFrom net w ys) (append_assoc before (x ∷ []) xs) (legal_rest net (before ++ x ∷ []) xs ys legal.1)

-- a source that isn't at its first port has done nothing more, and nothing has come there for it
pub record IsAway (net : Topology) (c : ℕ) (seen log : List Deed) : Type 0 where
  pub entries : entries_on net c (happened log) ≡ entries_on net c (happened seen)
  pub arrival : last_arrival_of (facts_of c (past_of net (happened log))) ≡ last_arrival_of (facts_of c (past_of net (happened seen)))
  pub out : is_out c log ≡ false

-- a source at home, in a history that goes on from what it has seen and in which it has had no turn
pub record StaysHome (net : Topology) (c : ℕ) (seen log : List Deed) : Type 0 where
  pub pre : IsPrefix seen log
  pub legal : IsLegal net log
  pub out : is_out c seen ≡ false
  pub unended : has_ended c seen ≡ false
  pub turns : turns_of_source c log ≡ turns_of_source c seen

-- a source that has done nothing more, and for which nothing more came to its first port
pub record IsStill (net : Topology) (c : ℕ) (seen log : List Deed) : Type 0 where
  pub entries : entries_on net c (happened log) ≡ entries_on net c (happened seen)
  pub still : line (facts_of c (past_of net (happened log))) ≡ line (facts_of c (past_of net (happened seen)))

pub same_still : (net : Topology) (c : ℕ) (seen log : List Deed) → happened log ≡ happened seen → IsStill net c seen log
same_still net c seen log same = record { entries = ap (entries_on net c) same; still = ap (λ (l : List Event). line (facts_of c (past_of net l))) same }

pub still_trans : (net : Topology) (c : ℕ) (seen log more : List Deed) → IsStill net c seen log → IsStill net c log more → IsStill net c seen more
still_trans net c seen log more one two = record { entries = two.entries ∙ one.entries; still = two.still ∙ one.still }

-- what is neither the source's own nor beside it
deed_still : (net : Topology) (c : ℕ) (before : List Deed) (deed : Deed) → is_of_source c deed ≡ false → ((event : Event) → deed ≡ Happens event → is_beside_of c event (conn_of event) ≡ false) → IsStill net c before (before ++ deed ∷ [])
deed_still net c before (Happens event) nay off =
    let now : happened (before ++ Happens event ∷ []) ≡ event ∷ happened before = happened-append before (Happens event ∷ []) in
    let its = quiet net c (happened before) event nay (off event refl) in
    record { entries = ap (entries_on net c) now ∙ its.entries; still = ap (λ (l : List Event). line (facts_of c (past_of net l))) now ∙ its.still }
deed_still net c before (Goes d) nay off = same_still net c before (before ++ Goes d ∷ []) (happened-append before (Goes d ∷ []))
deed_still net c before (EndsPort p) nay off = same_still net c before (before ++ EndsPort p ∷ []) (happened-append before (EndsPort p ∷ []))
deed_still net c before (EndsSource d) nay off = same_still net c before (before ++ EndsSource d ∷ []) (happened-append before (EndsSource d ∷ []))
deed_still net c before (Comes p input) nay off = same_still net c before (before ++ Comes p input ∷ []) (happened-append before (Comes p input ∷ []))

-- a deed of another
not_of : (b : Bool) (n : ℕ) → (if b then n + 1 else n) ≡ 0 → (b ≡ false) × (n ≡ 0)
not_of true n e = absurd (omega (arith, e))
not_of false n e = (refl, e)

still_in : (c : ℕ) (d : Deed) → is_of_source c d ≡ false → out_after c false (d ∷ []) ≡ false
still_in c (Happens event) nay = refl
still_in c (Goes d) nay = ap (λ b. b || false) nay
still_in c (EndsPort p) nay = refl
still_in c (EndsSource d) nay = refl
still_in c (Comes p input) nay = refl

happens_same : (a b : Event) → Happens a ≡ Happens b → b ≡ a
happens_same a b e = cc

stays_away : (net : Topology) (c : ℕ) (before rest : List Deed) → IsLegalFrom net before rest → is_out c before ≡ false → turns_of_source c rest ≡ 0 → IsStill net c before (before ++ rest) × (is_out c (before ++ rest) ≡ false)
stays_away net c before [] legal out none =
    let same = append-nil before in
    (same_still net c before (before ++ []) (ap happened same), ap (is_out c) same ∙ out)
stays_away net c before (deed ∷ rest) legal out none =
    let others = not_of (is_of_source c deed) (turns_of_source c rest) none in
    let next = before ++ deed ∷ [] in
    let out' : is_out c next ≡ false = out-append c false before (deed ∷ []) ∙ ap (λ b. out_after c b (deed ∷ [])) out ∙ still_in c deed others.0 in
    let more = stays_away net c next rest legal.1 out' others.1 in
    let all : next ++ rest ≡ before ++ deed ∷ rest = append_assoc before (deed ∷ []) rest in
    let one = deed_still net c before deed others.0 (λ event is. not_beside event (subst (May net before) is legal.0)) in
    subst (λ (w : List Deed). IsStill net c before w × (is_out c w ≡ false)) all (still_trans net c before next (next ++ rest) one more.0, more.1)
  where
    not_beside : (event : Event) → May net before (Happens event) → is_beside_of c event (conn_of event) ≡ false
    not_beside event may = elim (cases_Bool (is_beside_of c event (conn_of event))) [
      | inr nay ↦ nay
      | inl aye ↦ (let there = may.beside c aye in absurd (false≢true (sym out ∙ there.0)))
    ]

pub away_still : (net : Topology) (c : ℕ) (seen log : List Deed) → IsPrefix seen log → IsLegal net log → is_out c seen ≡ false → turns_of_source c log ≡ turns_of_source c seen → IsStill net c seen log × (is_out c log ≡ false)
away_still net c seen log pre legal out same =
    let count : turns_of_source c log ≡ turns_of_source c seen + turns_of_source c pre.0 = ap (turns_of_source c) (sym pre.1) ∙ turns-append c seen pre.0 in
    let none : turns_of_source c pre.0 ≡ 0 = omega (arith, count, same) in
    subst (λ (w : List Deed). IsStill net c seen w × (is_out c w ≡ false)) pre.1 (stays_away net c seen pre.0 (legal_rest net [] seen pre.0 (subst (IsLegal net) (sym pre.1) legal)) out none)

pub away_as_seen : (net : Topology) (c : ℕ) (seen log : List Deed) → IsPrefix seen log → IsLegal net log → is_out c seen ≡ false → turns_of_source c log ≡ turns_of_source c seen → IsAway net c seen log
away_as_seen net c seen log pre legal out same =
    let its = away_still net c seen log pre legal out same in
    record {
      entries = its.0.entries;
      arrival = sym (last_arrival_of-line (facts_of c (past_of net (happened log)))) ∙ ap last_arrival_of its.0.still ∙ last_arrival_of-line (facts_of c (past_of net (happened seen)));
      out = its.1;
    }

-- A source that is at its first port stays there, and has done nothing more, while that port has had no more steps.
beside_visit : (net : Topology) (c : ℕ) (conn : Conn) (earlier : List Event) (event : Event) (v : Visit) → conn_at net c ≡ Some conn → is_beside_of c event (conn_of event) ≡ true → visit net (past_of net earlier) event ≡ Some v → v.port ≡ slice_index conn.path 0
beside_visit net c conn earlier event v known beside is =
    let its = whose_beside event beside in
    let parts = visit_is net (past_of net earlier) event v c its.0 is in
    let same : parts.conn ≡ conn = some_same (sym parts.known ∙ ap (conn_at net) (some_same (sym parts.whose ∙ its.0)) ∙ known) in
    sym parts.port ∙ ap (λ (k : Conn). slice_index k.path (hop_visited event - 1)) same ∙ ap (λ (n : ℕ). slice_index conn.path (n - 1)) its.1
  where
    by : (event : Event) (o : Option ℕ) → conn_of event ≡ o → is_beside_of c event o ≡ true → (conn_of event ≡ Some c) × (is_beside event ≡ true)
    by event None whose h = absurd (false≢true h)
    by event (Some d) whose h = (let both = and_both (is_beside event) (d == c) h in (whose ∙ ap Some (eqb-true d c both.1), both.0))

    first : (event : Event) → is_beside event ≡ true → hop_visited event ≡ 1
    first (Arrive d cell at) h = refl
    first (Request d hop seq) h = eqb-true hop 1 h
    first other h = absurd (false≢true h)

    whose_beside : (event : Event) → is_beside_of c event (conn_of event) ≡ true → (conn_of event ≡ Some c) × (hop_visited event ≡ 1)
    whose_beside event h = (let both = by event (conn_of event) refl h in (both.0, first event both.1))

steps_most : (net : Topology) (p : ℕ) (before rest : List Deed) → length (steps_on net p (happened before)) ≤ length (steps_on net p (happened (before ++ rest)))
steps_most net p before rest =
    let grown = steps_grow net (happened rest) (happened before) p in
    let now = ap length (ap (steps_on net p) (happened-append before rest) ∙ grown.1) in
    let sum = length-append (steps_on net p (happened before)) grown.0 in
    omega (arith, now, sum)

stays_there : (net : Topology) (c : ℕ) (conn : Conn) → conn_at net c ≡ Some conn → (before rest : List Deed) → IsLegalFrom net before rest → is_out c before ≡ true →
    length (steps_on net (slice_index conn.path 0) (happened (before ++ rest))) ≡ length (steps_on net (slice_index conn.path 0) (happened before)) → IsStill net c before (before ++ rest) × (is_out c (before ++ rest) ≡ true) × (turns_of_source c rest ≡ 0)
stays_there net c conn known before [] legal out none =
    let same = append-nil before in
    (same_still net c before (before ++ []) (ap happened same), ap (is_out c) same ∙ out, refl)
stays_there net c conn known before (deed ∷ rest) legal out none =
    let p = slice_index conn.path 0 in
    let next = before ++ deed ∷ [] in
    let all : next ++ rest ≡ before ++ deed ∷ rest = append_assoc before (deed ∷ []) rest in
    let most = steps_most net p next rest in
    let more_than = steps_most net p before (deed ∷ []) in
    let whole = ap (λ (l : List Deed). length (steps_on net p (happened l))) all in
    let level : length (steps_on net p (happened next)) ≡ length (steps_on net p (happened before)) = omega (arith, most, more_than, whole, none) in
    let rest_level : length (steps_on net p (happened (next ++ rest))) ≡ length (steps_on net p (happened next)) = omega (arith, whole, none, level) in
    let nay = not_own deed legal.0 in
    let off = not_beside deed legal.0 level in
    let out' : is_out c next ≡ true = out-append c false before (deed ∷ []) ∙ ap (λ b. out_after c b (deed ∷ [])) out ∙ still_out deed off in
    let more = stays_there net c conn known next rest legal.1 out' rest_level in
    let one = deed_still net c before deed nay off in
    let both = subst (λ (w : List Deed). IsStill net c before w × (is_out c w ≡ true)) all (still_trans net c before next (next ++ rest) one more.0, more.1) in
    (both.0, both.1, cond-false _ _ _ nay ∙ more.2)
  where
    not_own : (d : Deed) → May net before d → is_of_source c d ≡ false
    not_own (Happens event) may = elim (cases_Bool (is_own_of c event)) [
      | inr nay ↦ nay
      | inl aye ↦ (let home = may.own c aye in absurd (false≢true (sym home.0 ∙ out)))
    ]
    not_own (Goes d) may = elim (cases_Bool (d == c)) [
      | inr nay ↦ nay
      | inl aye ↦ (let home = subst (λ n. is_out n before ≡ false) (eqb-true d c aye) may.0 in absurd (false≢true (sym home ∙ out)))
    ]
    not_own (EndsPort p) may = refl
    not_own (Comes p input) may = refl
    not_own (EndsSource d) may = elim (cases_Bool (d == c)) [
      | inr nay ↦ nay
      | inl aye ↦ (let home = subst (λ n. is_out n before ≡ false) (eqb-true d c aye) may.0 in absurd (false≢true (sym home ∙ out)))
    ]

    not_beside : (d : Deed) → May net before d → length (steps_on net (slice_index conn.path 0) (happened (before ++ d ∷ []))) ≡ length (steps_on net (slice_index conn.path 0) (happened before)) →
        (event : Event) → d ≡ Happens event → is_beside_of c event (conn_of event) ≡ false
    not_beside d may level event is = elim (cases_Bool (is_beside_of c event (conn_of event))) [
      | inr nay ↦ nay
      | inl aye ↦ (
          let its = (subst (May net before) is may).beside c aye in
          let v = its.1.0 in
          let here = beside_visit net c conn (happened before) event v known aye its.1.1 in
          let one = steps_one net (happened before) event (slice_index conn.path 0) v its.1.1 here in
          let now : happened (before ++ d ∷ []) ≡ event ∷ happened before = ap (λ (x : Deed). happened (before ++ x ∷ [])) is ∙ happened-append before (Happens event ∷ []) in
          let up = ap (λ (l : List Event). length (steps_on net (slice_index conn.path 0) l)) now in
          absurd (omega (arith, up, one, level)))
    ]

    still_out : (d : Deed) → ((event : Event) → d ≡ Happens event → is_beside_of c event (conn_of event) ≡ false) → out_after c true (d ∷ []) ≡ true
    still_out (Happens event) off = ap (λ b. true && not b) (off event refl)
    still_out (Goes d) off = or_true (d == c)
      where
        or_true : (b : Bool) → (b || true) ≡ true
        or_true true = refl
        or_true false = refl
    still_out (EndsPort p) off = refl
    still_out (EndsSource d) off = refl
    still_out (Comes p input) off = refl

pub there_still : (net : Topology) (c : ℕ) (conn : Conn) → conn_at net c ≡ Some conn → (seen log : List Deed) → (pre : IsPrefix seen log) → IsLegal net log → is_out c seen ≡ true →
    steps_on net (slice_index conn.path 0) (happened log) ≡ steps_on net (slice_index conn.path 0) (happened seen) → IsStill net c seen log × (is_out c log ≡ true) × (turns_of_source c pre.0 ≡ 0)
there_still net c conn known seen log pre legal out same =
    let p = slice_index conn.path 0 in
    let its = stays_there net c conn known seen pre.0 (legal_rest net [] seen pre.0 (subst (IsLegal net) (sym pre.1) legal)) out
    (ap (λ (l : List Deed). length (steps_on net p (happened l))) pre.1 ∙ ap length same) in
    let both = subst (λ (w : List Deed). IsStill net c seen w × (is_out c w ≡ true)) pre.1 (its.0, its.1) in
    (both.0, both.1, its.2)
