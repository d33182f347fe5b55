-- What a source brings to its first port itself may come there next, as long as the source is there and the port has had no more steps.
use Rattle.std.proofs.Common.{◌≡◌, ℕ, ◌+◌, ◌<◌, Bool, true, false, List, [], ◌∷◌, ◌++◌, length, refl, ap, sym, subst, ◌∙◌, arith, Some}
use Rattle.std.specs.Prelude.{◌==◌, ◌&&◌, slice_index, if◌then◌else◌}
use Rattle.std.proofs.lemmas.Bool.{false≢true, eqb-true}
use mathlib.Core.List.{IsPrefix}
use Rattle.abt_net.specs.declared.conn.Conn.{Conn}
use Rattle.abt_net.specs.Topology.{Topology, conn_at}
use Rattle.abt_model.specs.declared.event.Event.{Event}
use Rattle.abt_model.specs.Events.{AsksRate}
use Rattle.abt_model.specs.Outcomes.{conn_of}
use Rattle.abt_weave.specs.Projections.{Visit, past_of, visit, steps_on}
use Rattle.abt_weave.specs.Candidates.{is_beside}
use Rattle.abt_weave.proofs.PortEvents.{some_same}
use Rattle.abt_history.specs.declared.deed.Deed.{Deed}
use Rattle.abt_history.specs.declared.deed.Deed.TheVariants.{Happens}
use Rattle.abt_history.specs.Histories.{happened, ends_of_port, count_of, is_beside_of, is_out, turns_of_source, has_ended}
use Rattle.abt_history.specs.Legal.{MayHappen, IsLegal, IsStep, with_turns}
use Rattle.abt_history.proofs.Growing.{legal_more, as_seen, counts_step}
use Rattle.abt_history.proofs.Growing.{turns-append}
use Rattle.abt_history.proofs.Own.{ended_more}
use Rattle.abt_history.proofs.Coming.{far_own}
use Rattle.abt_history.proofs.Turning.{IsStill, there_still}

-- what is known of a source and its first port
pub record AreMet (net : Topology) (c : ℕ) (conn : Conn) (seen log : List Deed) : Type 0 where
  pub known : conn_at net c ≡ Some conn
  pub low : slice_index conn.path 0 < length net.capacities
  pub pre : IsPrefix seen log
  pub legal : IsLegal net log
  pub out : is_out c seen ≡ true
  pub unended : ends_of_port (slice_index conn.path 0) seen ≡ 0
  pub count : count_of net (slice_index conn.path 0) log ≡ count_of net (slice_index conn.path 0) seen

-- so the source is there, and nothing has changed for it
pub record IsMet (net : Topology) (c : ℕ) (conn : Conn) (seen log : List Deed) : Type 0 where
  pub steps : steps_on net (slice_index conn.path 0) (happened log) ≡ steps_on net (slice_index conn.path 0) (happened seen)
  pub still : IsStill net c seen log
  pub out : is_out c log ≡ true
  pub unended : ends_of_port (slice_index conn.path 0) log ≡ 0
  pub turns : turns_of_source c log ≡ turns_of_source c seen
  pub ended : has_ended c log ≡ has_ended c seen

pub met : (net : Topology) (c : ℕ) (conn : Conn) (seen log : List Deed) → AreMet net c conn seen log → IsMet net c conn seen log
met net c conn seen log are =
    let same = as_seen net (slice_index conn.path 0) seen log are.low are.pre are.count in
    let its = there_still net c conn are.known seen log are.pre are.legal are.out same.steps in
    let count = ap (turns_of_source c) (sym are.pre.1) ∙ turns-append c seen are.pre.0 in
    let none = its.2 in
    record {
      steps = same.steps;
      still = its.0;
      out = its.1;
      unended = same.unended ∙ are.unended;
      turns = omega (arith, count, none);
      ended = ap (has_ended c) (sym are.pre.1) ∙ ended_more c seen are.pre.0 none;
    }

its_conn : (c : ℕ) (event : Event) → conn_of event ≡ Some c → (d : ℕ) → is_beside_of d event (conn_of event) ≡ true → d ≡ c
its_conn c event whose d h = by (sym (ap (is_beside_of d event) whose) ∙ h)
  where
    by : (is_beside event && c == d) ≡ true → d ≡ c
    by g = both (is_beside event) (c == d) g refl
      where
        both : (a b : Bool) → (a && b) ≡ true → (c == d) ≡ b → d ≡ c
        both true true e is = sym (eqb-true c d is)
        both true false e is = absurd (false≢true e)
        both false b e is = absurd (false≢true e)

-- such an event may come next
pub beside_step : (net : Topology) (c : ℕ) (conn : Conn) (seen log : List Deed) → AreMet net c conn seen log → (event : Event) (v : Visit) → AsksRate event → conn_of event ≡ Some c → visit net (past_of net (happened log)) event ≡ Some v →
    v.port ≡ slice_index conn.path 0 → IsStep net (slice_index conn.path 0) log (with_turns [] (Happens event))
beside_step net c conn seen log are event v asks whose is here =
    let now = met net c conn seen log are in
    let far = far_own net (happened log) event v is in
    let may : MayHappen net log event = record {
      asks = asks;
      own = λ d mine. absurd (false≢true (sym (far d) ∙ mine));
      beside = λ d beside. (subst (λ n. is_out n log ≡ true) (sym (its_conn c event whose d beside)) now.out, (v, is));
      unended = λ w also. (let port : slice_index conn.path 0 ≡ w.port = sym here ∙ ap (λ (u : Visit). u.port) (some_same (sym is ∙ also)) in subst (λ p. ends_of_port p log ≡ 0) port now.unended);
    } in
    record {
      legal = legal_more net [] log (Happens event) are.legal may;
      counts = λ k. subst (λ p. count_of net k (log ++ Happens event ∷ []) ≡ (if k == p then count_of net k log + 1 else count_of net k log)) here
          (counts_step net log [] event v tt is (subst (λ p. p < length net.capacities) (sym here) are.low) far k);
    }
