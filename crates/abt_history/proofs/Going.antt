-- A source goes to its first port.
use Rattle.std.proofs.Common.{◌≡◌, ℕ, ◌+◌, true, false, List, [], ◌∷◌, ◌++◌, length, reverse, map, refl, ap, sym, subst, ◌∙◌, arith}
use Rattle.std.specs.Prelude.{◌==◌, ◌||◌}
use Rattle.std.proofs.lemmas.Bool.{cond-true, eq-eqb}
use mathlib.Core.List.{IsPrefix}
use Rattle.abt_net.specs.Topology.{Topology}
use Rattle.abt_history.specs.Sites.{IsHome}
use Rattle.abt_history.specs.declared.deed.Deed.{Deed}
use Rattle.abt_history.specs.declared.deed.Deed.TheVariants.{Happens, Goes, EndsPort, EndsSource, Comes}
use Rattle.abt_history.specs.Histories.{happened, turns_of_source, out_after, is_out, has_ended}
use Rattle.abt_history.specs.Legal.{IsLegal, IsStep, MayNote, IsNoted, with_turns}
use Rattle.abt_history.proofs.Fronts.{prefix_trans}
use Rattle.abt_history.proofs.Growing.{happened-append, turns-append, turned, with_turned}
use Rattle.abt_history.proofs.Turning.{out-append, IsStill, same_still, still_trans, away_still}
use Rattle.abt_history.proofs.Own.{home_open}
use Rattle.abt_history.proofs.Marks.{goes_step}
use Rattle.abt_history.proofs.Did.{home_at, home_turned}

-- a source that has gone to its first port
pub record HasLeft (net : Topology) (c : ℕ) (own seen new : List Deed) : Type 0 where
  pub mine : IsPrefix own new
  pub theirs : IsPrefix seen new
  pub legal : IsLegal net new
  pub still : IsStill net c own new
  pub out : is_out c new ≡ true
  pub turns : turns_of_source c new ≡ turns_of_source c own + 1
  pub unended : has_ended c new ≡ false

ended_goes : (c d : ℕ) (log : List Deed) → has_ended c (log ++ Goes d ∷ []) ≡ has_ended c log
ended_goes c d [] = refl
ended_goes c d (Happens other ∷ log) = ended_goes c d log
ended_goes c d (Goes e ∷ log) = ended_goes c d log
ended_goes c d (EndsPort p ∷ log) = ended_goes c d log
ended_goes c d (EndsSource e ∷ log) = ap (λ b. e == c || b) (ended_goes c d log)
ended_goes c d (Comes p input ∷ log) = ended_goes c d log

pub may_go : (net : Topology) (c turns key : ℕ) (own seen : List Deed) → key ≡ length net.capacities + c → IsHome net c turns own → MayNote net own seen key turns (Goes c)
may_go net c turns key own seen key_is home log pre theirs legal count =
    let stays = home_at net c turns key own log key_is pre legal home count in
    record { turns = []; all = tt; deed = Goes c; does = refl; step = subst (λ k. IsStep net k log (with_turns [] (Goes c))) (sym key_is) (goes_step net c own log stays) }

pub has_left : (net : Topology) (c turns key : ℕ) (own seen new : List Deed) → key ≡ length net.capacities + c → IsHome net c turns own → IsNoted net own seen new key turns (Goes c) → HasLeft net c own seen new
has_left net c turns key own seen new key_is home noted =
    let before = noted.log in
    let these = noted.next.turns in
    let stays = home_turned net c own before these (home_at net c turns key own before key_is noted.mine noted.legal home noted.count) noted.next.all in
    let log = turned before these in
    let new_is : new ≡ log ++ Goes c ∷ [] = noted.new_is ∙ ap (λ (d : Deed). before ++ with_turns these d) noted.next.does ∙ with_turned before these (Goes c) in
    let away = away_still net c own log stays.pre stays.legal stays.out stays.turns in
    let last : IsPrefix log new = (Goes c ∷ [], sym new_is) in
    let count = ap (turns_of_source c) new_is ∙ turns-append c log (Goes c ∷ []) in
    let one : turns_of_source c (Goes c ∷ []) ≡ 1 = cond-true _ _ _ (eq-eqb c c refl) in
    let had = stays.turns in
    record {
      mine = prefix_trans own log new stays.pre last;
      theirs = prefix_trans seen log new (prefix_trans seen before log noted.theirs (map Happens (reverse these), refl)) last;
      legal = subst (IsLegal net) (sym noted.new_is) noted.next.step.legal;
      still = still_trans net c own log new away.0 (same_still net c log new (ap happened new_is ∙ happened-append log (Goes c ∷ [])));
      out = ap (is_out c) new_is ∙ out-append c false log (Goes c ∷ []) ∙ ap (λ b. out_after c b (Goes c ∷ [])) away.1 ∙ ap (λ b. b || false) (eq-eqb c c refl);
      turns = omega (arith, count, one, had);
      unended = ap (has_ended c) new_is ∙ ended_goes c c log ∙ home_open net c own log stays;
    }
