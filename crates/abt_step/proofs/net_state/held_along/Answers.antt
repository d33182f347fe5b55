use Rattle.std.proofs.Common.{◌≡◌, ℕ, ◌+◌, suc, ◌<◌, ◌≤◌, ◌++◌, [], ◌∷◌, List, length, map, take, subst, sym, ap, ◌∙◌, arith}
use Rattle.std.specs.List.{enumerate_from}
use Rattle.std.specs.Prelude.{unwrap_or}
use Rattle.abt_facts.specs.Hop.{held_of}
use Rattle.abt_model.specs.Past.{facts_of}
use Rattle.abt_model.specs.Run.{facts_after}
use Rattle.abt_step.proofs.Numbered.{next_from, all_from}
use Rattle.abt_step.proofs.Read.{hop_read}
use Rattle.abt_step.proofs.net_state.held_along.Goals as goal

pub loop-before-preserved : goal.loop-before-preserved
loop-before-preserved c = λ net events stands known.
    let past = facts_after net events in
    let place = c.args.place in
    let conn = c.args.conn.now in
    let path = conn.path in
    let i = c.loop-before.before in
    let f = λ (numbered : ℕ × ℕ). held_of (facts_of place past) numbered.0 in
    let low : i < length path = subst (λ (l : List ℕ). i < length l) c.as_slice-path.ensures c.loop-before-test.true in
    let one : i + 1 ≡ suc i = omega arith in
    let hop : i + 1 ≡ 1 + i = omega arith in
    let read : c.unwrap_or.result ≡ held_of (facts_of place past) (1 + i) =
    c.unwrap_or.ensures ∙ ap (λ o. unwrap_or o 0) (c.held.ensures net events stands)
    ∙ hop_read net past place conn (i + 1) known (omega arith) (omega (arith, low)) ∙ ap (held_of (facts_of place past)) hop in
    c.in_ok-push.ensures.ok ∙ ap (λ (l : List ℕ). l ++ c.unwrap_or.result ∷ []) (c.loop-before.invariant net events stands known)
    ∙ sym (ap (λ n. map f (enumerate_from 1 (take n path))) one ∙ next_from f 1 path i c.unwrap_or.result low (λ x at. read))

pub returns : goal.returns
returns c = λ net events stands known.
    let past = facts_after net events in
    let place = c.args.place in
    let path = c.args.conn.now.path in
    let i = c.loop-before.before in
    let over : length path ≤ i = subst (λ (l : List ℕ). length l ≤ i) c.as_slice-path.ensures c.loop-before-test.false in
    c.loop-before.invariant net events stands known ∙ all_from (λ (numbered : ℕ × ℕ). held_of (facts_of place past) numbered.0) 1 path i over
