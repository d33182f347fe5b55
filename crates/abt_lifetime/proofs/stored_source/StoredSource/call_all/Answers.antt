use Rattle.std.proofs.Common.{◌≡◌, ◌+◌, ◌<◌, [], ◌∷◌, ◌++◌, List, length, take, sym, ap, subst, ◌∙◌, arith}
use Rattle.std.proofs.lemmas.List.{take_more}
use Rattle.abt_lifetime.specs.declared.call.SourceCall.{SourceCall}
use Rattle.abt_cell.specs.Message.{Terms}
use Rattle.abt_lifetime.specs.Lifetime.{out_of}
use Rattle.abt_lifetime.specs.Numbers.{AreCarriedOut}
use Rattle.abt_lifetime.proofs.Whole.{none_carried, more_carried}
use Rattle.abt_lifetime.proofs.stored_source.StoredSource.call_all.Goals as goal

pub loop-call-init : goal.loop-call-init
loop-call-init g c =
    let said = c.in_ok-requests.ensures in (
      subst (λ (qs : List Terms). AreCarriedOut c.args.self.now [] qs c.args.self.now) (sym said.items) (none_carried c.args.self.now c.in_order.ensures),
      omega (arith, said.len),
      omega (arith, said.capacity),
    )

pub loop-call-preserved : goal.loop-call-preserved
loop-call-preserved g c =
    let all = c.args.calls.now in
    let i = c.loop-call.call-index in
    let call = c.call-item.result in
    let test = c.loop-call-test.true in
    let within = c.loop-call.auto.call-index-end in
    let low : i < length all = omega arith in
    let more : take (i + 1) all ≡ take i all ++ call ∷ [] = take_more all i call low ∙ ap (λ (x : SourceCall). take i all ++ x ∷ []) (sym c.call-item.is) in
    let old = c.loop-call.invariant in
    let goes = more_carried c.args.self.now c.loop-call.self c.call-request.new.self (take i all) c.loop-call.requests.items call c.call-request.result old.0 c.call-request.ensures in (
      subst (λ (qs : List Terms). AreCarriedOut c.args.self.now (take (i + 1) all) qs c.call-request.new.self) (sym c.add.ensures.items)
          (subst (λ (cs : List SourceCall). AreCarriedOut c.args.self.now cs (c.loop-call.requests.items ++ out_of c.call-request.result) c.call-request.new.self) (sym more) goes),
      omega (arith, c.add.ensures.len, old.1),
      omega (arith, c.add.ensures.capacity, old.2),
    )
