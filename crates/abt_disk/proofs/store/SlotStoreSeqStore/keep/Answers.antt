use Rattle.std.proofs.Common.{rules, ◌≡◌, false, Ok, Err, is_some, sym, ◌∙◌, subst, refl}
use Rattle.abt_disk.specs.Stores.{StoreView, Keeps}
use Rattle.abt_disk.proofs.store.SlotStoreSeqStore.keep.Goals as goal

pub invariant_of-self : goal.invariant_of-self
invariant_of-self g c =
    let none : is_some c.self.inside.fault ≡ false = search rules in
    let settled = c.self.invariant.1 (sym c.self.invariant.0 ∙ none) in (
      none ∙ sym c.in-Ok.ensures.fails,
      λ _. record { chosen = sym c.in-Ok.ensures.slot; durable = c.in-Ok.ensures.durable; stored = c.in-Ok.ensures.stored c.self.inside.current settled.stored },
    )

pub returns-in-Ok-clause-gives : goal.returns-in-Ok-clause-gives
returns-in-Ok-clause-gives g c =
    let none : is_some c.self.inside.fault ≡ false = search rules in
    let settled = c.self.invariant.1 (sym c.self.invariant.0 ∙ none) in
    subst (λ (v : StoreView _). Keeps g.D.Disk.seen g.D.Disk.may_leave g.D.Disk.moment g.D.Disk.left_since g.D.Disk.has_failed v c.args.kept (Ok tt)
    (record { disk = c.put.new.disk; kept = c.args.kept; failures = c.self.inside.failures })) c.self.view_is
    (record {
      any_moment = λ _. c.put.ensures.any_moment c.self.inside.current settled.stored;
      acknowledged = (c.in-Ok.ensures.stored c.self.inside.current settled.stored, c.in-Ok.ensures.durable);
      fails = c.in-Ok.ensures.fails;
      stays = c.put.ensures.stays;
      same = tt;
      failures = refl;
    })

pub returns-in-Err-clause-gives : goal.returns-in-Err-clause-gives
returns-in-Err-clause-gives g c =
    let none : is_some c.self.inside.fault ≡ false = search rules in
    let settled = c.self.invariant.1 (sym c.self.invariant.0 ∙ none) in
    subst (λ (v : StoreView _). Keeps g.D.Disk.seen g.D.Disk.may_leave g.D.Disk.moment g.D.Disk.left_since g.D.Disk.has_failed v c.args.kept
    (Err c.count_failure-in-Err.result) c.count_failure-in-Err.new.self) c.self.view_is
    (subst (λ (after : StoreView _). Keeps g.D.Disk.seen g.D.Disk.may_leave g.D.Disk.moment g.D.Disk.left_since g.D.Disk.has_failed
    (record { disk = c.self.inside.disk; kept = c.self.inside.current; failures = c.self.inside.failures }) c.args.kept
    (Err c.count_failure-in-Err.result) after) (sym c.count_failure-in-Err.ensures.counted)
    (record {
      any_moment = λ _. c.put.ensures.any_moment c.self.inside.current settled.stored;
      acknowledged = tt;
      fails = c.in-Err.ensures.fails;
      stays = c.put.ensures.stays;
      same = refl;
      failures = refl;
    }))
