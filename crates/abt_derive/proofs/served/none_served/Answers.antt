-- One connection more, of which nothing was served.
use Rattle.std.proofs.Common.{ap, arith, length-append, subst, sym, ◌≡◌, length, []}
use Rattle.abt_derive.specs.Serves.{served_at}
use Rattle.abt_derive.proofs.Serving.{nothing_more}
use Rattle.abt_derive.proofs.served.none_served.Goals as goal

pub loop-conn-preserved : goal.loop-conn-preserved
loop-conn-preserved c =
    let more = c.in_ok-push.ensures.items in
    record {
      sized = (let longer = simp length-append at (ap length more) in let so = c.loop-conn.invariant.sized in omega (arith, longer, so));
      none = λ k. subst (λ lists. served_at lists k ≡ []) (sym more)
          (nothing_more c.loop-conn.served.items c.new-none.result c.loop-conn.invariant.none c.new-none.ensures.items k);
    }
