-- The counts are those of what is left.
use Rattle.std.proofs.Common.{◌≡◌, ◌-◌, ◌∙◌, sym, ap, arith}
use Rattle.std.specs.List.{remove}
use Rattle.abt_model.specs.Outcomes.{conn_of}
use Rattle.abt_play.specs.UnderWay.{count_of, is_of, one_of}
use Rattle.abt_play.proofs.Counted.{count_by-taken}
use Rattle.abt_play.proofs.under_way.UnderWay.take.Goals as goal

pub invariant_of-self-2 : goal.invariant_of-self-2
invariant_of-self-2 c = λ k.
    let parcels = c.self.inside.parcels in
    let parcel = c.in_ok-parcel.parcel in
    let taken = c.in_ok-parcel.ensures.some in
    let one = count_by-taken (is_of k) parcels c.args.place parcel taken.there in
    let less : count_of k parcels - one_of k (conn_of parcel.event) ≡ count_of k (remove parcels c.args.place) = omega (arith, one) in
    c.lower.ensures k ∙ ap (λ n. n - one_of k c.conn.result) (c.self.invariant k)
    ∙ ap (λ conn. count_of k parcels - one_of k conn) c.conn.ensures.value ∙ less ∙ ap (count_of k) (sym taken.others)
