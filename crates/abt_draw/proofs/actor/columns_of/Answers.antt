-- The columns of a path more; those that were added stay.
use Rattle.std.proofs.Common.{◌≡◌, ◌+◌, ◌<◌, ℕ, List, length, drop, ap, arith, rules}
use Rattle.std.specs.Prelude.{fold}
use Rattle.abt_draw.specs.Columns.{with_column, along_all, shown_along, columns_of}
use Rattle.abt_draw.specs.declared.actor.Actor.{Actor}
use Rattle.abt_draw.proofs.Columned.{path_more, columns_grow}
use Rattle.abt_draw.proofs.actor.columns_of.Goals as goal

-- more columns than so many, also when all are there
more_than : (columns more all : List Actor) (n : ℕ) → fold with_column columns more ≡ all → n < length columns → n < length all
more_than columns more all n is many = omega (arith, columns_grow columns more, ap length is, many)

pub returns-then-len-gt-COLUMNS_MAX-clause-none : goal.returns-then-len-gt-COLUMNS_MAX-clause-none
returns-then-len-gt-COLUMNS_MAX-clause-none c =
    let conns = c.args.net.now.conns in
    let place = c.loop-place.place in
    let low : place < length conns = omega (arith, c.loop-place-test.true, ap length c.conns-conns.ensures.value) in
    let made : c.add_shown.new.columns ≡ fold with_column c.loop-place.columns (shown_along c.args.only.now place c.index-conns-place.result.path) = search rules in
    let all = path_more c.args.only.now place conns c.index-conns-place.result c.loop-place.columns c.add_shown.new.columns (columns_of c.args.net.now c.args.only.now)
    low (search rules) made c.loop-place.invariant.all in
    more_than c.add_shown.new.columns (along_all c.args.only.now (place + 1) (drop (place + 1) conns)) (columns_of c.args.net.now c.args.only.now) 1024 all
    (omega (arith, c.if-len-gt-COLUMNS_MAX.true, c.len.ensures))
