use Rattle.std.proofs.Common.{◌<◌, length, rules}
use Rattle.std.proofs.lemmas.Str.{IsCharBoundary-after_ascii}
use Rattle.abt_draw.proofs.escape.cut_of.Goals as goal

pub range_from-requires : goal.range_from-requires
range_from-requires c some =
    let low : c.loop-place.place < length c.args.text.now = search rules in
    IsCharBoundary-after_ascii c.args.text.now c.loop-place.place c.utf8.text low (search rules)
