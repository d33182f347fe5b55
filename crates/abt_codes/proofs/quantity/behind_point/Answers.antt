-- A text may be cut behind its point.
use Rattle.std.proofs.Common.{ap, sym, ◌∙◌}
use Rattle.std.specs.List.{slice_get}
use Rattle.abt_codes.proofs.Places.{past_point}
use Rattle.abt_codes.proofs.quantity.behind_point.Goals as goal

pub range_from-requires : goal.range_from-requires
range_from-requires c =
    let first = c.in-Some-eq46.ensures.value ∙ ap (λ octets. slice_get octets 0) c.as_bytes.ensures.value in
    λ _. past_point c.args.text.now c.in-Some-eq46.field-0.now c.utf8.text (sym first) c.in-Some-eq46.field-0-test
