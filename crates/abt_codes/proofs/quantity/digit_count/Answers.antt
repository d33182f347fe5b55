-- Behind each digit the text may be cut.
use Rattle.std.proofs.Common.{rules, sym, ap, get_or, ◌∙◌}
use Rattle.std.specs.Char.{is_ascii_digit}
use Rattle.abt_codes.proofs.Places.{at_start, past_digit}
use Rattle.abt_codes.proofs.quantity.digit_count.Goals as goal

pub loop-place-init : goal.loop-place-init
loop-place-init c = at_start c.args.text.now c.utf8.text

pub loop-place-preserved : goal.loop-place-preserved
loop-place-preserved c =
    let same = ap (λ octets. is_ascii_digit (get_or octets c.loop-place.place 0)) (sym c.as_bytes-octet-items.ensures.value) in
    past_digit c.args.text.now c.loop-place.place c.utf8.text (search rules) (same ∙ sym c.if-not-is_ascii_digit.ensures.value) c.loop-place.invariant.0
