use Rattle.std.proofs.Common.{◌≡◌, ◌++◌, rules, ap, ◌∙◌, refl, string_bytes}
use Rattle.abt_draw.specs.Escapes.{escaped, entity}
use Rattle.abt_draw.proofs.Escaping.{escaped-cut, escaped-plain, escaped-more}
use Rattle.abt_draw.proofs.escape.escaped.Goals as goal

pub loop-before-preserved : goal.loop-before-preserved
loop-before-preserved c =
    let (whole, plain, is) = c.in-Some.ensures.some in
    let cut : escaped c.loop-before.rest.now ≡ c.in-Some.before.now ++ (entity c.in-Some.octet ++ escaped c.in-Some.behind.now) =
    ap escaped whole ∙ escaped-cut c.in-Some.before.now c.in-Some.octet c.in-Some.behind.now plain is in
    let made : string_bytes c.push_str-in-Some.new.self ≡ (string_bytes c.loop-before.out ++ c.in-Some.before.now) ++ entity c.in-Some.octet =
    search rules in (
      search rules,
      escaped-more (string_bytes c.loop-before.out) c.in-Some.before.now (entity c.in-Some.octet) (escaped c.in-Some.behind.now)
          (escaped c.loop-before.rest.now) (escaped c.args.text.now) (string_bytes c.push_str-in-Some.new.self) made cut c.loop-before.invariant.1,
    )

pub returns : goal.returns
returns c =
    let plain = c.in_default.ensures.none refl in
    let made : string_bytes c.push_str-2.new.self ≡ string_bytes c.loop-before.out ++ c.loop-before.rest.now = search rules in
    record { value = made ∙ rw (escaped-plain c.loop-before.rest.now plain) at c.loop-before.invariant.1 }
