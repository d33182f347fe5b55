use Rattle.std.proofs.Common.{◌-◌, ◌++◌, length, take, drop, sym, ap, subst, ◌∙◌, arith, length-take}
use lib.Seq.{take-add, take-take}
use Rattle.std.specs.Io.KnownBytes.{Appends}
use Rattle.std.proofs.KnownBytes.{Appends-trans}
use Rattle.abt_text.proofs.writing.put.Goals as goal

pub loop-written-preserved : goal.loop-written-preserved
loop-written-preserved g c =
    let written = c.loop-written.written in
    let count = c.in_ok-count.count in
    let text = c.args.text.now in
    let before = c.loop-written.invariant in
    let fits = c.in_ok-count.ensures.within in
    let most = length-take (length text - written) (drop written text) in
    let joined = ap (λ front. take written text ++ front) (take-take count (length text - written) (drop written text) (omega arith))
    ∙ sym (take-add written count text) in
    record {
      within = omega arith;
      front = subst (Appends _ _) joined (Appends-trans _ _ _ _ _ before.front c.in_ok-count.ensures.ok);
    }
