-- What was read and couldn't be kept was taken all the same.
use Rattle.std.proofs.Common.{◌++◌, take, arith, length-take}
use Rattle.std.proofs.Math.ListN.{length-append}
use Rattle.std.proofs.lemmas.Grind.{common_steps}
use Rattle.std.proofs.KnownBytes.{Consumes-trans}
use Rattle.abt_text.proofs.reading.octets_of.Goals as goal

pub returns-then-is_err-clause-stops : goal.returns-then-is_err-clause-stops
returns-then-is_err-clause-stops g c =
    let piece = take c.in-Ok.count c.read_some.new.room in
    let text = c.loop-piece.text.items in
    record {
      taken = text ++ piece;
      within = let e = length-append text piece in let k = length-take c.in-Ok.count c.read_some.new.room in grind (arith, common_steps, e, k);
      front = Consumes-trans _ _ _ _ _ c.loop-piece.invariant.given c.in-Ok.ensures.ok;
    }
