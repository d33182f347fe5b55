-- A write that took nothing left what was there.
use Rattle.std.proofs.Common.{◌≡◌, ℕ, List, [], Option, None, Some, Ok, ap, subst, ◌∙◌}
use Rattle.std.proofs.lemmas.List.{append-nil}
use Rattle.std.specs.Io.KnownBytes.{Appends, Keeps, WriteAppends}
use Rattle.std.proofs.KnownBytes.{Keeps-trans}
use Rattle.abt_text.proofs.writing.write_some.Goals as goal

nothing_more : (a b : Option (List ℕ)) → Appends a b [] → Keeps a b
nothing_more None b h = tt
nothing_more (Some x) None h = absurd h
nothing_more (Some x) (Some y) h = h ∙ append-nil x

pub returns-in-Ok-eq0-clause-err : goal.returns-in-Ok-eq0-clause-err
returns-in-Ok-eq0-clause-err g c =
    let old = g.W.Write.contents c.args.writer.now in
    let before = g.W.Write.contents c.loop-try.writer in
    let new = g.W.Write.contents c.write.new.self in
    let took_none : c.write.result ≡ Ok 0 = c.in-Ok-eq0.is ∙ ap Ok c.in-Ok-eq0.field-0-test in
    let grown : Appends before new [] = subst (λ r. WriteAppends before new r c.args.text.now) took_none c.write.ensures.bytes in
    Keeps-trans old before new c.loop-try.invariant.kept (nothing_more before new grown)
