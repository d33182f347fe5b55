-- Octets that were added make no other line of it than they do behind what was there.
use Rattle.std.proofs.Common.{◌++◌, ◌∙◌, ap, arith}
use Rattle.abt_lines.specs.Lines.{seen_of}
use Rattle.abt_lines.proofs.Fed.{answer_alone, answer_joined}
use Rattle.abt_lines.proofs.Lines.{no_octets, seen_added}
use Rattle.abt_lines.proofs.serving.answer_begun.Goals as goal

pub returns-then-is_empty-clause-ok : goal.returns-then-is_empty-clause-ok
returns-then-is_empty-clause-ok g c =
    answer_alone g.S.LineServer.steps _ _ _ _ c.args.begun.now.octets.items c.args.line.now _ _
    (no_octets _ (grind (arith, c.is_empty.ensures, c.if-is_empty.true))) c.answer_seen.ensures.ok

pub returns-clause-ok : goal.returns-clause-ok
returns-clause-ok g c =
    answer_joined g.S.LineServer.steps _ _ _ _ (c.args.begun.now.octets.items ++ c.args.line.now) c.as_slice.result.now _ _ c.in_ok-add.ensures.number
    (ap seen_of c.as_slice.ensures.value
    ∙ seen_added c.args.begun.now.octets.items c.args.line.now _ c.args.begun.now.whole c.requires c.add.new.self.whole c.in_ok-add.ensures.ok)
    c.in_ok-answer_seen.ensures.ok
