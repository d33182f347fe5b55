-- An octet that ends a record has it answered.
use Rattle.std.proofs.Common.{◌≡◌, ◌∙◌, true}
use Rattle.abt_records.specs.Records.{ends_with}
use Rattle.abt_records.proofs.Fed.{fed_whole}
use Rattle.abt_records.proofs.serving.take.Goals as goal

pub returns-clause-ok : goal.returns-clause-ok
returns-clause-ok g c =
    let ends : ends_with c.args.begun.now.items c.args.octet ≡ true =
    (let test = c.if-not-ends_with.false in let means = c.ends_with.ensures in let value = c.as_slice.ensures.value in cc) in
    fed_whole g.S.RecordServer.steps _ _ _ _ _ c.as_slice-2.result.now _ _ ends (c.as_slice-2.ensures.value ∙ c.in_ok-end_by.ensures) c.in_ok-answer.ensures.ok
    c.clear.ensures.items
