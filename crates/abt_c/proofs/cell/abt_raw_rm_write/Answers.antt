use Rattle.std.proofs.Common.{rules, ◌≡◌, length, refl}
use Rattle.abt_c.specs.Records.{IsMessage}
use Rattle.abt_c.proofs.cell.abt_raw_rm_write.Goals as goal

-- src/cell.rt:52:1
pub returns-in-Ok-clause-done : goal.returns-in-Ok-clause-done
returns-in-Ok-clause-done c =
    let message : IsMessage c.args.rm.now = search (c.in-Ok.ensures.ok, rules) in
    let long : length c.args.octets.now ≡ 52 = search (c.if-octets-ne52.false, rules) in
    ((λ _. (long, message)), (λ _. refl))
