use Rattle.abt_scenario.proofs.writing.push_head.Goals as goal

pub returns : goal.returns
returns c = rw (← c.vpi-vpi.ensures.value, ← c.vci-vci.ensures) c.write.ensures.bytes
