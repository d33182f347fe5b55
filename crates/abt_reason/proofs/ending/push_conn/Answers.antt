use Rattle.abt_reason.proofs.ending.push_conn.Goals as goal

pub returns : goal.returns
returns c =
    rw (← c.vpi-vpi.ensures.value, ← c.vci-vci.ensures, ← c.units.ensures.value, ← c.in_ok-rate.ensures, ← c.as_slice.ensures, ← c.in_ok-hops.ensures)
    c.write.ensures.bytes
