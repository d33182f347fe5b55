use Rattle.abt_disk.proofs.ReadRuns.{reads_three}
use Rattle.abt_disk.proofs.reading.read_store.Goals as goal

pub returns-in_err-record_of-clause-reads : goal.returns-in_err-record_of-clause-reads
returns-in_err-record_of-clause-reads g c =
    reads_three g.D.Disk.seen g.D.Disk.may_leave g.D.Disk.moment g.D.Disk.left_since c.args.disk.now c.read_block.new.disk c.read_block-2.new.disk c.read_block-3.new.disk
    c.read_block.ensures.reads c.read_block-2.ensures.reads c.read_block-3.ensures.reads

pub returns-clause-reads : goal.returns-clause-reads
returns-clause-reads g c =
    reads_three g.D.Disk.seen g.D.Disk.may_leave g.D.Disk.moment g.D.Disk.left_since c.args.disk.now c.read_block.new.disk c.read_block-2.new.disk c.read_block-3.new.disk
    c.read_block.ensures.reads c.read_block-2.ensures.reads c.read_block-3.ensures.reads
