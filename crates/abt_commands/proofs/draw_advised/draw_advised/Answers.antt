-- Where a file is named, the picture is drawn over it.
use Rattle.abt_commands.proofs.Elsewhere.{over_file}
use Rattle.abt_commands.proofs.draw_advised.draw_advised.Goals as goal

pub returns-in-Ok-File : goal.returns-in-Ok-File
returns-in-Ok-File g c = over_file _ c.in-Ok-File.file c.in-Ok-File.field-0 c.in-Ok-File.field-0-is c.in-Ok-File.ensures.ok
    _ _ _ _ _ _ _ _ _ _ _ _ c.over_reader-in-Ok-File.ensures
