-- The values, between brackets.
use Rattle.std.proofs.Common.{map}
use Rattle.abt_entry.specs.Written.{number_json}
use Rattle.abt_journal_text.proofs.Arrays.{array_puts}
use Rattle.abt_journal_text.proofs.net_line.put_path.Goals as goal

pub returns : goal.returns
returns c =
    array_puts c.end_array.result c.args.writer.now c.begin_array.new.self c.put_hops.new.writer c.end_array.new.self (map number_json c.args.hops.now)
    c.in_ok-begin_array.ensures.ok c.begin_array.ensures.room.0 c.in_ok-put_hops.ensures.ok c.put_hops.ensures.before c.end_array.ensures
