-- The values, between brackets.
use Rattle.std.proofs.Common.{map}
use Rattle.abt_journal_text.specs.NetJson.{conn_json}
use Rattle.abt_journal_text.proofs.Arrays.{array_puts}
use Rattle.abt_journal_text.proofs.net_line.put_connections.Goals as goal

pub returns : goal.returns
returns c =
    array_puts c.end_array.result c.args.writer.now c.begin_array.new.self c.put_conns.new.writer c.end_array.new.self (map conn_json c.args.conns.now)
    c.in_ok-begin_array.ensures.ok c.begin_array.ensures.room.0 c.in_ok-put_conns.ensures.ok c.put_conns.ensures.before c.end_array.ensures
