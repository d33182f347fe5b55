-- The list of the number is there, and is cut.
use Rattle.abt_audit.proofs.Parted.{list_cut_at}
use Rattle.abt_audit.proofs.parting.cut_list.Goals as goal

pub returns-in-Some : goal.returns-in-Some
returns-in-Some g c =
    list_cut_at c.args.lists.now.items c.from.result c.args.number c.args.place c.in-Some.items.now c.truncate.new.self c.from.ensures
    c.in-Some.ensures.item.3.0 c.in-Some.ensures.value c.truncate.ensures.items
