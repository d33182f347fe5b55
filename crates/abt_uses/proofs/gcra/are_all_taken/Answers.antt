-- The law speaks of the cells with the newest first.
use Rattle.std.proofs.Common.{List, [], subst, sym, reverse}
use Rattle.std.proofs.lemmas.List.{reverse-reverse}
use Rattle.abt_gcra.specs.Refusal.{arrivals_in}
use Rattle.abt_gcra.specs.Windows.{Arrival, AreVerdicts}
use Rattle.abt_uses.proofs.gcra.are_all_taken.Goals as goal

pub returns : goal.returns
returns c = λ conform.
    let cells : List Arrival = arrivals_in c.args.cells.now in
    let verdicts = c.in_ok-verdicts.verdicts.items in
    let judged : AreVerdicts c.args.tau [] (reverse (reverse cells)) verdicts =
    subst (λ (l : List Arrival). AreVerdicts c.args.tau [] l verdicts) (sym (reverse-reverse cells)) c.in_ok-verdicts.ensures.ok in
    c.are_all_conforming.ensures.1 (rw c.deref.ensures.value (c.conforming_cells_are_taken.ensures c.args.tau (reverse cells) verdicts conform judged))
