use Rattle.std.proofs.Common.{rules, ◌≡◌, ℕ, ◌+◌, ◌<◌, ◌^◌, ◌++◌, ◌∷◌, [], refl, ap, sym, ◌∙◌}
use Rattle.abt_journal.specs.declared.entry.Entry.{Entry}
use Rattle.abt_journal.specs.declared.entry.Receipt.{Receipt}
use Rattle.abt_journal.specs.declared.input.PortReply.{PortReply}
use Rattle.abt_journal.proofs.Seen.{AreCounted-same, AreCounted-push, seen_at_last}
use Rattle.abt_journal.proofs.seat.Seat.step.Goals as goal

-- the receipt is kept, and its count is noted
pub invariant_of-self-2 : goal.invariant_of-self-2
invariant_of-self-2 c =
    let e : Entry = record { place = c.in_ok-place.place; caller = c.self.inside.caller; input = c.args.input; reply = c.in_ok-place.reply } in
    let r : Receipt = record { port = c.args.port; entry = e } in
    let pushed : c.push_reserved.new.self.items ≡ c.self.inside.receipts.items ++ r ∷ [] = search rules in
    let fits : c.in_ok-place.place + 1 < 2 ^ 64 = c.in_ok-place.ensures.within in
    let are = AreCounted-push c.self.inside.receipts.items c.make_room.new.self r fits c.in_ok-make_room.ensures.room
    (AreCounted-same c.self.inside.receipts.items c.self.inside.seen c.make_room.new.self c.make_room.ensures.same c.self.invariant) in
    rw (pushed, c.note.ensures) are

pub returns-clause-seen : goal.returns-clause-seen
returns-clause-seen c =
    let e : Entry = record { place = c.in_ok-place.place; caller = c.self.inside.caller; input = c.args.input; reply = c.in_ok-place.reply } in
    let r : Receipt = record { port = c.args.port; entry = e } in
    let pushed : c.push_reserved.new.self.items ≡ c.self.inside.receipts.items ++ r ∷ [] = search rules in
    seen_at_last c.args.port c.self.inside.receipts.items _ r pushed refl ∙ ap (λ (told : ℕ × PortReply). told.0 + 1) (sym c.answer.ensures)
