-- The decision on a cell that comes to a port with a table (docs/C.md, "A port with a table").
use Rattle.std.specs.Prelude.{◌≡◌, ◌≢◌, ◌↔◌, ℕ, List}
use Rattle.abt_cell.specs.Codec.{request_of, written_of}
use Rattle.abt_cell.specs.declared.message.Rm.{Rm}
use Rattle.abt_cell.specs.declared.message.Rm.TheVariants.{Request, Answer}
use Rattle.abt_node.specs.declared.reply.DropCause.TheVariants.{UnknownVc}
use Rattle.abt_node.specs.Reservation.{answer_of, no_to}
use Rattle.abt_c.specs.Outcome.{pass, refuse, drop_number}
use Rattle.abt_c.specs.Ports.{reservation_in, decision_at, onward_number, back_number}
use Rattle.abt_c.specs.Tables.{IsTable, IsRowOf, IsUnknown, LeavesOthers, row_of}
use Rattle.abt_c.specs.declared.table_state.AbtTable.{AbtTable}

-- a message is decided by the row of its connection
abbrev pub IsDecided : (old new : AbtTable) → Rm → (outcome row : ℕ) → Type 0
IsDecided old new (Request q) outcome row =
    let decision = decision_at old.port (row_of old.rows row) q in
    (outcome ≡ onward_number decision.0) × (reservation_in (row_of new.rows row) ≡ decision.1)
IsDecided old new (Answer a) outcome row =
    let taken = answer_of (reservation_in (row_of old.rows row)) a in
    (outcome ≡ back_number taken.0) × (reservation_in (row_of new.rows row) ≡ taken.1)

-- The decision on a message, and the octets that are to be sent then: those before, if none are.
pub record IsServed (said : Rm) (old new : AbtTable) (before after : List ℕ) (outcome : ℕ) : Type 0 where
  pub decided : IsTable old → (row : ℕ) → IsRowOf old (request_of said).vc row → IsDecided old new said outcome row
  pub unknown : IsTable old → (outcome ≡ drop_number UnknownVc) ↔ IsUnknown old (request_of said).vc
  pub others : LeavesOthers (request_of said).vc old new
  pub passed : outcome ≡ pass → after ≡ written_of said
  pub refused : outcome ≡ refuse → after ≡ written_of (Answer (no_to (request_of said)))
  pub unsent : outcome ≢ pass → outcome ≢ refuse → after ≡ before
