-- Receipts of what a port served.
use Rattle.std.specs.Prelude.{◌≡◌, ℕ, [], ◌∷◌, ◌++◌}
use Rattle.abt_journal.specs.declared.input.PortInput.{PortInput}
use Rattle.abt_journal.specs.declared.input.PortReply.{PortReply}
use Rattle.abt_journal.specs.Receipts.{Seated}

-- The caller has one receipt more: for this input of this port.
pub record HasReceipt (old new : Seated) (port : ℕ) (input : PortInput) : Type 0 where
  pub place : ℕ
  pub reply : PortReply
  pub is : new ≡ record {
    caller = old.caller;
    receipts = old.receipts ++ record { port = port; entry = record { place = place; caller = old.caller; input = input; reply = reply } } ∷ [];
  }
