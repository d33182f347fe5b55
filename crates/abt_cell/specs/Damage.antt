-- Cells whose payload changed on its way (docs/FORMATS.md, "The check"). A payload is seen as its polynomial: its first bit is the
-- coefficient of x^383, its last that of x^0.
use Rattle.std.specs.Prelude.{◌≡◌, ◌≢◌, ℕ, ◌*◌, ◌^◌, ◌<◌, List, bit_xor, count_ones}
use Rattle.abt_cell.specs.Layout.{IsCell, header_of, payload_of}
use Rattle.abt_cell.specs.Polynomial.{polynomial_of}
use Rattle.abt_cell.specs.Reading.{Reads}
use Rattle.abt_cell.specs.declared.message.Rm.{Rm}

-- A cell that says rm was sent, and what was received has its header. Its payload is any.
pub record IsDamaged (rm : Rm) (sent received : List ℕ) : Type 0 where
  pub sent_cell : IsCell sent
  pub readable : Reads sent rm
  pub received_cell : IsCell received
  pub header : header_of received ≡ header_of sent

-- the error polynomial, whose terms are the bits of the payload that changed
abbrev pub error_of : (sent received : List ℕ) → ℕ
error_of sent received = bit_xor (polynomial_of (payload_of sent)) (polynomial_of (payload_of received))

-- its weight: how many bits of the payload changed
abbrev pub changed_bits : (sent received : List ℕ) → ℕ
changed_bits sent received = count_ones (error_of sent received)

-- An error polynomial is a burst: some bit changed, and all that did lie within `width` successive ones, which `after` bits follow.
pub record IsBurst (width error : ℕ) : Type 0 where
  pub pattern : ℕ
  pub after : ℕ
  pub some : pattern ≢ 0
  pub within : pattern < 2 ^ width
  pub error_is : error ≡ pattern * 2 ^ after
