-- Cells that are written are read.
use Rattle.std.proofs.Common.{◌≡◌, ◌∙◌, ℕ, List, length, refl, sym, ap, subst}
use Rattle.std.specs.Prelude.{Ok}
use Rattle.hex.specs.Hex.{IsBytes, encode_lower}
use Rattle.hex.proofs.HexLemmas.{decode_of-encode_lower}
use Rattle.abt_cell.specs.Codec.{read_of, written_of}
use Rattle.abt_cell.specs.declared.message.Rm.{Rm}
use Rattle.abt_perform.specs.CellText.{message_hex, message_in, message_of}

by_octets : (octets : List ℕ) (rm : Rm) → length octets ≡ 52 → read_of octets ≡ Ok rm → message_in (Ok octets) ≡ Ok rm
by_octets octets rm long read = rw (long, read) refl

pub read_back : (rm : Rm) (octets : List ℕ) → octets ≡ written_of rm → IsBytes octets → length octets ≡ 52 → read_of octets ≡ Ok rm
    → message_of (message_hex rm) ≡ Ok rm
read_back rm octets is bytes long read =
    ap (λ written. message_of (encode_lower written)) (sym is) ∙ ap message_in (decode_of-encode_lower octets bytes) ∙ by_octets octets rm long read
