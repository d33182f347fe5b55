-- What is told of a code that is so many cells per second, if it is made.
use Rattle.std.proofs.Common.{◌≡◌, ℕ, Option, Result, Ok, Err, String, string_bytes}
use Rattle.std.specs.declared.alloc.Global.{Global}
use Rattle.std.specs.Prelude.{IfOk}
use Rattle.abt_text.specs.Text.{Text}
use Rattle.abt_codes.specs.Doubts.{IsCodeBelow, IsOfCells, cells_text, of_cells}

pub cells_told : {E : Type 0} (word : Text) (cells code : ℕ) (result : Result (String Global) E) → IsCodeBelow (of_cells cells) code
    → IfOk result (λ text. string_bytes text ≡ cells_text word cells code)
    → IfOk result (λ text. IsOfCells word cells (string_bytes text))
cells_told word cells code (Ok text) below told = record { code = code; below = below; told = told }
cells_told word cells code (Err e) below told = tt
