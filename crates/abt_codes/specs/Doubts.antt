-- Codes that say rate 0, and are maybe meant as cells per second (docs/FORMATS.md, "Checks").
use Rattle.std.specs.Prelude.{◌≡◌, ◌≢◌, ℕ, ◌*◌, Option, None, Some, MatchOption, codes}
use Rattle.abt_rate.specs.Rate.{units_of, IsCanonical}
use Rattle.abt_format.specs.Values.{rate_of}
use Rattle.abt_text.specs.Text.{Text, ◌⋅◌, code_text, decimal}
use Rattle.abt_text.specs.Words.{number_of}
use Rattle.abt_codes.specs.Nearest.{IsBelow}
use Rattle.abt_codes.specs.declared.quantity.Quantity.{Quantity}

-- The code as it is written of the greatest rate that isn't above a quantity.
pub record IsCodeBelow (quantity : Quantity) (code : ℕ) : Type 0 where
  pub canonical : IsCanonical code
  pub below : IsBelow quantity (units_of code)

-- A word is a code that says rate 0, and isn't the one that is written for it.
pub record IsDoubtful (word : Text) : Type 0 where
  pub zero : rate_of word ≡ Some 0
  pub other : word ≢ codes "0000"

-- the quantity of so many cells per second, in units of 1/512 cell/s
abbrev pub of_cells : (cells : ℕ) → Quantity
of_cells cells = record { over = cells * 512; under = 1 }

abbrev pub cells_text : (word : Text) → (cells code : ℕ) → Text
cells_text word cells code = codes "code " ⋅ word ⋅ codes " is rate 0; " ⋅ decimal cells ⋅ codes " cells/s is " ⋅ code_text code

abbrev pub zero_text : (word : Text) → Text
zero_text word = codes "code " ⋅ word ⋅ codes " is rate 0, which is written 0000"

-- The nearest code below so many cells per second is told.
pub record IsOfCells (word : Text) (cells : ℕ) (text : Text) : Type 0 where
  pub code : ℕ
  pub below : IsCodeBelow (of_cells cells) code
  pub told : text ≡ cells_text word cells code

-- What is told of a doubtful word: if it is a number, the code of so many cells per second.
pub record IsDoubt (word text : Text) : Type 0 where
  pub doubtful : IsDoubtful word
  pub told : MatchOption (number_of word) (text ≡ zero_text word) (λ cells. IsOfCells word cells text)

-- Nothing is told of another one.
abbrev pub IsCodeDoubt : (word : Text) → Option Text → Type 0
IsCodeDoubt word None = ¬ IsDoubtful word
IsCodeDoubt word (Some text) = IsDoubt word text
