-- The answers of a server that numbers lines.
use Rattle.std.specs.Prelude.{◌≡◌, ℕ, ◌+◌, List, [], ◌∷◌, Option}
use Rattle.abt_text.specs.Text.{Text, ◌⋅◌, newline, decimal}
use Rattle.abt_lines.specs.Runs.{Ends, Steps}
use Rattle.abt_uses.specs.declared.lines.LineNumbers.{LineNumbers}

-- each line is answered by its number, and nothing is said behind the last
abbrev pub NumbersLine : Steps LineNumbers
NumbersLine old number line said new = said ≡ decimal number ⋅ newline

abbrev pub EndsNumbering : Ends LineNumbers
EndsNumbering last number said = said ≡ []

-- the numbers of some lines, the first of this number
abbrev pub numbers_from : ℕ → List (Option Text) → Text
numbers_from number [] = []
numbers_from number (line ∷ lines) = decimal number ⋅ newline ⋅ numbers_from (number + 1) lines
