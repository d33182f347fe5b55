-- The lines of a text, counted from 0.
use Rattle.std.specs.Prelude.{ℕ, zero, suc, ◌==◌}
use Rattle.std.specs.List.{before_first, after_first}
use Rattle.abt_text.specs.Text.{Text, line_feed}

-- the first line, and what stands behind it
abbrev pub first_line : Text → Text
first_line text = before_first (λ octet. octet == line_feed) text

abbrev pub behind_line : Text → Text
behind_line text = after_first (λ octet. octet == line_feed) text

-- what stands behind so many lines
abbrev pub behind_lines : Text → ℕ → Text
behind_lines text zero = text
behind_lines text (suc n) = behind_line (behind_lines text n)

abbrev pub line_at : Text → ℕ → Text
line_at text n = first_line (behind_lines text n)
