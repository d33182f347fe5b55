-- Where a word of TOML ends.
use Rattle.std.specs.Prelude.{ℕ, ◌==◌, Bool, List, [], ◌∷◌}
use Rattle.std.specs.List.{list_any}
use Rattle.abt_text.specs.Text.{line_feed}

-- the octets of `,` `=` `[` `]` `{` `}` `"` `'` `#`, and of the end of a line
abbrev pub marks : List ℕ
marks = 44 ∷ 61 ∷ 91 ∷ 93 ∷ 123 ∷ 125 ∷ 34 ∷ 39 ∷ 35 ∷ line_feed ∷ []

abbrev pub is_mark : ℕ → Bool
is_mark octet = list_any (λ mark. octet == mark) marks
