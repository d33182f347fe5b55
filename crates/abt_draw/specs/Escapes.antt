-- Texts within the elements of a picture, in which nothing begins an element, an attribute or a reference.
use Rattle.std.specs.Prelude.{ℕ, ◌≡◌, ◌<◌, ◌==◌, ◌||◌, ◌&&◌, false, not, nat_lt, Bool, if◌then◌else◌, [], ◌∷◌, codes, length, slice_index}
use Rattle.abt_text.specs.Text.{Text, ◌⋅◌}

-- the octets of & < > " ' and the control octets but the line feed, which XML takes as they are in no text
abbrev pub is_special : ℕ → Bool
is_special octet = (octet == 38) || (octet == 60) || (octet == 62) || (octet == 34) || (octet == 39) || (nat_lt octet 32 && not (octet == 10))

-- what stands for such an octet; for a control octet, a space
abbrev pub entity : ℕ → Text
entity octet = if octet == 38 then codes "&amp;" else if octet == 60 then codes "&lt;" else if octet == 62 then codes "&gt;"
    else if octet == 34 then codes "&quot;" else if octet == 39 then codes "&#39;" else codes " "

abbrev pub escape : ℕ → Text
escape octet = if is_special octet then entity octet else octet ∷ []

-- No octet of a text is special.
abbrev pub IsPlain : Text → Type 0
IsPlain text = (i : ℕ) → i < length text → is_special (slice_index text i) ≡ false

-- the text that is read where it stands
abbrev pub escaped : Text → Text
escaped [] = []
escaped (octet ∷ text) = escape octet ⋅ escaped text
