-- The line that says how far a task is, as it goes to a terminal.
use Rattle.std.specs.Prelude.{◌⊎◌, ℕ, [], ◌∷◌, Bool, true, false, Option, codes}
use Rattle.std.specs.Io.KnownBytes.{Appends}
use Rattle.abt_text.specs.Text.{Text, ◌⋅◌, decimal}
use Rattle.abt_text.specs.Streams.{AppendsPrefix}

-- back to the first column
abbrev pub start : Text
start = 13 ∷ []

abbrev pub escape : Text
escape = 27 ∷ []

-- all that stands behind the cursor goes away
abbrev pub erase : Text
erase = escape ⋅ codes "[K"

-- lines that are too long for the window go on in the next one, or they don't
abbrev pub wrap : Text
wrap = escape ⋅ codes "[?7h"

abbrev pub no_wrap : Text
no_wrap = escape ⋅ codes "[?7l"

-- what is said of the octets that were read: an input is at its end, or it isn't
abbrev pub said : (ended : Bool) → Text
said true = codes " octets read, at work"
said false = codes " octets read"

-- what is drawn once so many octets were read
abbrev pub line_text : (octets : ℕ) → (ended : Bool) → Text
line_text octets ended = start ⋅ no_wrap ⋅ codes "abt: " ⋅ decimal octets ⋅ said ended ⋅ erase ⋅ wrap

-- the octets that take it away
abbrev pub clear_text : Text
clear_text = start ⋅ erase

-- A text went out as far as the writer took it.
abbrev pub Draws : Text → (old new : Option Text) → Type 0
Draws text old new = Appends old new text ⊎ AppendsPrefix old new text
