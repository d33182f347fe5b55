-- What the texts of journals say (docs/JOURNALS.md, "Texts").
use Rattle.std.specs.Prelude.{◌≡◌, ◌≢◌, ℕ, ◌+◌, ◌<◌, ◌≤◌, ◌⊎◌, List, [], ◌∷◌, length, take, Option, IfSome}
use Rattle.abt_text.specs.Text.{Text, ◌⋅◌, line_feed}
use Rattle.abt_text.specs.Words.{Lacks}
use Rattle.abt_journal_text.specs.Books.{Told, with_text, with_cut}
use Rattle.abt_journal_text.specs.Entering.{TakesLine, RefusesLine}
use Rattle.abt_journal_text.specs.declared.spot.Spot.{Spot}
use Rattle.abt_journal_text.specs.declared.fault.Cause.{Cause}
use Rattle.abt_journal_text.specs.declared.fault.Cause.TheVariants as cause
use Rattle.abt_journal_text.specs.declared.fault.TextFault.{TextFault}

-- how many octets a line has at most, without its line feed
abbrev pub line_max : ℕ
line_max = 16777215

-- octets that can be a line
abbrev pub IsLine : Text → Type 0
IsLine octets = Lacks line_feed octets × (length octets ≤ line_max)

-- lines, each with its line feed
abbrev pub text_of : List Text → Text
text_of [] = []
text_of (line ∷ lines) = line ⋅ line_feed ∷ text_of lines

-- so many lines below a line
abbrev pub below : Spot → ℕ → Spot
below spot count = record { text = spot.text; line = spot.line + count }

-- lines are taken in one after the other, from this place on
abbrev pub TakesAll : Spot → Told → List Text → Told → Type 0
TakesAll spot told [] after = after ≡ told
TakesAll spot told (line ∷ lines) after =
    (next : Told) × IsLine line × TakesLine spot told line next × TakesAll (below spot 1) next lines after

-- what is left of a text behind its lines: nothing, or octets of a line that is cut, which is left out
abbrev pub EndsWith : Spot → (before : Told) → (rest : Text) → (after : Told) → Type 0
EndsWith spot before rest after =
    ((rest ≡ []) × (after ≡ before)) ⊎ ((rest ≢ []) × IsLine rest × (after ≡ with_cut spot before))

-- The rest of a text, from this line on, is read: each of its lines is taken in, and what is behind them is noted as cut.
pub record Reads (spot : Spot) (told : Told) (text : Text) (after : Told) : Type 0 where
  pub lines : List Text
  pub rest : Text
  pub are : text ≡ text_of lines ⋅ rest
  pub before : Told
  pub taken : TakesAll spot told lines before
  pub ends : EndsWith (below spot (length lines)) before rest after

-- Some line comes next, and isn't taken in.
pub record IsRefusedLine (told : Told) (text : Text) (why : Cause) : Type 0 where
  pub line : Text
  pub more : Text
  pub is : text ≡ line ⋅ line_feed ∷ more
  pub whole : IsLine line
  pub refused : RefusesLine told line why

-- why no line is taken in here: the line is too long, as many of its octets show; or else it is refused
abbrev pub IsWrong : Told → Text → Cause → Type 0
IsWrong told text why =
    ((why ≡ cause.TooLong) × (line_max < length text) × Lacks line_feed (take (line_max + 1) text)) ⊎ IsRefusedLine told text why

-- Reading the rest of a text, from this line on, fails: some lines are taken in, and then there is a fault.
pub record Fails (spot : Spot) (told : Told) (text : Text) (fault : TextFault) : Type 0 where
  pub lines : List Text
  pub rest : Text
  pub are : text ≡ text_of lines ⋅ rest
  pub before : Told
  pub taken : TakesAll spot told lines before
  pub here : fault.spot ≡ below spot (length lines)
  pub why : IsWrong before rest fault.cause

-- where a text begins
abbrev pub top : ℕ → Spot
top text = record { text = text; line = 1 }

-- A whole text of this number is read, which is what a reader has left if that is known.
pub record IsRead (number : ℕ) (told after : Told) (left : Option Text) : Type 0 where
  pub text : Text
  pub is : IfSome left (λ octets. text ≡ octets)
  pub reads : Reads (top number) (with_text told) text after

pub record IsUnread (number : ℕ) (told : Told) (fault : TextFault) (left : Option Text) : Type 0 where
  pub text : Text
  pub is : IfSome left (λ octets. text ≡ octets)
  pub fails : Fails (top number) (with_text told) text fault

-- Once octets of a line have come, and then a piece more: what is read from the next line on, behind what has come of it, is what was
-- read before.
pub record GoesOn (spot : Spot) (told : Told) (begun piece : Text) (next : Spot) (then : Told) (begins : Text) : Type 0 where
  pub reads : (rest : Text) (after : Told) → Reads next then (begins ⋅ rest) after → Reads spot told (begun ⋅ piece ⋅ rest) after
  pub fails : (rest : Text) (fault : TextFault) → Fails next then (begins ⋅ rest) fault → Fails spot told (begun ⋅ piece ⋅ rest) fault
