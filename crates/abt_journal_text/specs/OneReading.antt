-- A text tells one thing.
use Rattle.std.specs.Prelude.{◌≡◌}
use Rattle.abt_text.specs.Text.{Text}
use Rattle.abt_journal_text.specs.Books.{Told}
use Rattle.abt_journal_text.specs.Texts.{Reads}
use Rattle.abt_journal_text.specs.declared.spot.Spot.{Spot}

abbrev pub HasOneReading : Spot → Told → Text → Type 0
HasOneReading spot told text = (one other : Told) → Reads spot told text one → Reads spot told text other → one ≡ other
