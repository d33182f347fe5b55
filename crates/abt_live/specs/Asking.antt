-- What an ask makes of a source and of the record in its store, whatever store that is.
use Rattle.std.specs.Prelude.{◌≡◌, ◌≢◌, ◌⊎◌, ℕ, true, if◌then◌else◌}
use Rattle.abt_rate.specs.Limits.{number_max}
use Rattle.abt_cell.specs.Message.{Terms}
use Rattle.abt_keep.specs.Record.{KeptRecord}
use Rattle.abt_source.specs.SourceView.{SourceView}
use Rattle.abt_source.specs.Calls.{asking_source, next_request, has_to_write, record_to_write}
use Rattle.abt_source.specs.declared.fault.AskFault.{AskFault}
use Rattle.abt_source.specs.declared.fault.AskFault.TheVariants.{SeqExhausted, Keep}

-- A request goes out: its number and its need are kept.
pub record Goes (s : SourceView) (held : KeptRecord) (rate : ℕ) (source : SourceView) (request : Terms) (kept : KeptRecord) : Type 0 where
  pub number_left : s.last ≢ number_max
  pub asked : request ≡ next_request s rate
  pub waits : source ≡ asking_source s request
  pub kept_is : kept ≡ (if has_to_write s rate then record_to_write s rate else held)

-- No request goes out: numbers are used up, or the store didn't take the record, which it may have all the same.
abbrev pub Stays : SourceView → (held : KeptRecord) → (rate : ℕ) → (kept : KeptRecord) → AskFault → Type 0
Stays s held rate kept SeqExhausted = (s.last ≡ number_max) × (kept ≡ held)
Stays s held rate kept Keep = (s.last ≢ number_max) × (has_to_write s rate ≡ true) × ((kept ≡ held) ⊎ (kept ≡ record_to_write s rate))
