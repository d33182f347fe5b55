-- What a source with its store keeps in order: mechanism, which only proofs need.
use Rattle.std.specs.Prelude.{◌+◌, ◌≤◌, ◌⊎◌, Bool, true, false}
use Rattle.abt_rate.specs.Limits.{number_max}
use Rattle.abt_keep.specs.Record.{KeptRecord}
use Rattle.abt_source.specs.SourceView.{SourceView}
use Rattle.abt_lifetime.specs.Lifetime.{StoredView}
use Rattle.abt_lifetime.specs.Numbers.{CoversSource}

-- What holds of a source that is up, and of the record that its store holds: the known record is at most 63 numbers ahead of the last, the
-- held one is not behind it, and both spacings cover the source. The held spacing is below the known one only if the next ask writes anyway.
pub record IsAhead (s : SourceView) (held : KeptRecord) : Type 0 where
  pub within : held.number ≤ number_max
  pub ahead : s.last ≤ s.kept.number
  pub near : s.kept.number ≤ s.last + 63
  pub behind : s.kept.number ≤ held.number
  pub spaced : (s.kept.spacing ≤ held.spacing) ⊎ (s.kept.number ≤ s.last)
  pub known : CoversSource s s.kept.spacing
  pub covers : CoversSource s held.spacing

-- of one that is up, of one that is down and was started, and of one that never was
abbrev pub IsSoundIf : (is_up was_started : Bool) → SourceView → KeptRecord → Type 0
IsSoundIf true true s held = IsAhead s held
IsSoundIf true false s held = ⊥
IsSoundIf false true s held = (held.number ≤ number_max) × CoversSource s held.spacing
IsSoundIf false false s held = Unit {0}

abbrev pub IsSound : StoredView → Type 0
IsSound v = IsSoundIf v.is_up v.was_started v.source v.held
