-- An event that isn't enabled, as contracts see it.
use Rattle.std.specs.Prelude.{string_bytes}
use Rattle.abt_check.specs.Unable.{UnableView}
use Rattle.abt_check.specs.declared.unable.Unable.{Unable}

abbrev pub seen : Unable → UnableView
seen unable = record { index = unable.index; text = string_bytes unable.text }
