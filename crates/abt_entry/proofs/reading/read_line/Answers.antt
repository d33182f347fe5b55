-- Why the text's value is no line.
use Rattle.std.proofs.Common.{◌≡◌, ◌⊎◌, inl, inr, List, ℕ}
use Rattle.std.specs.Prelude.{Some, Ok, Err, IfErr}
use Rattle.json.specs.Json.{Json, document}
use Rattle.json.specs.Strict.{HasUniqueKeys}
use Rattle.json.specs.Value.{value_view}
use Rattle.abt_entry.specs.Reading.{Read, Gives}
use Rattle.abt_entry.specs.declared.fault.LineFault.TheVariants as fault
use Rattle.abt_entry.specs.declared.line.Line.{Line}
use Rattle.abt_entry.specs.Lines.{line_in, SaysNone}
use Rattle.abt_entry.proofs.reading.read_line.Goals as goal

none_of : (text : List ℕ) (json : Json) (r : Read Line) → document text ≡ Some json → HasUniqueKeys json → Gives (λ line. line) (line_in json) r
    → IfErr r (λ why. (why ≡ fault.Memory) ⊎ SaysNone text why)
none_of text json (Ok line) read unique gives = tt
none_of text json (Err why) read unique (inl is) = inl is
none_of text json (Err why) read unique (inr is) = inr (inr (inr (json, read, unique, is)))

pub returns-clause-err : goal.returns-clause-err
returns-clause-err c = none_of c.args.text.now (value_view c.in-Ok.value) c.line_in.result c.in-Ok.ensures.ok c.in-Ok.ensures.unique c.line_in.ensures
