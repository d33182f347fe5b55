-- What went out when the records of a reader are answered.
use Rattle.std.specs.Prelude.{Option, IfSome}
use Rattle.std.specs.Io.KnownBytes.{Appends}
use Rattle.abt_text.specs.Text.{Text}
use Rattle.abt_lines.specs.Served.{AppendsFront}
use Rattle.abt_records.specs.Records.{records_of}
use Rattle.abt_records.specs.Runs.{AnswersFirst, Runs, Steps}

-- exactly the answers to all records that a reader had left went out, from this server's on, and it is that one then
abbrev pub ServesRecords : {A : Type 0} → (steps : Steps A) → (first last : A) → (left old new : Option Text) → Type 0
ServesRecords steps first last left old new =
    IfSome left (λ source. (printed : Text) × Appends old new printed × Runs steps first (records_of source) printed last)

-- the answers to the first records that it had left began to go out, and nothing else did
abbrev pub ServesSome : {A : Type 0} → (steps : Steps A) → (first : A) → (left old new : Option Text) → Type 0
ServesSome steps first left old new =
    IfSome left (λ source. (made : Text) × AnswersFirst steps first (records_of source) made × AppendsFront old new made)
