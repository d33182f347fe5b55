-- A piece of the input, taken record by record.
use Rattle.std.specs.Prelude.{◌≡◌, List, [], ◌++◌, Option}
use Rattle.abt_text.specs.Text.{Text, ◌⋅◌}
use Rattle.abt_records.specs.Records.{records_behind}
use Rattle.abt_records.specs.Runs.{Runs, Steps}

-- The records that end in a piece are answered, behind a text that was there, and what stands behind them has begun.
pub record Fed {A : Type 0} (steps : Steps A) (server : A) (begun piece : Text) (server_new : A) (begun_new old new : Text) : Type 0 where
  pub records : List (Option Text)
  pub said : Text
  pub added : new ≡ old ⋅ said
  pub runs : Runs steps server records said server_new
  pub left : (rest : Text) → records_behind begun (piece ⋅ rest) ≡ records ++ records_behind begun_new rest

-- A beginning of a piece was taken, and not all of it.
pub record FedPart {A : Type 0} (steps : Steps A) (server : A) (begun piece text : Text) : Type 0 where
  pub taken : Text
  pub rest : Text
  pub is : piece ≡ taken ⋅ rest
  pub server_new : A
  pub begun_new : Text
  pub fed : Fed steps server begun taken server_new begun_new [] text
