-- A server whose journal may break answers records as the server in it does.
use Rattle.std.proofs.Common.{ℕ, List, [], ◌∷◌, ap}
use Rattle.std.specs.Prelude.{Option, None, Some}
use Rattle.abt_records.specs.Runs.{AnswersFirst, Runs, Steps}
use Rattle.abt_records.specs.Served.{ServesRecords, ServesSome}
use Rattle.abt_live.specs.declared.record_serving.StoppableRecords.{StoppableRecords}

abbrev Within : {S : Type 0} → Steps S → Steps (StoppableRecords S)
Within steps old seen said new = steps old.server seen said new.server

run_within : {S : Type 0} (steps : Steps S) (old new : StoppableRecords S) (records : List (Option (List ℕ))) (said : List ℕ)
    → Runs (Within steps) old records said new → Runs steps old.server records said new.server
run_within {S = S} steps old new [] said (none, same) = (none, ap (λ (s : StoppableRecords S). s.server) same)
run_within steps old new (seen ∷ records) said (mid, first, rest, is, step, run) =
    (mid.server, first, rest, is, step, run_within steps mid new records rest run)

first_within : {S : Type 0} (steps : Steps S) (first : StoppableRecords S) (records : List (Option (List ℕ))) (text : List ℕ)
    → AnswersFirst (Within steps) first records text → AnswersFirst steps first.server records text
first_within steps first records text part = record {
  answered = part.answered;
  more = part.more;
  are = part.are;
  server = part.server.server;
  runs = run_within steps first part.server part.answered text part.runs;
}

pub serves_records : {S : Type 0} (steps : Steps S) (first last : StoppableRecords S) (left old new : Option (List ℕ))
    → ServesRecords (Within steps) first last left old new → ServesRecords steps first.server last.server left old new
serves_records steps first last None old new served = served
serves_records steps first last (Some source) old new (printed, written, runs) = (printed, written, run_within steps first last _ printed runs)

pub serves_some : {S : Type 0} (steps : Steps S) (first : StoppableRecords S) (left old new : Option (List ℕ))
    → ServesSome (Within steps) first left old new → ServesSome steps first.server left old new
serves_some steps first None old new served = served
serves_some steps first (Some source) old new (made, part, front) = (made, first_within steps first _ made part, front)
