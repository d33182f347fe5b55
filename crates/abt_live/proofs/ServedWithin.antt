-- A server whose journal may break answers lines as the server in it does.
use Rattle.std.proofs.Common.{inl, inr, ℕ, ◌+◌, List, [], ◌∷◌, ap}
use Rattle.std.specs.Prelude.{Option, None, Some}
use Rattle.abt_lines.specs.Runs.{AnswersAll, IsMade, Runs, Steps}
use Rattle.abt_lines.specs.Served.{ServesAll, ServesPart}
use Rattle.abt_live.specs.Serving.{EndsSilent}
use Rattle.abt_live.specs.declared.serving.Stoppable.{Stoppable}

abbrev Within : {S : Type 0} → Steps S → Steps (Stoppable S)
Within steps old number line said new = steps old.server number line said new.server

run_within : {S : Type 0} (steps : Steps S) (old new : Stoppable S) (number : ℕ) (lines : List (Option (List ℕ))) (said : List ℕ)
    → Runs (Within steps) old number lines said new → Runs steps old.server number lines said new.server
run_within {S = S} steps old new number [] said (none, same) = (none, ap (λ (s : Stoppable S). s.server) same)
run_within steps old new number (line ∷ lines) said (mid, first, rest, is, step, run) =
    (mid.server, first, rest, is, step, run_within steps mid new (number + 1) lines rest run)

all_within : {S : Type 0} (steps : Steps S) (first last : Stoppable S) (lines : List (Option (List ℕ))) (text : List ℕ)
    → AnswersAll (Within steps) EndsSilent first 1 lines text last → AnswersAll steps EndsSilent first.server 1 lines text last.server
all_within steps first last lines text all = record {
  answers = all.answers;
  behind = all.behind;
  is = all.is;
  runs = run_within steps first last 1 lines all.answers all.runs;
  ended = all.ended;
}

made_within : {S : Type 0} (steps : Steps S) (first : Stoppable S) (lines : List (Option (List ℕ))) (text : List ℕ)
    → IsMade (Within steps) EndsSilent first lines text → IsMade steps EndsSilent first.server lines text
made_within steps first lines text (inl (n, front)) = inl (
  n,
  record {
    server = front.server.server;
    within = front.within;
    runs = run_within steps first front.server 1 _ text front.runs;
  },
)
made_within steps first lines text (inr (last, all)) = inr (last.server, all_within steps first last lines text all)

pub serves_all : {S : Type 0} (steps : Steps S) (first last : Stoppable S) (left old new : Option (List ℕ))
    → ServesAll (Within steps) EndsSilent first last left old new → ServesAll steps EndsSilent first.server last.server left old new
serves_all steps first last None old new served = served
serves_all steps first last (Some source) old new (printed, written, all) = (printed, written, all_within steps first last _ printed all)

pub serves_part : {S : Type 0} (steps : Steps S) (first : Stoppable S) (left old new : Option (List ℕ))
    → ServesPart (Within steps) EndsSilent first left old new → ServesPart steps EndsSilent first.server left old new
serves_part steps first None old new served = served
serves_part steps first (Some source) old new (made, is, front) = (made, made_within steps first _ made is, front)
