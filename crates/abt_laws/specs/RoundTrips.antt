-- The way of a request over the path of its connection and back, with nothing else between (docs/RULES.md, "Path").
use Rattle.std.specs.Prelude.{ℕ, zero, suc, true, List, [], ◌∷◌, ◌++◌, replicate}
use Rattle.abt_node.specs.declared.reply.Onward.TheVariants.{Pass}
use Rattle.abt_node.specs.declared.reply.Back.TheVariants.{Pass as PassBack}
use Rattle.abt_model.specs.declared.event.Event.{Event}
use Rattle.abt_model.specs.declared.event.Event.TheVariants.{Request, Turn, Answer, Told}
use Rattle.abt_model.specs.declared.outcome.Heard.TheVariants.{Raised}
use Rattle.abt_model.specs.declared.outcome.Outcome.{Outcome}
use Rattle.abt_model.specs.declared.outcome.Outcome.TheVariants.{Requested, Turned, Answered, Told as HasTold}

-- a request comes to the first so many hops, one after the other
abbrev pub out_over : (c seq hops : ℕ) → List Event
out_over c seq zero = []
out_over c seq (suc hop) = out_over c seq hop ++ Request c (suc hop) seq ∷ []

-- the yes comes back over these hops, from the last to the first
abbrev pub back_over : (c seq hops : ℕ) → List Event
back_over c seq zero = []
back_over c seq (suc hop) = Answer c (suc hop) seq true ∷ back_over c seq hop

-- The round trip of a request over a path of so many hops: out, turned into a yes, back, and to its source.
abbrev pub round_trip : (c seq hops : ℕ) → List Event
round_trip c seq hops = out_over c seq hops ++ Turn c seq ∷ (back_over c seq hops ++ Told c seq true ∷ [])

-- What these events answer if each hop grants the request, and if the source waits for the yes: it is raised.
abbrev pub granted_trip : (hops : ℕ) → List Outcome
granted_trip hops = replicate hops (Requested Pass) ++ Turned ∷ (replicate hops (Answered PassBack) ++ HasTold Raised ∷ [])
