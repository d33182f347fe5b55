-- The source that the facts of its connection give (docs/RULES.md, "Source"). Facts are those of one connection, newest first.
use Rattle.std.specs.Prelude.{◌≡◌, ℕ, List, [], ◌∷◌, if◌then◌else◌, Option, None, Some, true, false}
use Rattle.abt_cell.specs.Channel.{Channel}
use Rattle.abt_cell.specs.Message.{Terms}
use Rattle.abt_facts.specs.declared.fact.Fact.{Fact}
use Rattle.abt_facts.specs.declared.fact.Fact.TheVariants.{Stored, Heard}
use Rattle.abt_facts.specs.Requests.{floor_of, ask_of}
use Rattle.abt_facts.specs.Source.{SourceState, Down, Idle, Asking, state_of, rate_of, last_of, kept_of, gap_of, next_of, emission_of}
use Rattle.abt_source.specs.SourceView.{SourceView}
use Rattle.abt_source.specs.Calls.{has_to_write, record_to_write}
use Rattle.abt_source.specs.declared.answer.Answered.{Answered}
use Rattle.abt_source.specs.declared.answer.Answered.TheVariants.{Raised, Refused, Ignored}

-- the request of a number
abbrev pub request_of : Channel → List Fact → ℕ → Terms
request_of vc facts seq = record { vc = vc; seq = seq; floor = floor_of facts seq; ask = ask_of facts seq }

-- the request that waits for its answer
abbrev pub waiting_in : Channel → List Fact → SourceState → Option Terms
waiting_in vc facts Down = None
waiting_in vc facts Idle = None
waiting_in vc facts (Asking seq) = Some (request_of vc facts seq)

-- the source of a connection after these facts
abbrev pub view_of : Channel → List Fact → SourceView
view_of vc facts = record {
  vc = vc;
  rate = rate_of facts;
  last = last_of facts;
  kept = kept_of facts;
  gap = gap_of facts;
  next = next_of facts;
  emitted = emission_of facts;
  newest = waiting_in vc facts (state_of facts);
}

-- A source in a state is the one that these facts give.
pub record StandsFor (facts : List Fact) (state : SourceState) (view : SourceView) : Type 0 where
  pub state_is : state ≡ state_of facts
  pub view_is : view ≡ view_of view.vc facts

-- the fact that an ask adds before its own: the record that it wrote, if it wrote one
abbrev pub stored_by : SourceView → (ask : ℕ) → List Fact
stored_by s ask = if has_to_write s ask then Stored (record_to_write s ask) ∷ [] else []

-- What an answer made of a source stands for the facts so far, with the one that the source heard it, unless it was ignored.
abbrev pub AnsweredStandsFor : List Fact → Answered → Type 0
AnsweredStandsFor facts (Raised view) = StandsFor (Heard view.last true ∷ facts) Idle view
AnsweredStandsFor facts (Refused view) = StandsFor (Heard view.last false ∷ facts) Idle view
AnsweredStandsFor facts (Ignored view) = StandsFor facts (Asking view.last) view
