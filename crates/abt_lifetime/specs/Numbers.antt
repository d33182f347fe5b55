-- What a store keeps of a source: the numbers of its requests, and the gaps between its cells.
use Rattle.std.specs.Prelude.{◌≡◌, ℕ, ◌<◌, ◌≤◌, true, false, List, [], ◌∷◌, map, if◌then◌else◌, Option}
use Rattle.abt_rate.specs.Limits.{number_max}
use Rattle.abt_cell.specs.Channel.{Channel}
use Rattle.abt_cell.specs.Message.{Terms}
use Rattle.abt_facts.specs.Keeping.{counted}
use Rattle.abt_keep.specs.Record.{KeptRecord}
use Rattle.abt_keep.specs.declared.plan.StorePlan.{StorePlan}
use Rattle.abt_source.specs.SourceView.{SourceView}
use Rattle.abt_source.specs.Calls.{new_source, asked_in}
use Rattle.abt_lifetime.specs.declared.call.SourceCall.{SourceCall}
use Rattle.abt_lifetime.specs.Lifetime.{StoredView, Called, called, out_of, Lived, lived}

-- The number up to which all are used or given up: the last one of a source that is up, and of one that is down what its store holds.
abbrev pub used_up_to : StoredView → ℕ
used_up_to v = if v.is_up then v.source.last else v.held.number

-- Numbers rise, from above the first bound up to the second.
abbrev pub RiseWithin : (low : ℕ) → List ℕ → (high : ℕ) → Type 0
RiseWithin low [] high = low ≤ high
RiseWithin low (n ∷ ns) high = (low < n) × RiseWithin n ns high

-- the numbers of requests
abbrev pub numbers_of : List Terms → List ℕ
numbers_of requests = map (λ request. request.seq) requests

-- A spacing covers a source: it is at least the gap that is running, the spacing of the present rate, and that of the rate which an open
-- request asks for.
pub record CoversSource (source : SourceView) (spacing : ℕ) : Type 0 where
  pub gap : source.gap ≤ spacing
  pub rate : counted source.rate ≤ spacing
  pub waiting : counted (asked_in source.newest) ≤ spacing

-- A call was carried out: this went out, and this is left, the store having fared in one of its ways. A number that went out is above all
-- before, the store holds one that isn't below it, and once the source was started the store's spacing covers it, whether it is up or down.
pub record IsCarriedOut (before : StoredView) (call : SourceCall) (request : Option Terms) (after : StoredView) : Type 0 where
  pub plan : StorePlan
  pub value : (let is : Called = record { after = after; request = request } in is ≡ called call plan before)
  pub rise : RiseWithin (used_up_to before) (numbers_of (out_of request)) (used_up_to after)
  pub number : used_up_to after ≤ after.held.number
  pub spacing : after.was_started ≡ true → CoversSource after.source after.held.spacing

-- A list of calls is carried out one after the other; `requests` are those that went out, in order.
pub record AreCarriedOut (before : StoredView) (calls : List SourceCall) (requests : List Terms) (after : StoredView) : Type 0 where
  pub ways : List (SourceCall × StorePlan)
  pub are : map (λ way. way.0) ways ≡ calls
  pub value : (let is : Lived = record { after = after; requests = requests } in is ≡ lived ways before)
  pub rise : RiseWithin (used_up_to before) (numbers_of requests) (used_up_to after)
  pub number : used_up_to after ≤ after.held.number
  pub spacing : after.was_started ≡ true → CoversSource after.source after.held.spacing

-- the source of a connection to which nothing has happened, with a store
abbrev pub new_stored : Channel → KeptRecord → StoredView
new_stored vc held = record { is_up = false; was_started = false; source = new_source vc; held = held }

-- What a source has lived is kept by its store: the numbers that went out rise from above what the store held at first, the store holds a
-- number that isn't below any of them, and once the source was started the store's spacing covers it, whether it is up or down.
pub record IsKeptBy (first : KeptRecord) (requests : List Terms) (after : StoredView) : Type 0 where
  pub rise : RiseWithin first.number (numbers_of requests) (used_up_to after)
  pub number : used_up_to after ≤ after.held.number
  pub spacing : after.was_started ≡ true → CoversSource after.source after.held.spacing

-- This holds whatever the store held at first, whatever was done, and however the store fared.
abbrev pub NumbersAreKept : Type 0
NumbersAreKept =
    (vc : Channel) (held : KeptRecord) (calls : List (SourceCall × StorePlan)) → held.number ≤ number_max →
    IsKeptBy held (lived calls (new_stored vc held)).requests (lived calls (new_stored vc held)).after
