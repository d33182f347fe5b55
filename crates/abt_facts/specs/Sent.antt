-- Which messages of a connection were sent, and where they lie, by the connection's facts, the newest first
-- (docs/FORMATS.md, "Events and outcomes"). What was sent may be delivered any number of times, or never.
use Rattle.std.specs.Prelude.{ℕ, ◌+◌, ◌-◌, ◌==◌, ◌&&◌, nat_lt, Bool, false, List, if◌then◌else◌}
use Rattle.std.specs.List.{list_any}
use Rattle.abt_facts.specs.declared.fact.Fact.{Fact}
use Rattle.abt_facts.specs.declared.fact.Fact.TheVariants.{Delivered, Passed, Shut, Turned, Back}
use Rattle.abt_facts.specs.Requests.{was_asked}

-- whether a fact is this one, that a message was sent
abbrev pub is_sending : Fact → Fact → Bool
is_sending (Delivered s) (Delivered seq) = seq == s
is_sending (Passed s j) (Passed seq hop) = seq == s && hop == j
is_sending (Shut s j) (Shut seq hop) = seq == s && hop == j
is_sending (Turned s) (Turned seq) = seq == s
is_sending (Back s j) (Back seq hop) = seq == s && hop == j
is_sending sent other = false

-- whether a message was sent
abbrev pub was : List Fact → Fact → Bool
was facts sent = list_any (is_sending sent) facts

-- whether request s came to the first hop, was passed or shut at hop j, was turned into a yes, and whether that yes was passed
-- back at hop j
abbrev pub was_delivered : List Fact → ℕ → Bool
was_delivered facts s = was facts (Delivered s)

abbrev pub was_passed : List Fact → ℕ → ℕ → Bool
was_passed facts s j = was facts (Passed s j)

abbrev pub was_shut : List Fact → ℕ → ℕ → Bool
was_shut facts s j = was facts (Shut s j)

abbrev pub was_turned : List Fact → ℕ → Bool
was_turned facts s = was facts (Turned s)

abbrev pub was_back : List Fact → ℕ → ℕ → Bool
was_back facts s j = was facts (Back s j)

-- whether request s lies at hop j: it was asked, or the hop before passed it
abbrev pub request_is_at : List Fact → ℕ → ℕ → Bool
request_is_at facts s j = if j == 1 then was_asked facts s else was_passed facts s (j - 1)

-- whether request s lies at the end of a path of so many hops
abbrev pub request_is_through : ℕ → List Fact → ℕ → Bool
request_is_through hops facts s = was_passed facts s hops

-- whether a yes to s lies at hop j of so many: it was turned at the last, or the hop after passed it back
abbrev pub yes_is_at : ℕ → List Fact → ℕ → ℕ → Bool
yes_is_at hops facts s j = if j == hops then was_turned facts s else was_back facts s (j + 1)

-- whether a no to s lies at hop j of so many: the hop after shut it
abbrev pub no_is_at : ℕ → List Fact → ℕ → ℕ → Bool
no_is_at hops facts s j = nat_lt j hops && was_shut facts s (j + 1)

abbrev pub answer_is_at : ℕ → List Fact → ℕ → ℕ → Bool → Bool
answer_is_at hops facts s j granted = if granted then yes_is_at hops facts s j else no_is_at hops facts s j

-- whether a yes or a no to s lies at the source: the first hop passed it back, or shut the number
abbrev pub answer_is_home : List Fact → ℕ → Bool → Bool
answer_is_home facts s granted = if granted then was_back facts s 1 else was_shut facts s 1
