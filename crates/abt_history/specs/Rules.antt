-- The rule of the book, and what its steps tell.
use Rattle.std.specs.Prelude.{ℕ, ◌≡◌, ◌<◌, ◌==◌, true, List, length, MatchBool}
use Rattle.logbook.specs.Pages.{Cell, cell, Step, View, Book, Named}
use Rattle.abt_net.specs.Topology.{Topology}
use Rattle.abt_history.specs.declared.deed.Deed.{Deed}
use Rattle.abt_history.specs.Histories.{count_of, words_of}
use Rattle.abt_history.specs.Legal.{IsLegal, IsAdded}

-- each word is what it counts in the history, which is legal
pub record IsKept (net : Topology) (cells : List Cell) (log : List Deed) : Type 0 where
  pub all : length cells ≡ words_of net
  pub each : (k : ℕ) → k < words_of net → cell cells k ≡ (count_of net k log, true)
  pub legal : IsLegal net log

abbrev pub word_of : ℕ → Book → Named
word_of key book = record { tracked = true; key = key; book = book }

abbrev pub Adds : Topology → Step Deed → View Deed ℕ → ℕ → View Deed ℕ → Type 0
Adds net s v found w = IsLegal net w.0 × MatchBool (found == s.old) (IsAdded net v.0 w.0 s.key s.old s.ask) (Unit {0})
