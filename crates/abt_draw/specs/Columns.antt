-- Who has a column (docs/PICTURES.md, "Drawing"): everybody along the paths of the connections that are shown.
use Rattle.std.specs.Prelude.{ℕ, ◌+◌, ◌==◌, ◌||◌, false, Bool, if◌then◌else◌, List, [], ◌∷◌, ◌++◌, length, map, fold}
use Rattle.std.specs.List.{list_any}
use Rattle.abt_net.specs.declared.conn.Conn.{Conn}
use Rattle.abt_net.specs.Topology.{Topology}
use Rattle.abt_draw.specs.declared.actor.Actor.{Actor}
use Rattle.abt_draw.specs.declared.actor.Actor.TheVariants.{Source, Port, End}

-- A connection is shown if it is named; if none is named, all are.
abbrev pub is_shown : (only : List ℕ) → (c : ℕ) → Bool
is_shown only c = (length only == 0) || list_any (λ named. named == c) only

-- everybody along a path: its source, its ports, and its end
abbrev pub along : (c : ℕ) → (path : List ℕ) → List Actor
along c path = Source c ∷ (map Port path ++ End c ∷ [])

-- everybody along the path of a connection, if that is shown
abbrev pub shown_along : (only : List ℕ) → (c : ℕ) → (path : List ℕ) → List Actor
shown_along only c path = if is_shown only c then along c path else []

-- everybody along the paths of connections that are numbered from c on
abbrev pub along_all : (only : List ℕ) → (c : ℕ) → List Conn → List Actor
along_all only c [] = []
along_all only c (conn ∷ conns) = shown_along only c conn.path ++ along_all only (c + 1) conns

abbrev pub is_same : Actor → Actor → Bool
is_same (Source c) (Source d) = c == d
is_same (Port p) (Port q) = p == q
is_same (End c) (End d) = c == d
is_same one other = false

-- who has no column yet gets one behind the others
abbrev pub with_column : List Actor → Actor → List Actor
with_column columns who = if list_any (λ one. is_same one who) columns then columns else columns ++ who ∷ []

-- So each of these has one column, and they stand in the order in which one meets them first.
abbrev pub columns_of : Topology → (only : List ℕ) → List Actor
columns_of net only = fold with_column [] (along_all only 0 net.conns)
