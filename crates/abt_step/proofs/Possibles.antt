-- Lists of what can happen next, one item more at a time.
use Rattle.std.proofs.Common.{◌≡◌, ℕ, zero, suc, ◌+◌, ◌-◌, ◌<◌, ◌≤◌, List, [], ◌∷◌, ◌++◌, refl, sym, ap, subst, ◌∙◌, arith, length, take, get_or, append_assoc, append-nil, max}
use Rattle.std.proofs.lemmas.List.{take_more}
use Rattle.std.specs.Prelude.{None, Some, Option, option_map, unwrap_or}
use Rattle.abt_facts.specs.declared.fact.Fact.{Fact}
use Rattle.abt_facts.specs.Cells.{emitted_of, fence_of, last_arrival_of, moment_of}
use Rattle.abt_net.specs.declared.conn.Conn.{Conn}
use Rattle.abt_net.specs.Topology.{Topology, conn_at}
use Rattle.abt_model.specs.Past.{Past, facts_of}
use Rattle.abt_reason.specs.Sightings.{lying}
use Rattle.abt_world.specs.Readings.{moment_in, progress_in, progress_of}
use Rattle.abt_world.specs.declared.progress.Progress.{Progress}
use Rattle.abt_step.specs.Possible.{if_open, messages_at, next_of, window_of, windows_from, windows_of}
use Rattle.abt_step.specs.declared.possible.CellWindow.{CellWindow}

-- the events of some requests, and then of more
pub messages-append : (net : Topology) (past : Past) (a b : List (ℕ × ℕ)) → messages_at net past (a ++ b) ≡ messages_at net past a ++ messages_at net past b
messages-append net past [] b = refl
messages-append net past (key ∷ a) b =
    ap (λ more. next_of (lying net past key.0 key.1) ++ more) (messages-append net past a b)
    ∙ sym (append_assoc (next_of (lying net past key.0 key.1)) (messages_at net past a) (messages_at net past b))

-- one request more
pub messages_more : (net : Topology) (past : Past) (asks : List (ℕ × ℕ)) (i : ℕ) (other : ℕ × ℕ) → i < length asks
    → messages_at net past (take (i + 1) asks) ≡ messages_at net past (take i asks) ++ next_of (lying net past (get_or asks i other).0 (get_or asks i other).1)
messages_more net past asks i other low =
    let key = get_or asks i other in
    ap (messages_at net past) (take_more asks i other low)
    ∙ messages-append net past (take i asks) (key ∷ [])
    ∙ ap (λ t. messages_at net past (take i asks) ++ t) (append-nil (next_of (lying net past key.0 key.1)))

-- of a connection that the net has
pub progress_is : (net : Topology) (past : Past) (c : ℕ) (conn : Conn) → conn_at net c ≡ Some conn → progress_in net past c ≡ Some (progress_of (facts_of c past))
progress_is net past c conn known = ap (option_map (λ (_ : Conn). progress_of (facts_of c past))) known

pub moment_is : (net : Topology) (past : Past) (c cell : ℕ) (conn : Conn) → conn_at net c ≡ Some conn → unwrap_or (moment_in net past c cell) 0 ≡ moment_of (facts_of c past) cell
moment_is net past c cell conn known = ap (λ o. unwrap_or (option_map (λ (_ : Conn). moment_of (facts_of c past) cell) o) 0) known

abbrev pub progress_or : Progress → Option Progress → Progress
progress_or other None = other
progress_or other (Some progress) = progress

pub same_progress : (a b : Progress) → Some a ≡ Some b → a ≡ b
same_progress a b is = ap (progress_or a) is

-- one cell more
pub windows_next : (c : ℕ) (conn : Conn) (facts : List Fact) (last first cell moment : ℕ) (old new : List CellWindow) (window : CellWindow)
    → new ≡ old ++ if_open window → window ≡ window_of c conn last cell moment → last ≡ last_arrival_of facts → moment ≡ moment_of facts cell → first ≤ cell
    → old ≡ windows_from c conn facts first (cell - first) → new ≡ windows_from c conn facts first (cell + 1 - first)
windows_next c conn facts last first cell moment old new window added is at left low before =
    let one : suc (cell - first) ≡ cell + 1 - first = omega (arith, low) in
    let here : cell ≡ first + (cell - first) = omega (arith, low) in
    added ∙ ap (λ w. old ++ if_open w) (is ∙ ap (λ l. window_of c conn l cell moment) at ∙ ap (λ m. window_of c conn (last_arrival_of facts) cell m) left)
    ∙ ap (λ t. t ++ if_open (window_of c conn (last_arrival_of facts) cell (moment_of facts cell))) before
    ∙ ap (λ n. windows_from c conn facts first (cell - first) ++ if_open (window_of c conn (last_arrival_of facts) n (moment_of facts n))) here
    ∙ ap (windows_from c conn facts first) one

-- all of them
pub windows_all : (c : ℕ) (conn : Conn) (facts : List Fact) (progress : Progress) (cell : ℕ) (windows : List CellWindow) → progress ≡ progress_of facts
    → progress.emitted ≤ cell → cell ≤ max progress.fence progress.emitted
    → windows ≡ windows_from c conn facts progress.fence (cell - progress.fence) → windows ≡ windows_of c conn facts
windows_all c conn facts progress cell windows is over within all =
    let count : cell - progress.fence ≡ progress.emitted - progress.fence = omega (arith, over, within) in
    all ∙ ap (windows_from c conn facts progress.fence) count ∙ ap (λ (p : Progress). windows_from c conn facts p.fence (p.emitted - p.fence)) is
