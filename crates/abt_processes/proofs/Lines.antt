-- Access lines, by the facts of their connections.
use Rattle.std.proofs.Common.{◌≡◌, ℕ, ◌≤◌, List, ◌++◌, length, ap, sym, subst, ◌∙◌, Some}
use Rattle.std.specs.Prelude.{max, All}
use Rattle.abt_cell.specs.Channel.{Channel}
use Rattle.abt_net.specs.declared.conn.Conn.{Conn}
use Rattle.abt_net.specs.Topology.{Topology, conn_at}
use Rattle.abt_facts.specs.declared.fact.Fact.{Fact}
use Rattle.abt_facts.specs.Cells.{after_last_of, delivered_mark_of, emitted_of, fence_of, last_arrival_of}
use Rattle.abt_model.specs.declared.event.Event.{Event}
use Rattle.abt_model.specs.Events.{AsksRate}
use Rattle.abt_model.specs.Past.{facts_of}
use Rattle.abt_weave.specs.Projections.{past_of}
use Rattle.abt_weave.proofs.LineFacts.{line, after_last_of-line, delivered_mark_of-line, emitted_of-line, last_arrival_of-line}
use Rattle.abt_processes.specs.Lists.{IsIn}
use Rattle.abt_processes.specs.Processes.{AccessLine, LeftCell, LeftRequest}
use Rattle.abt_processes.proofs.Lasting.{IsRequestLeft, IsCellLeft, request_lasts, cell_lasts}

-- What left a line's source did, all cells that did are there, and no cell before the first that may come, and no moment before the last, can come.
pub record IsLineOf (vc : Channel) (facts : List Fact) (l : AccessLine) : Type 0 where
  pub requests : (left : LeftRequest) → IsIn left l.requests → IsRequestLeft vc facts left
  pub cells : (left : LeftCell) → IsIn left l.cells → IsCellLeft facts left
  pub count : length l.cells ≡ emitted_of facts
  pub first : fence_of facts ≤ l.first
  pub last : last_arrival_of facts ≡ l.last

fence_of-line : (facts : List Fact) → fence_of (line facts) ≡ fence_of facts
fence_of-line facts =
    ap (λ (n : ℕ). max n (delivered_mark_of (line facts))) (after_last_of-line facts) ∙ ap (λ (n : ℕ). max (after_last_of facts) n) (delivered_mark_of-line facts)

pub fence_alike : (facts others : List Fact) → line facts ≡ line others → fence_of facts ≡ fence_of others
fence_alike facts others same = sym (fence_of-line facts) ∙ ap fence_of same ∙ fence_of-line others

pub emitted_alike : (facts others : List Fact) → line facts ≡ line others → emitted_of facts ≡ emitted_of others
emitted_alike facts others same = sym (emitted_of-line facts) ∙ ap emitted_of same ∙ emitted_of-line others

pub arrival_alike : (facts others : List Fact) → line facts ≡ line others → last_arrival_of facts ≡ last_arrival_of others
arrival_alike facts others same = sym (last_arrival_of-line facts) ∙ ap last_arrival_of same ∙ last_arrival_of-line others

-- after more events that let no cell leave, with another first and last
pub line_lasts : (net : Topology) (more earlier : List Event) (c : ℕ) (conn : Conn) (l : AccessLine) (first last : ℕ) → conn_at net c ≡ Some conn → All AsksRate (more ++ earlier) →
    IsLineOf conn.vc (facts_of c (past_of net earlier)) l → emitted_of (facts_of c (past_of net (more ++ earlier))) ≡ emitted_of (facts_of c (past_of net earlier)) →
    fence_of (facts_of c (past_of net (more ++ earlier))) ≤ first → last_arrival_of (facts_of c (past_of net (more ++ earlier))) ≡ last →
    IsLineOf conn.vc (facts_of c (past_of net (more ++ earlier))) (record l { first = first; last = last })
line_lasts net more earlier c conn l first last known rates is count fence arrival = record {
  requests = λ left there. request_lasts net more earlier c conn left known rates (is.requests left there);
  cells = λ left there. cell_lasts net more earlier c conn left known rates (is.cells left there);
  count = is.count ∙ sym count;
  first = fence;
  last = arrival;
}

-- after more events that its first port didn't see
pub line_still : (net : Topology) (more earlier : List Event) (c : ℕ) (conn : Conn) (l : AccessLine) → conn_at net c ≡ Some conn → All AsksRate (more ++ earlier) →
    IsLineOf conn.vc (facts_of c (past_of net earlier)) l → line (facts_of c (past_of net (more ++ earlier))) ≡ line (facts_of c (past_of net earlier)) →
    IsLineOf conn.vc (facts_of c (past_of net (more ++ earlier))) l
line_still net more earlier c conn l known rates is same =
    let facts = facts_of c (past_of net earlier) in
    let others = facts_of c (past_of net (more ++ earlier)) in
    line_lasts net more earlier c conn l l.first l.last known rates is (emitted_alike others facts same)
    (subst (λ n. n ≤ l.first) (sym (fence_alike others facts same)) is.first) (arrival_alike others facts same ∙ is.last)
