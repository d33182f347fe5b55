-- Sources at the beginning of their scripts, and the access lines that they are at.
use Rattle.std.specs.Prelude.{◌≡◌, ℕ, ◌+◌, ◌<◌, List, [], ◌∷◌, length, Some, slice_index}
use Rattle.abt_net.specs.declared.conn.Conn.{Conn}
use Rattle.abt_net.specs.Topology.{Topology, conn_at}
use Rattle.abt_actor.specs.Actor.{actor_of}
use Rattle.abt_model.specs.declared.command.SourceCommand.{SourceCommand}
use Rattle.abt_model.specs.declared.command.SourceCommand.TheVariants.{Ask, Again}
use Rattle.abt_history.specs.Sites.{SiteView}

-- The line is that of connection c, and the port is the first of its path.
pub record IsLine (net : Topology) (c : ℕ) (line : Conn) (port : ℕ) : Type 0 where
  pub known : conn_at net c ≡ Some line
  pub first : port ≡ slice_index line.path 0

-- The source of a connection of the net has done nothing.
pub record HasBegun (net : Topology) (site : SiteView) : Type 0 where
  pub low : site.conn < length net.conns
  pub channel : (line : Conn) → conn_at net site.conn ≡ Some line → site.vc ≡ line.vc
  pub actor : site.actor ≡ actor_of site.vc []
  pub entries : site.entries ≡ []
  pub arrived : site.arrived ≡ 0

-- the sources of the connections from c on have done nothing
abbrev pub HaveBegunFrom : Topology → (c : ℕ) → List SiteView → Type 0
HaveBegunFrom net c [] = Unit {0}
HaveBegunFrom net c (site ∷ sites) = (site.conn ≡ c) × HasBegun net site × HaveBegunFrom net (c + 1) sites

-- the sources are those of the connections from c on
abbrev pub AreNumberedFrom : (c : ℕ) → List SiteView → Type 0
AreNumberedFrom c [] = Unit {0}
AreNumberedFrom c (site ∷ sites) = (site.conn ≡ c) × AreNumberedFrom (c + 1) sites

-- The source is to ask, or to repeat what it asked.
abbrev pub IsRequest : SourceCommand → Type 0
IsRequest (Ask rate plan) = Unit {0}
IsRequest Again = Unit {0}
IsRequest other = ⊥
