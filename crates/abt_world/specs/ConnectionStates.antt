-- A connection of a world, as contracts see it.
use Rattle.std.specs.Prelude.{List}
use Rattle.abt_cell.specs.Channel.{Channel}
use Rattle.abt_facts.specs.declared.fact.Fact.{Fact}
use Rattle.abt_actor.specs.Actor.{ActorView, actor_of}
use Rattle.abt_index.specs.Index.{Index, index_of}

-- a connection: the actor of its source, and the index of the facts that were noted of it
pub record ConnectionView : Type 0 where
  pub actor : ActorView
  pub index : Index

-- the connection that its facts give
abbrev pub connection_of : Channel → List Fact → ConnectionView
connection_of vc facts = record { actor = actor_of vc facts; index = index_of facts }
