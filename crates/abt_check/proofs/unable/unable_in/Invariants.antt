-- The world stands for the events so far, and the sightings are those of their past; the events found and those that are left to find are the
-- whole, of which the first ones are kept.
use Rattle.std.proofs.Common.{◌≡◌, ◌≤◌, ◌++◌, take, drop, [], map, length}
use Rattle.abt_model.specs.Run.{facts_after}
use Rattle.abt_world.specs.Standing.{StandsFor}
use Rattle.abt_reason.specs.Sightings.{AreSightings}
use Rattle.abt_check.specs.Seen.{seen}
use Rattle.abt_check.specs.Unable as spec
use Rattle.abt_check.proofs.Unables.{IsGrown}
use Rattle.abt_check.proofs.unable.unable_in.Given as goal

abbrev pub invariant-loop-index : goal.invariant-loop-index
invariant-loop-index l =
    StandsFor l.net (take l.index l.events) l.world
    × AreSightings l.net (facts_after l.net (take l.index l.events)) l.sightings
    × IsGrown l.most (map seen l.found.items) (spec.unable_in l.look l.net (facts_after l.net (take l.index l.events)) l.index (drop l.index l.events))
    (take l.most (spec.unable_in l.look l.net [] 0 l.events))
