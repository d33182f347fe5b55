-- The world stands for the events so far; their answers are counted, no more than there are events; and the lines, with those of the
-- events that are left, are the whole.
use Rattle.std.proofs.Common.{◌≡◌, ◌≤◌, ◌++◌, take, drop, [], string_bytes}
use Rattle.std.specs.Prelude.{sum_by}
use Rattle.abt_model.specs.Run.{facts_after, outcomes_of}
use Rattle.abt_world.specs.Standing.{StandsFor}
use Rattle.abt_explain.specs.Answers.{answer_lines, granted_by, refused_by}
use Rattle.abt_explain.proofs.answers.answers_of.Given as goal

abbrev pub invariant-loop-index : goal.invariant-loop-index
invariant-loop-index l =
    StandsFor l.net (take l.index l.events) l.world
    × (l.granted ≡ sum_by granted_by (outcomes_of l.net (take l.index l.events)))
    × (l.refused ≡ sum_by refused_by (outcomes_of l.net (take l.index l.events)))
    × (l.granted ≤ l.index)
    × (l.refused ≤ l.index)
    × (string_bytes l.lines ++ answer_lines l.net (facts_after l.net (take l.index l.events)) l.index (drop l.index l.events) ≡ answer_lines l.net [] 0 l.events)
