-- With the lines of the events that are left there will be all lines.
use Rattle.std.proofs.Common.{◌≡◌, ◌++◌, drop, string_bytes}
use denote.Text.{Utf8}
use denote.Shadow.{shadow}
use Rattle.abt_draw.specs.Ladders.{events_text}
use Rattle.abt_draw.proofs.ladder.push_events.Given as goal

abbrev pub invariant-loop-index : goal.invariant-loop-index
invariant-loop-index l = shadow (Utf8 l.rest)
    × (string_bytes l.out ++ events_text l.sheet (drop l.index l.tolds) (drop l.index l.crossings) l.rest
    ≡ string_bytes l.initial.out ++ events_text l.sheet l.tolds l.crossings l.initial.rest)
