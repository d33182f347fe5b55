use Rattle.std.proofs.Common.{rules, ◌≡◌, ◌++◌, ◌∷◌, [], length}
use Rattle.abt_journal.specs.declared.entry.Entry.{Entry}
use Rattle.abt_journal.proofs.Steps.{step_replayed, step_value}
use Rattle.abt_journal.proofs.state.PortState.step.Goals as goal

pub invariant_of-self-2 : goal.invariant_of-self-2
invariant_of-self-2 c =
    let e : Entry = record { place = c.len-place.result; caller = c.args.caller; input = c.args.input; reply = c.apply-reply.result } in
    let pushed : c.push_reserved.new.self.items ≡ c.self.inside.entries.items ++ e ∷ [] = search rules in
    let place : c.len-place.result ≡ length c.self.inside.entries.items = search rules in
    step_replayed c.self.inside.opening_capacity c.self.inside.port _ c.self.inside.entries.items _ e
    c.apply-reply.ensures.table pushed place c.apply-reply.ensures.value c.self.invariant

pub returns-clause-ok : goal.returns-clause-ok
returns-clause-ok c =
    let e : Entry = record { place = c.len-place.result; caller = c.args.caller; input = c.args.input; reply = c.apply-reply.result } in
    let pushed : c.push_reserved.new.self.items ≡ c.self.inside.entries.items ++ e ∷ [] = search rules in
    rw (c.answer.ensures, ← c.self.view_is)
    (step_value c.self.inside.opening_capacity c.self.inside.port _ c.self.inside.entries.items _ e c.apply-reply.ensures.table pushed)
