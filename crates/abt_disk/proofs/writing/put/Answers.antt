use Rattle.std.proofs.Common.{◌≡◌, ◌-◌, ◌+◌, ◌%◌, ℕ, List, Ok, slice_index, inl, ap, ◌∙◌}
use Rattle.abt_disk.specs.Slots.{slot_of, record_in_slot, StoresOneOf}
use Rattle.abt_disk.proofs.Moments.{then_more}
use Rattle.abt_disk.proofs.Crash.{torn_other, torn_choice, chosen_new, on_both}
use Rattle.abt_disk.proofs.writing.put.Goals as goal

pub returns-clause-any_moment : goal.returns-clause-any_moment
returns-clause-any_moment g c before stored =
    let old = g.D.Disk.seen c.args.disk.now in let mid = g.D.Disk.seen c.write_through.new.disk in
    let other = 5 - c.args.slot in let is_other : other ≡ 5 - slot_of old = ap (λ (n : ℕ). 5 - n) c.requires.slot in
    let says : record_in_slot (mid other) ≡ Ok c.args.kept = ap record_in_slot c.in_ok-write_through.ensures.written ∙ c.slot_with.ensures in
    then_more g.D.Disk.moment g.D.Disk.left_since c.args.disk.now c.write_through.new.disk c.write_through-2.new.disk _ _ (StoresOneOf before c.args.kept)
    c.write_through.ensures.any_moment c.write_through-2.ensures.any_moment
    (λ left torn. inl (torn_other old other is_other left torn ∙ stored))
    (torn_choice old before c.args.kept other is_other stored mid c.in_ok-write_through.ensures.others says)

pub returns-clause-stored : goal.returns-clause-stored
returns-clause-stored g c before stored =
    let old = g.D.Disk.seen c.args.disk.now in let mid = g.D.Disk.seen c.write_through.new.disk in let new = g.D.Disk.seen c.write_through-2.new.disk in
    let other = 5 - c.args.slot in let is_other : other ≡ 5 - slot_of old = ap (λ (n : ℕ). 5 - n) c.requires.slot in
    let says : record_in_slot (mid other) ≡ Ok c.args.kept = ap record_in_slot c.in_ok-write_through.ensures.written ∙ c.slot_with.ensures in
    on_both c.write_through-2.result _ _ _ c.write_through-2.ensures.others c.write_through-2.ensures.written
    (λ torn written. chosen_new old before c.args.kept other is_other stored mid new c.in_ok-write_through.ensures.others says torn
    (ap (λ (octets : List ℕ). 2 + slice_index octets 0 % 2) written ∙ c.choice_of.ensures))
