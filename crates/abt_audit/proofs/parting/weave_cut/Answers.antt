-- What is left after a fault is less, and under way.
use Rattle.std.proofs.Common.{◌∙◌, List, length, ap, refl}
use Rattle.abt_audit.specs.Parts.{journals_in, named_in}
use Rattle.abt_audit.proofs.Once.{held_first, held_on, held_same}
use Rattle.abt_audit.proofs.Parted.{begins, fault_of_part, goes_on, part_less, under_way_sized}
use Rattle.abt_audit.proofs.parting.weave_cut.Goals as goal

pub cutting-init : goal.cutting-init
cutting-init c = record {
  way = begins c.args.net.now (journals_in c.args.part) (journals_in c.args.part) c.in_ok-stuck.stuck.items refl c.in_ok-stuck.ensures.items;
  held = held_first c.args.net.now (journals_in c.args.part) c.in_ok-stuck.stuck.items c.in_ok-stuck.ensures.items;
}

pub weave-requires-clause-ports : goal.weave-requires-clause-ports
weave-requires-clause-ports c =
    (under_way_sized c.args.net.now (journals_in c.args.part) (journals_in c.cutting.part) c.cutting.stuck.items c.requires c.cutting.invariant.way).ports

pub weave-requires-clause-sources : goal.weave-requires-clause-sources
weave-requires-clause-sources c =
    ap (λ (l : List _). length l) c.as_slice.ensures.value
    ∙ (under_way_sized c.args.net.now (journals_in c.args.part) (journals_in c.cutting.part) c.cutting.stuck.items c.requires c.cutting.invariant.way).conns

pub cutting-smaller-in_ok-stop_at-in-Err : goal.cutting-smaller-in_ok-stop_at-in-Err
cutting-smaller-in_ok-stop_at-in-Err c =
    part_less c.args.net.now c.cutting.part c.stop_at.new.part c.in-Err.fault (c.in_ok-stop_at-in-Err.ensures.other refl)
    (fault_of_part c.args.net.now c.cutting.part c.as_slice.result.now c.in-Err.fault c.as_slice.ensures.value c.in-Err.ensures.err)
    c.in_ok-stop_at-in-Err.ensures.cut

pub cutting-preserved-in_ok-stop_at-in-Err : goal.cutting-preserved-in_ok-stop_at-in-Err
cutting-preserved-in_ok-stop_at-in-Err c =
    let net = c.args.net.now in
    let now = journals_in c.cutting.part in
    let sized = under_way_sized net (journals_in c.args.part) now c.cutting.stuck.items c.requires c.cutting.invariant.way in
    let other = c.in_ok-stop_at-in-Err.ensures.other refl in
    let is = fault_of_part net c.cutting.part c.as_slice.result.now c.in-Err.fault c.as_slice.ensures.value c.in-Err.ensures.err in record {
      way = goes_on net (journals_in c.args.part) now (journals_in c.stop_at.new.part) c.cutting.stuck.items c.stop_at.new.stuck.items (named_in c.in-Err.fault)
          c.in-Err.fault c.cutting.invariant.way is refl c.in_ok-stop_at-in-Err.ensures.cut c.in_ok-stop_at-in-Err.ensures.noted;
      held = held_same net now (journals_in c.stop_at.new.part) c.cutting.stuck.items c.stop_at.new.stuck.items (named_in c.in-Err.fault)
          c.in_ok-stop_at-in-Err.ensures.cut c.in_ok-stop_at-in-Err.ensures.noted
          (held_on net now c.cutting.stuck.items c.in-Err.fault c.conns.ensures.rules sized c.cutting.invariant.held other is);
    }

pub cutting-smaller : goal.cutting-smaller
cutting-smaller c =
    part_less c.args.net.now c.cutting.part c.stop_at.new.part c.in-Err.fault (c.in_ok-stop_at-in-Err.ensures.other refl)
    (fault_of_part c.args.net.now c.cutting.part c.as_slice.result.now c.in-Err.fault c.as_slice.ensures.value c.in-Err.ensures.err)
    c.in_ok-stop_at-in-Err.ensures.cut

pub cutting-preserved : goal.cutting-preserved
cutting-preserved c =
    let net = c.args.net.now in
    let now = journals_in c.cutting.part in
    let sized = under_way_sized net (journals_in c.args.part) now c.cutting.stuck.items c.requires c.cutting.invariant.way in
    let other = c.in_ok-stop_at-in-Err.ensures.other refl in
    let is = fault_of_part net c.cutting.part c.as_slice.result.now c.in-Err.fault c.as_slice.ensures.value c.in-Err.ensures.err in record {
      way = goes_on net (journals_in c.args.part) now (journals_in c.stop_at.new.part) c.cutting.stuck.items c.stop_at.new.stuck.items (named_in c.in-Err.fault)
          c.in-Err.fault c.cutting.invariant.way is refl c.in_ok-stop_at-in-Err.ensures.cut c.in_ok-stop_at-in-Err.ensures.noted;
      held = held_same net now (journals_in c.stop_at.new.part) c.cutting.stuck.items c.stop_at.new.stuck.items (named_in c.in-Err.fault)
          c.in_ok-stop_at-in-Err.ensures.cut c.in_ok-stop_at-in-Err.ensures.noted
          (held_on net now c.cutting.stuck.items c.in-Err.fault c.conns.ensures.rules sized c.cutting.invariant.held other is);
    }
