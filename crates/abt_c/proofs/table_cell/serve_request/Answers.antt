use Rattle.std.proofs.Common.{◌≡◌, ℕ, ◌⊎◌, inl, inr, ⊎_elim, arith, refl, ap, ◌∙◌}
use Rattle.abt_cell.specs.Codec.{written_of}
use Rattle.abt_cell.specs.Message.{Reply}
use Rattle.abt_cell.specs.declared.message.Rm.TheVariants.{Answer}
use Rattle.abt_node.specs.declared.reply.DropCause.{DropCause}
use Rattle.abt_node.specs.declared.reply.DropCause.TheVariants.{UnknownVc, Stale, Conflict, FloorAbove}
use Rattle.abt_node.specs.declared.reply.Onward.{Onward}
use Rattle.abt_node.specs.declared.reply.Onward.TheVariants.{Refuse, Drop}
use Rattle.abt_node.specs.Reservation.{no_to}
use Rattle.abt_c.specs.Ports.{decision_at, onward_number}
use Rattle.abt_c.specs.Tables.{row_of}
use Rattle.abt_c.specs.Outcome.{pass, refuse, drop_number}
use Rattle.abt_c.proofs.table_cell.serve_request.Goals as goal

-- a drop has the number neither of a pass nor of a refusal
drop_is_neither : (cause : DropCause) (number : ℕ) → number ≡ drop_number cause → (number ≡ pass) ⊎ (number ≡ refuse) → ⊥
drop_is_neither UnknownVc number is other = ⊎_elim (λ h. omega arith) (λ h. omega arith) other
drop_is_neither Stale number is other = ⊎_elim (λ h. omega arith) (λ h. omega arith) other
drop_is_neither Conflict number is other = ⊎_elim (λ h. omega arith) (λ h. omega arith) other
drop_is_neither FloorAbove number is other = ⊎_elim (λ h. omega arith) (λ h. omega arith) other

pub returns-in-Refuse-clause-value : goal.returns-in-Refuse-clause-value
returns-in-Refuse-clause-value c = record {
  decided = λ is row has.
      let decided = c.in-Some.ensures.value is row has in
      let onward : ◌≡◌ {A = Onward} (Refuse c.in-Refuse.no) (decision_at c.args.table.now.port (row_of c.args.table.now.rows row) c.args.request.now).0 = cc (decided.0, c.in-Refuse.is) in
      (ap onward_number onward, decided.1);
  unknown = λ is.
      let unknown = c.in-Some.ensures.unknown is in
      ((λ number. absurd (omega arith)), (λ nowhere. cc (unknown.1 nowhere, c.in-Refuse.is)));
  others = c.in-Some.ensures.others;
  passed = λ number. absurd (omega arith);
  refused = λ _.
      let no : c.in-Refuse.no ≡ no_to c.args.request.now = c.in-Some.ensures.no c.in-Refuse.no (cc c.in-Refuse.is) in
      c.put-in-Refuse.ensures ∙ ap (λ (reply : Reply). written_of (Answer reply)) no;
  unsent = λ _ sent. absurd (sent refl);
}

pub returns-in-Drop-clause-value : goal.returns-in-Drop-clause-value
returns-in-Drop-clause-value c = record {
  decided = λ is row has.
      let decided = c.in-Some.ensures.value is row has in
      let onward : ◌≡◌ {A = Onward} (Drop c.in-Drop.cause) (decision_at c.args.table.now.port (row_of c.args.table.now.rows row) c.args.request.now).0 = cc (decided.0, c.in-Drop.is) in
      (c.of_drop.ensures.value ∙ ap onward_number onward, decided.1);
  unknown = λ is.
      let unknown = c.in-Some.ensures.unknown is in (
        (λ number. unknown.0 (cc (c.of_drop.ensures.unknown_vc.0 number, c.in-Drop.is))),
        (λ nowhere. c.of_drop.ensures.unknown_vc.1 (cc (unknown.1 nowhere, c.in-Drop.is))),
      );
  others = c.in-Some.ensures.others;
  passed = λ number. absurd (drop_is_neither c.in-Drop.cause c.of_drop.result c.of_drop.ensures.value (inl number));
  refused = λ number. absurd (drop_is_neither c.in-Drop.cause c.of_drop.result c.of_drop.ensures.value (inr number));
  unsent = λ _ _. refl;
}
