-- Where the line stands, and behind that its fault.
use Rattle.std.proofs.Common.{◌∙◌, ◌++◌, List, ap, append_assoc}
use Rattle.std.specs.Prelude.{codes}
use Rattle.json.specs.Token.{Token}
use Rattle.abt_entry.specs.ObjectMembers.{Adds, text_member}
use Rattle.abt_text.specs.Text.{Text}
use Rattle.abt_audit.specs.Objects.{spot_members, text_members}
use Rattle.abt_audit.proofs.EntryObjects.{on_ok}
use Rattle.abt_audit.proofs.objects.push_fault.Goals as goal

pub returns : goal.returns
returns c =
    let names = c.args.names.now in
    let why = c.args.why.now in
    let old = c.args.object.now in
    let spot = spot_members names why.spot in
    on_ok c.push_text.result (Adds (text_member (codes "fault") c.as_str.result.now) c.push_spot.new.object c.push_text.new.writer)
    (Adds (text_members names why) old c.push_text.new.writer) (λ last. record {
      before = last.before ∙ c.in_ok-push_spot.ensures.before;
      tokens = last.tokens ∙ ap (λ (t : List Token). t ++ text_member (codes "fault") c.as_str.result.now) c.in_ok-push_spot.ensures.tokens
          ∙ append_assoc old.tokens spot (text_member (codes "fault") c.as_str.result.now)
          ∙ ap (λ (t : Text). old.tokens ++ (spot ++ text_member (codes "fault") t)) (c.as_str.ensures.value ∙ c.in_ok-cause.ensures);
    }) c.push_text.ensures
