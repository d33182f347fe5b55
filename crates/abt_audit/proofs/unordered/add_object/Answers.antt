-- The object of the entry, if it is there.
use Rattle.std.proofs.Common.{◌≡◌, ◌∙◌, ◌++◌, List, ap, append_assoc, refl}
use Rattle.std.specs.Prelude.{None, codes}
use Rattle.json.specs.Token.{Token}
use Rattle.abt_text.specs.Text.{Text, ◌⋅◌}
use Rattle.abt_audit.specs.EntryObjects.{said_at, why_members, window_members}
use Rattle.abt_audit.specs.Waits.{waiting_members, waiting_object}
use Rattle.abt_audit.proofs.EntryObjects.{entry_told, on_ok, said_of_some}
use Rattle.abt_audit.proofs.unordered.add_object.Goals as goal

pub returns : goal.returns
returns c =
    let run = c.args.run.now in
    let actor = c.args.stuck.actor in
    let place = c.args.stuck.place in
    let names = c.args.names.now in
    let missing = c.args.missing.now in
    let said = c.in-Some.said in
    let window = window_members missing in
    on_ok c.end_entry.result _ (c.end_entry.new.text.items ≡ c.args.text.now.items ⋅ waiting_object names run c.args.stuck missing)
    (entry_told (codes "stuck") names actor place (waiting_members names missing) (why_members names c.as_str.result.now None ++ window) None
    (said_at run actor place) said.spot said.entry.items c.as_slice.result.now None c.args.text.now.items _ c.end_entry.new.text.items _ _
    (said_of_some c.in_ok-said.field-0 said (said_at run actor place) c.in-Some.is c.in_ok-said.ensures) refl
    (c.in_ok-push_window.ensures.before ∙ c.in_ok-push_why.ensures.before ∙ c.in_ok-object.ensures.before) c.in_ok-object.ensures.tokens
    (c.in_ok-push_window.ensures.tokens ∙ ap (λ (t : List Token). t ++ window) c.in_ok-push_why.ensures.tokens
    ∙ append_assoc _ (why_members names c.as_str.result.now None) window)
    (ap (λ (t : Text). why_members names t None ++ window) (c.as_str.ensures.value ∙ c.in_ok-words.ensures)) c.as_slice.ensures.value)
    c.end_entry.ensures
