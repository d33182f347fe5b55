-- The cause is told by its name.
use Rattle.std.proofs.Common.{◌≡◌, List, OnOk, subst}
use Rattle.std.specs.Prelude.{ℕ, codes, string_bytes}
use Rattle.abt_text.specs.Text.{◌⋅◌}
use Rattle.abt_entry.specs.ObjectMembers.{text_member}
use Rattle.abt_parts.specs.LineObjects.{line_object}
use Rattle.abt_parts.proofs.serve_objects.push_drop.Goals as goal

pub returns : goal.returns
returns c =
    subst (λ (name : List ℕ). OnOk c.push_with_text.result (string_bytes c.push_with_text.new.text
    ≡ string_bytes c.args.text.now ⋅ line_object (codes "drop") c.args.number (text_member (codes "cause") name)))
    c.name.ensures c.push_with_text.ensures
