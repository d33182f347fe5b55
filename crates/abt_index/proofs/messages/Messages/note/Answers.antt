use Rattle.std.proofs.Common.{◌≡◌, ℕ, List, Some, sym, ap, ◌∙◌, nat_eq, slice_get, arith}
use Rattle.std.specs.Prelude.{unwrap_or}
use Rattle.std.specs.Option.{option_map}
use Rattle.std.proofs.lemmas.Option.{same_Some, slice_get-map}
use Rattle.std.specs.Cmp.{nat_eq_equiv}
use Rattle.std.specs.List.{IsDistinct}
use Rattle.std.specs.Map.{keys_of, values_of, lookup}
use Rattle.indexmap.specs.IndexMap.{insert_entry, set_value_at}
use Rattle.indexmap.proofs.MapLemmas.{insert_entry-first}
use Rattle.indexmap.proofs.RemoveLemmas.{own_first}
use Rattle.abt_index.specs.declared.message.Message.{Message}
use Rattle.abt_index.specs.Index.{blank, changed, with_change}
use Rattle.abt_index.proofs.messages.Messages.note.Goals as goal

-- a change of the message at a place is one of the message with its number
changed_at : (messages : List (ℕ × Message)) (i seq : ℕ) (old newest new : Message) (change : Message → Message) →
    IsDistinct nat_eq (keys_of messages) → slice_get messages i ≡ Some (seq, old) → lookup (nat_eq seq) messages ≡ Some old →
    Some newest ≡ slice_get (values_of messages) i → new ≡ change newest → set_value_at messages i new ≡ with_change change seq messages
changed_at messages i seq old newest new change distinct at found here is =
    let same : newest ≡ old = same_Some newest old (here ∙ slice_get-map (λ e. e.1) messages i ∙ ap (option_map (λ e. e.1)) at) in
    sym (insert_entry-first nat_eq seq new messages i (own_first nat_eq nat_eq_equiv messages i seq old distinct at))
    ∙ ap (insert_entry nat_eq messages seq) (is ∙ ap change same ∙ ap (λ r. change (unwrap_or r blank)) (sym found))

pub returns-in-Some-get_index_mut-clause-entries : goal.returns-in-Some-get_index_mut-clause-entries
returns-in-Some-get_index_mut-clause-entries c few =
    let mine : c.in-Some.number.now ≡ c.args.seq = omega (arith, c.if-number-key.true, c.counting-key.ensures.value) in
    let at = sym c.in-Some.ensures.entry in
    changed_at _ _ c.args.seq c.in-Some.message.now c.in-Some-get_index_mut.newest.now _ (changed c.args.fact.now) c.len.ensures.unique
    (at ∙ ap (λ n. Some (n, c.in-Some.message.now)) mine) (ap (λ n. lookup (nat_eq n) c.self.inside.entries.entries) (sym mine) ∙ c.in-Some.ensures.value)
    c.in-Some-get_index_mut.ensures.value (c.note.ensures few)
    ∙ ap (λ s. with_change (changed c.args.fact.now) c.args.seq s.entries) c.self.view_is
