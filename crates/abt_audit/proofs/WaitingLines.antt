-- Lines of entries in no order, one after the other.
use Rattle.std.proofs.Common.{◌≡◌, ◌∙◌, ap, [], ℕ, zero, suc, ◌+◌, ◌<◌, ◌++◌, List, ◌∷◌, length, get_or, drop, drop-cons, add-one, append_assoc, arith, refl}
use Rattle.std.specs.Prelude.{String}
use Rattle.std.specs.declared.alloc.Global.{Global}
use Rattle.abt_text.specs.Text.{Text, ◌⋅◌}
use Rattle.abt_journal_text.specs.declared.run.Run.{Run}
use Rattle.abt_model.specs.Past.{Past}
use Rattle.abt_weave.specs.declared.actor.Stuck.{Stuck}
use Rattle.abt_audit.specs.Waits.{waiting_text, waiting_texts}
use Rattle.abt_audit.specs.declared.form.Form.{Form}

text_grows : (old new line left rest whole : Text) → new ≡ old ++ line → left ≡ line ++ rest → old ++ left ≡ whole → new ++ rest ≡ whole
text_grows old new line left rest whole grown first all = rw (grown, append_assoc, ← first) all

next_line : (form : Form) (names : List (String Global)) (run : Run) (past : Past) (all : List Stuck) (i : ℕ) (stuck : Stuck) → i < length all → stuck ≡ get_or all i stuck
    → waiting_texts form names run past (drop i all) ≡ waiting_text form names run past stuck ⋅ waiting_texts form names run past (drop (i + 1) all)
next_line form names run past all i stuck low is = rw (drop-cons all i stuck, ← is, add-one) refl

-- within a list it doesn't matter what there is in place of an item that it lacks
pub got_again : {A : Type 0} (xs : List A) (i : ℕ) (a b : A) → i < length xs → get_or xs i a ≡ get_or xs i b
got_again [] i a b low = absurd (omega (arith, low))
got_again (x ∷ xs) zero a b low = refl
got_again (x ∷ xs) (suc i) a b low = got_again xs i a b (omega (arith, low))

-- The line of one entry more is there.
pub lines_on : (form : Form) (names : List (String Global)) (run : Run) (past : Past) (all : List Stuck) (i : ℕ) (stuck : Stuck) (old new : Text) → i < length all
    → stuck ≡ get_or all i stuck → new ≡ old ⋅ waiting_text form names run past stuck
    → old ⋅ waiting_texts form names run past (drop i all) ≡ waiting_texts form names run past all
    → new ⋅ waiting_texts form names run past (drop (i + 1) all) ≡ waiting_texts form names run past all
lines_on form names run past all i stuck old new low is grown before =
    text_grows old new (waiting_text form names run past stuck) (waiting_texts form names run past (drop i all)) (waiting_texts form names run past (drop (i + 1) all)) _
    grown (next_line form names run past all i stuck low is) before
