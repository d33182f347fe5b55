-- Scripts that fit a net.
use Rattle.std.proofs.Common.{◌≡◌, ℕ, zero, suc, ◌<◌, List, [], ◌∷◌, length, All, Some, slice_get, refl, ap, subst, sym, ◌∙◌, get_or, arith}
use Rattle.std.proofs.lemmas.Option.{slice_get-get_or}
use Rattle.abt_net.specs.declared.conn.Conn.{Conn}
use Rattle.abt_model.specs.declared.script_command.Command.{Command}
use Rattle.abt_links.specs.Scripts.{IsInTolerance}
use Rattle.abt_links.specs.Runs.{ScriptsFit}

pub fits_length : (conns : List Conn) (scripts : List (List Command)) → ScriptsFit conns scripts → length scripts ≡ length conns
fits_length [] [] fit = refl
fits_length [] (script ∷ scripts) fit = absurd fit
fits_length (conn ∷ conns) [] fit = absurd fit
fits_length (conn ∷ conns) (script ∷ scripts) fit = let h = fits_length conns scripts fit.1 in omega arith

pub fits_at : (conns : List Conn) (scripts : List (List Command)) (n : ℕ) (line : Conn) (script : List Command) → ScriptsFit conns scripts → slice_get conns n ≡ Some line → slice_get scripts n ≡ Some script
    → All (IsInTolerance line.tau) script
fits_at [] scripts n line script fit there given = absurd (cc)
fits_at (conn ∷ conns) [] n line script fit there given = absurd fit
fits_at (conn ∷ conns) (x ∷ scripts) zero line script fit there given =
    let same : conn ≡ line = cc in
    let here : x ≡ script = cc in
    let P : Conn → Type 0 = λ l. All (IsInTolerance l.tau) script in
    let Q : List Command → Type 0 = λ s. All (IsInTolerance conn.tau) s in
    subst P same (subst Q here fit.0)
fits_at (conn ∷ conns) (x ∷ scripts) (suc n) line script fit there given = fits_at conns scripts n line script fit.1 there given

pub script_at : (scripts : List (List Command)) (i n : ℕ) (script : List Command) → i ≡ n → n < length scripts → script ≡ get_or scripts i script → slice_get scripts n ≡ Some script
script_at scripts i n script place low is =
    slice_get-get_or scripts n script low ∙ ap Some (ap (λ (k : ℕ). get_or scripts k script) (sym place) ∙ sym is)
