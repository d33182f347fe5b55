-- Columns, one path behind the other.
use Rattle.std.proofs.Common.{◌≡◌, ◌∙◌, ap, sym, ◌+◌, ◌<◌, ◌≤◌, ◌++◌, ℕ, List, [], ◌∷◌, length, get_or, drop, arith, length-append}
use Rattle.std.specs.Prelude.{Bool, true, false, if◌then◌else◌, fold}
use Rattle.std.specs.List.{list_any}
use Rattle.std.proofs.lemmas.List.{drop_more}
use Rattle.std.proofs.lemmas.List.Sums.{fold-append}
use Rattle.abt_net.specs.declared.conn.Conn.{Conn}
use Rattle.abt_draw.specs.Columns.{with_column, along_all, shown_along, is_same}
use Rattle.abt_draw.specs.declared.actor.Actor.{Actor}

-- the columns of a path more
pub path_more : (only : List ℕ) (c : ℕ) (conns : List Conn) (conn : Conn) (columns new all : List Actor) → c < length conns → conn ≡ get_or conns c conn
    → new ≡ fold with_column columns (shown_along only c conn.path) → fold with_column columns (along_all only c (drop c conns)) ≡ all
    → fold with_column new (along_all only (c + 1) (drop (c + 1) conns)) ≡ all
path_more only c conns conn columns new all low is made before =
    let cut : drop c conns ≡ conn ∷ drop (c + 1) conns = drop_more conns c conn low ∙ ap (λ x. x ∷ drop (c + 1) conns) (sym is) in
    ap (λ x. fold with_column x (along_all only (c + 1) (drop (c + 1) conns))) made
    ∙ sym (fold-append with_column columns (shown_along only c conn.path) (along_all only (c + 1) (drop (c + 1) conns)))
    ∙ sym (ap (λ x. fold with_column columns (along_all only c x)) cut) ∙ before

grows_if : (there : Bool) (columns : List Actor) (who : Actor) → length columns ≤ length (if there then columns else columns ++ who ∷ [])
grows_if true columns who = omega arith
grows_if false columns who = simp length-append (omega arith)

-- no column is taken away
pub columns_grow : (columns more : List Actor) → length columns ≤ length (fold with_column columns more)
columns_grow columns [] = omega arith
columns_grow columns (who ∷ more) =
    omega (arith, grows_if (list_any (λ one. is_same one who) columns) columns who, columns_grow (with_column columns who) more)
