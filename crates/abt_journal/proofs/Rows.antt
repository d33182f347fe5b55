-- A map that has as many keys as a list of rows, and each row, is the map of the rows.
use Rattle.std.proofs.Common.{◌≡◌, ◌≢◌, ℕ, suc, ◌+◌, ◌-◌, Bool, true, false, cond, List, [], ◌∷◌, length, Some, None, is_some, refl, sym, ap, ◌∙◌, arith}
use Rattle.std.specs.List.{AllByRecursion}
use Rattle.std.specs.Ordering.{eq_by_cmp}
use Rattle.std.specs.FinMap.{FinMap, get, insert, remove, len, from_entries, find, get-insert, get-remove, get-from_entries, len-insert, len-remove, len-empty, empty_of_len, same_map}
use Rattle.abt_cell.specs.Channel.{Channel, channel_cmp, same_channel}
use Rattle.abt_cell.proofs.ChannelLemmas.{channel_cmp_total, channel_cmp-IsAntisymmetric, same_channel_tied, same_channel-is, same_channel-refl}
use Rattle.abt_node.specs.Table.{Connection}

-- rows of a table, by their connections
abbrev pub Rows : Type 0
Rows = List (Channel × Connection)

-- no connection stands twice
abbrev pub AreApart : Rows → Type 0
AreApart [] = Unit {0}
AreApart (e ∷ es) = AllByRecursion (λ x. e.0 ≢ x.0) es × AreApart es

-- the map has each row
abbrev pub HasRows : FinMap channel_cmp Connection → Rows → Type 0
HasRows m es = AllByRecursion (λ e. get m e.0 ≡ Some e.1) es

untied : (q k : Channel) → q ≢ k → eq_by_cmp channel_cmp q k ≡ false
untied q k ne =
    elim (same_channel q k) as (λ b. same_channel q k ≡ b → eq_by_cmp channel_cmp q k ≡ false) [
      | true ↦ λ e. absurd (ne (same_channel-is q k e))
      | false ↦ λ e. sym (same_channel_tied q k) ∙ e
    ] refl

tied : (k : Channel) → eq_by_cmp channel_cmp k k ≡ true
tied k = sym (same_channel_tied k k) ∙ same_channel-refl k

-- without one row, the others stay
others_stay : (m : FinMap channel_cmp Connection) (k : Channel) (es : Rows) → AllByRecursion (λ x. k ≢ x.0) es → HasRows m es → HasRows (remove m k) es
others_stay m k [] apart has = tt
others_stay m k (e ∷ es) apart has = (
  get-remove channel_cmp_total m k e.0 ∙ ap (λ b. cond b None (get m e.0)) (untied e.0 k (λ same. apart.0 (sym same))) ∙ has.0,
  others_stay m k es apart.1 has.1,
)

put_back_at : (m : FinMap channel_cmp Connection) (k : Channel) (v : Connection) → get m k ≡ Some v → (q : Channel) (b : Bool) → same_channel q k ≡ b
    → cond b (Some v) (cond b None (get m q)) ≡ get m q
put_back_at m k v known q true e = sym known ∙ ap (get m) (sym (same_channel-is q k e))
put_back_at m k v known q false e = refl

-- a row that is taken out and put back
put_back : (m : FinMap channel_cmp Connection) (k : Channel) (v : Connection) → get m k ≡ Some v → insert (remove m k) k v ≡ m
put_back m k v known =
    same_map channel_cmp_total channel_cmp-IsAntisymmetric _ _ (λ q.
    get-insert channel_cmp_total (remove m k) k v q
    ∙ ap (λ o. cond (eq_by_cmp channel_cmp q k) (Some v) o) (get-remove channel_cmp_total m k q)
    ∙ ap (λ b. cond b (Some v) (cond b None (get m q))) (sym (same_channel_tied q k))
    ∙ put_back_at m k v known q (same_channel q k) refl)

one_less : (m : FinMap channel_cmp Connection) (k : Channel) (v : Connection) (n : ℕ) → get m k ≡ Some v → len m ≡ suc n → len (remove m k) ≡ n
one_less m k v n known long =
    len-remove channel_cmp_total m k ∙ ap (λ o. cond (is_some o) (len m - 1) (len m)) known ∙ omega (arith, long)

pub map_of_rows : (m : FinMap channel_cmp Connection) (es : Rows) → AreApart es → HasRows m es → len m ≡ length es → m ≡ from_entries es
map_of_rows m [] apart has long = empty_of_len m long
map_of_rows m (e ∷ es) apart has long =
    let rest = map_of_rows (remove m e.0) es apart.1 (others_stay m e.0 es apart.0 has.1) (one_less m e.0 e.1 (length es) has.0 long) in
    sym (put_back m e.0 e.1 has.0) ∙ ap (λ n. insert n e.0 e.1) rest

more_rows : (m : FinMap channel_cmp Connection) (k : Channel) (v : Connection) (es : Rows) → AllByRecursion (λ x. k ≢ x.0) es → HasRows m es → HasRows (insert m k v) es
more_rows m k v [] apart has = tt
more_rows m k v (e ∷ es) apart has = (
  get-insert channel_cmp_total m k v e.0 ∙ ap (λ b. cond b (Some v) (get m e.0)) (untied e.0 k (λ same. apart.0 (sym same))) ∙ has.0,
  more_rows m k v es apart.1 has.1,
)

not_there : (k : Channel) (es : Rows) → AllByRecursion (λ x. k ≢ x.0) es → find channel_cmp k es ≡ None
not_there k [] apart = refl
not_there k (e ∷ es) apart = ap (λ b. cond b (Some e.1) (find channel_cmp k es)) (untied k e.0 apart.0) ∙ not_there k es apart.1

-- the map of rows has each, and no more
pub rows_of_map : (es : Rows) → AreApart es → HasRows (from_entries es) es × (len (from_entries {R = channel_cmp} es) ≡ length es)
rows_of_map [] apart = (tt, len-empty channel_cmp Connection)
rows_of_map (e ∷ es) apart =
    let rest = rows_of_map es apart.1 in
    let m : FinMap channel_cmp Connection = from_entries es in (
      (
        get-insert channel_cmp_total m e.0 e.1 e.0 ∙ ap (λ b. cond b (Some e.1) (get m e.0)) (tied e.0),
        more_rows m e.0 e.1 es apart.0 rest.0,
      ),
      len-insert channel_cmp_total m e.0 e.1
          ∙ ap (λ o. cond (is_some o) (len m) (len m + 1)) (get-from_entries channel_cmp_total es e.0 ∙ not_there e.0 es apart.0)
          ∙ omega (arith, rest.1),
    )
