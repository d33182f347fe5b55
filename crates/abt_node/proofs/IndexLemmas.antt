-- Lemmas about the index of a port's rows.
use Rattle.std.proofs.Common.{◌≡◌, ◌≢◌, ℕ, ◌<◌, Bool, true, false, cond, List, [], ◌∷◌, ◌++◌, length, get_or, set, Option, None, Some, refl, sym, ap, subst, ◌∙◌, arith}
use Rattle.std.proofs.lemmas.List.{length-set, length-append, get_or-map, get_or_append_left}
use Rattle.std.proofs.lemmas.List.Elements.{All-push}
use Rattle.std.proofs.Math.Seq.{map-set_same, get_or-append_seam}
use Rattle.std.specs.Map.{lookup}
use Rattle.indexmap.specs.IndexMap as index
use Rattle.abt_cell.specs.Channel.{Channel, same_channel}
use Rattle.abt_cell.proofs.ChannelLemmas.{same_channel-is, same_channel-refl}
use Rattle.abt_node.specs.declared.row.Row.{Row}
use Rattle.abt_node.specs.Rows.{IsPlaceOf, Index, IsIndexOf}

-- an empty index is one of no rows
pub IsIndexOf-nil : (places : Index) → index.IsEmpty places → IsIndexOf places []
IsIndexOf-nil places empty vc =
    subst (λ es. IsPlaceOf [] vc (lookup (same_channel vc) es)) (sym empty) (λ k d lt. absurd (omega (arith, lt)))

-- Another row of its connection

vc-set : (rows : List Row) (i : ℕ) (row e : Row) (k : ℕ) (d : Row) → row.vc ≡ (get_or rows i e).vc → k < length rows → (get_or (set rows i row) k d).vc ≡ (get_or rows k d).vc
vc-set rows i row e k d same lt =
    let vc_of : Row → Channel = λ r. r.vc in
    let within : k < length (set rows i row) = omega (arith, lt, length-set rows i row) in
    sym (get_or-map vc_of (set rows i row) k d d.vc within)
    ∙ ap (λ vcs. get_or vcs k d.vc) (map-set_same vc_of rows i row e same)
    ∙ get_or-map vc_of rows k d d.vc lt

IsPlaceOf-set : (rows : List Row) (i : ℕ) (row e : Row) (vc : Channel) (place : Option ℕ) → row.vc ≡ (get_or rows i e).vc → IsPlaceOf rows vc place → IsPlaceOf (set rows i row) vc place
IsPlaceOf-set rows i row e vc None same is = λ k d lt there.
    let within : k < length rows = omega (arith, lt, length-set rows i row) in
    is k d within (sym (vc-set rows i row e k d same within) ∙ there)
IsPlaceOf-set rows i row e vc (Some k) same is =
    (omega (arith, is.0, length-set rows i row), λ d. vc-set rows i row e k d same is.0 ∙ is.1 d)

-- it leaves the places
pub IsIndexOf-set : (places : Index) (rows : List Row) (i : ℕ) (row e : Row) → row.vc ≡ (get_or rows i e).vc → IsIndexOf places rows → IsIndexOf places (set rows i row)
IsIndexOf-set places rows i row e same indexed vc =
    IsPlaceOf-set rows i row e vc (index.get same_channel places vc) same (indexed vc)

-- A row that is put last

apart : (a b : Channel) → same_channel a b ≡ false → a ≢ b
apart a b differ same =
    let bad : true ≡ false = sym (subst (λ c. same_channel a c ≡ true) same (same_channel-refl a)) ∙ differ in cc

IsPlaceOf-push : (rows : List Row) (row : Row) (vc : Channel) (place : Option ℕ) → row.vc ≢ vc → IsPlaceOf rows vc place → IsPlaceOf (rows ++ row ∷ []) vc place
IsPlaceOf-push rows row vc None other is = All-push (λ r. r.vc ≢ vc) rows row is other
IsPlaceOf-push rows row vc (Some k) other is = (
  omega (arith, is.0, length-append rows (row ∷ [])),
  λ d. ap (λ r. r.vc) (get_or_append_left rows (row ∷ []) d k is.0) ∙ is.1 d,
)

pushed : (rows : List Row) (row : Row) (vc : Channel) (own : Bool) (place : Option ℕ) → same_channel row.vc vc ≡ own → IsPlaceOf rows vc place
    → IsPlaceOf (rows ++ row ∷ []) vc (cond own (Some (length rows)) place)
pushed rows row vc true place is there = (
  omega (arith, length-append rows (row ∷ [])),
  λ d. ap (λ r. r.vc) (get_or-append_seam rows row [] d) ∙ same_channel-is row.vc vc is,
)
pushed rows row vc false place is there = IsPlaceOf-push rows row vc place (apart row.vc vc is) there

-- the row of a new connection, whose entry was put into the index
pub IsIndexOf-push : (old new : Index) (rows : List Row) (row : Row) → index.Updates same_channel old new row.vc (Some (length rows)) → IsIndexOf old rows
    → IsIndexOf new (rows ++ row ∷ [])
IsIndexOf-push old new rows row updates indexed vc =
    subst (IsPlaceOf (rows ++ row ∷ []) vc) (sym (updates.0 vc))
    (pushed rows row vc (same_channel row.vc vc) (index.get same_channel old vc) refl (indexed vc))
