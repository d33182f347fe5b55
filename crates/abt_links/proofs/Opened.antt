-- Cells of ports that are made one by one.
use Rattle.std.proofs.Common.{◌≡◌, ℕ, zero, suc, ◌+◌, List, [], ◌∷◌, ◌++◌, length, map, Some, slice_get, subst, refl, sym, ap, ◌∙◌, arith}
use Rattle.abt_net.specs.Topology.{Topology}
use Rattle.abt_history.specs.Sites.{SiteView}
use Rattle.abt_links.specs.Lines.{HasBegun, HaveBegunFrom, AreNumberedFrom}
use Rattle.abt_links.specs.declared.port_cell.PortCellOf.{PortCellOf}

one_more : {K F T : Type 0} (cs : List (PortCellOf K F T)) (c : PortCellOf K F T) (n k : ℕ) (x : PortCellOf K F T) → slice_get (cs ++ c ∷ []) k ≡ Some x → ((j : ℕ) (y : PortCellOf K F T) → slice_get cs j ≡ Some y → y.port ≡ n + j) → c.port ≡ n + length cs → x.port ≡ n + k
one_more {K} {F} {T} [] c n zero x at all here = let same : c ≡ x = cc in ap (λ (y : PortCellOf K F T). y.port) (sym same) ∙ here
one_more {K} {F} {T} [] c n (suc k) x at all here = absurd (cc)
one_more {K} {F} {T} (d ∷ cs) c n zero x at all here = all zero x at
one_more {K} {F} {T} (d ∷ cs) c n (suc k) x at all here =
    let h = one_more cs c (n + 1) k x at (λ j y there. let e = all (suc j) y there in omega arith) (omega arith) in omega arith

-- each cell is that of the port of its place
abbrev pub AtTheirPlaces : {K F T : Type 0} → List (PortCellOf K F T) → Type 0
AtTheirPlaces {K} {F} {T} cells = (p : ℕ) (cell : PortCellOf K F T) → slice_get cells p ≡ Some cell → cell.port ≡ p

pub places-push : {K F T : Type 0} (cs ds : List (PortCellOf K F T)) (c : PortCellOf K F T) → ds ≡ cs ++ c ∷ [] → AtTheirPlaces cs → c.port ≡ length cs → AtTheirPlaces ds
places-push {K} {F} {T} cs ds c grown all here = rw grown (λ k x at. (let h = one_more cs c 0 k x at (λ j y there. all j y there ∙ omega arith) (here ∙ omega arith) in omega arith))

-- sources that are made one by one
pub begun-push : (net : Topology) (n : ℕ) (sites all : List SiteView) (site : SiteView) → all ≡ sites ++ site ∷ [] → HaveBegunFrom net n sites → site.conn ≡ n + length sites → HasBegun net site → HaveBegunFrom net n all
begun-push net n [] all site grown begun here its = rw grown (here ∙ omega arith, its, tt)
begun-push net n (first ∷ sites) all site grown begun here its = rw grown (begun.0, begun.1, begun-push net (n + 1) sites (sites ++ site ∷ []) site refl begun.2 (here ∙ omega arith) its)

-- what sources have begun, as what is taken of them one by one
pub begun_numbered : (net : Topology) (n : ℕ) (sites : List SiteView) → HaveBegunFrom net n sites → AreNumberedFrom n sites
begun_numbered net n [] begun = tt
begun_numbered net n (site ∷ sites) begun = (begun.0, begun_numbered net (n + 1) sites begun.2)

pub begun_next : {A : Type 0} (net : Topology) (n : ℕ) (old new : List (A × SiteView)) (end : A × SiteView) → old ≡ end ∷ new → HaveBegunFrom net n (map (λ e. e.1) old) → (end.1.conn ≡ n) × HasBegun net end.1 × HaveBegunFrom net (n + 1) (map (λ e. e.1) new)
begun_next {A} net n old new end is begun = (let P : List (A × SiteView) → Type 0 = λ l. HaveBegunFrom net n (map (λ e. e.1) l) in subst P is begun)
