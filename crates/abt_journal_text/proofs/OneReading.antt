-- A text tells one thing.
use Rattle.std.proofs.Common.{◌≡◌, ◌≢◌, ◌⊎◌, inl, inr, ℕ, suc, ◌<◌, ◌++◌, List, [], ◌∷◌, length, refl, sym, ap, ◌∙◌, subst, arith}
use Rattle.std.specs.Prelude.{Some, Ok, Result, Option}
use Rattle.json.specs.Json.{Json, document}
use Rattle.abt_text.specs.Text.{Text}
use Rattle.abt_text.specs.Words.{Lacks}
use Rattle.abt_entry.specs.declared.fault.LineFault.{LineFault}
use Rattle.abt_entry.specs.Lines.{Says, line_in}
use Rattle.abt_entry.specs.declared.line.Line as declared
use Rattle.abt_entry.specs.declared.line.Line.TheVariants as line
use Rattle.abt_journal_text.specs.Books.{Told, with_cut}
use Rattle.abt_journal_text.specs.Entering.{Takes, TakesLine}
use Rattle.abt_journal_text.specs.Texts.{below, text_of, TakesAll, EndsWith, Reads}
use Rattle.abt_journal_text.specs.declared.spot.Spot.{Spot}
use Rattle.abt_journal_text.proofs.Lines.{text_more, further}

some_one : {A : Type 0} (a b : A) → Some a ≡ Some b → a ≡ b
some_one a b e = cc

ok_one : (a b : declared.Line) (r : Result declared.Line LineFault) → r ≡ Ok a → r ≡ Ok b → a ≡ b
ok_one a b r p q = cc

says_one : (text : Text) (a b : declared.Line) → Says text a → Says text b → a ≡ b
says_one text a b p q =
    let same : q.json ≡ p.json = some_one q.json p.json (sym q.read ∙ p.read) in
    ok_one a b (line_in p.json) p.is (sym (ap line_in same) ∙ q.is)

takes_one : (spot : Spot) (told : Told) (said : declared.Line) (a b : Told) → Takes spot told said a → Takes spot told said b → a ≡ b
takes_one spot told (line.Net net) a b p q = p.2 ∙ sym q.2
takes_one spot told (line.Port port entry) a b p q = p.3 ∙ sym q.3
takes_one spot told (line.Unplaced port entry) a b p q = p.2 ∙ sym q.2
takes_one spot told (line.Source source entry) a b p q = p.2 ∙ sym q.2
takes_one spot told (line.Open source entry) a b p q = p.2 ∙ sym q.2
takes_one spot told line.End a b p q = p.1 ∙ sym q.1

takes_line_one : (spot : Spot) (told : Told) (octets : Text) (a b : Told) → TakesLine spot told octets a → TakesLine spot told octets b → a ≡ b
takes_line_one spot told octets a b p q =
    takes_one spot told q.line a b (subst (λ (said : declared.Line). Takes spot told said a) (says_one octets p.line q.line p.says q.says) p.takes) q.takes

head_one : (c d : ℕ) (xs ys : Text) → c ∷ xs ≡ d ∷ ys → c ≡ d
head_one c d xs ys e = cc

tail_one : (c d : ℕ) (xs ys : Text) → c ∷ xs ≡ d ∷ ys → xs ≡ ys
tail_one c d xs ys e = cc

lacks_rest : (c : ℕ) (cs : Text) → Lacks 10 (c ∷ cs) → Lacks 10 cs
lacks_rest c cs free = λ i l. free (suc i) (omega arith)

-- a line feed parts a line from what is behind it
parts_one : (l m x y : Text) → Lacks 10 l → Lacks 10 m → l ++ 10 ∷ x ≡ m ++ 10 ∷ y → (l ≡ m) × (x ≡ y)
parts_one [] [] x y p q e = (refl, tail_one 10 10 x y e)
parts_one [] (d ∷ m) x y p q e = absurd (q 0 (omega arith) (sym (head_one 10 d x (m ++ 10 ∷ y) e)))
parts_one (c ∷ l) [] x y p q e = absurd (p 0 (omega arith) (head_one c 10 (l ++ 10 ∷ x) y e))
parts_one (c ∷ l) (d ∷ m) x y p q e =
    let rest = parts_one l m x y (lacks_rest c l p) (lacks_rest d m q) (tail_one c d (l ++ 10 ∷ x) (m ++ 10 ∷ y) e) in
    (ap (λ (n : ℕ). n ∷ l) (head_one c d (l ++ 10 ∷ x) (m ++ 10 ∷ y) e) ∙ ap (λ (t : Text). d ∷ t) rest.0, rest.1)

-- what has no line feed isn't a line and more
no_line : (r m x : Text) → Lacks 10 r → r ≢ m ++ 10 ∷ x
no_line [] [] x free e = cc
no_line [] (c ∷ m) x free e = cc
no_line (d ∷ r) [] x free e = free 0 (omega arith) (head_one d 10 r x e)
no_line (d ∷ r) (c ∷ m) x free e = no_line r m x (lacks_rest d r free) (tail_one d c r (m ++ 10 ∷ x) e)

lacks_nothing : Lacks 10 []
lacks_nothing i low = absurd (omega (arith, low))

lacks_at_end : (spot : Spot) (before : Told) (rest : Text) (after : Told) → EndsWith spot before rest after → Lacks 10 rest
lacks_at_end spot before rest after (inl none) = subst (Lacks 10) (sym none.0) lacks_nothing
lacks_at_end spot before rest after (inr cut) = cut.1.0

ends_one : (spot : Spot) (s t : Told) (rest : Text) (a b : Told) → s ≡ t → EndsWith spot s rest a → EndsWith spot t rest b → a ≡ b
ends_one spot s t rest a b same (inl p) (inl q) = p.1 ∙ same ∙ sym q.1
ends_one spot s t rest a b same (inl p) (inr q) = absurd (q.0 p.0)
ends_one spot s t rest a b same (inr p) (inl q) = absurd (p.0 q.0)
ends_one spot s t rest a b same (inr p) (inr q) = p.2 ∙ ap (with_cut spot) same ∙ sym q.2

all_one : (spot : Spot) (told : Told) (ls ms : List Text) (r q : Text) (s t a b : Told) → text_of ls ++ r ≡ text_of ms ++ q → Lacks 10 r → Lacks 10 q
    → TakesAll spot told ls s → TakesAll spot told ms t → EndsWith (below spot (length ls)) s r a → EndsWith (below spot (length ms)) t q b → a ≡ b
all_one spot told [] [] r q s t a b e fr fq p o ea eb =
    ends_one (below spot 0) s t q a b (p ∙ sym o) (subst (λ (x : Text). EndsWith (below spot 0) s x a) e ea) eb
all_one spot told [] (m ∷ ms) r q s t a b e fr fq p o ea eb = absurd (no_line r m (text_of ms ++ q) fr (e ∙ text_more m ms q))
all_one spot told (l ∷ ls) [] r q s t a b e fr fq p o ea eb = absurd (no_line q l (text_of ls ++ r) fq (sym e ∙ text_more l ls r))
all_one spot told (l ∷ ls) (m ∷ ms) r q s t a b e fr fq (next, whole, takes, more) (other, as_whole, takes_too, more_too) ea eb =
    let parts = parts_one l m (text_of ls ++ r) (text_of ms ++ q) whole.0 as_whole.0 (sym (text_more l ls r) ∙ e ∙ text_more m ms q) in
    let same : next ≡ other = takes_line_one spot told m next other (subst (λ (x : Text). TakesLine spot told x next) parts.0 takes) takes_too in
    all_one (below spot 1) other ls ms r q s t a b parts.1 fr fq (subst (λ (x : Told). TakesAll (below spot 1) x ls s) same more) more_too
    (subst (λ (x : Spot). EndsWith x s r a) (sym (further spot ls l)) ea) (subst (λ (x : Spot). EndsWith x t q b) (sym (further spot ms m)) eb)

pub reads_one : (spot : Spot) (told : Told) (text : Text) (a b : Told) → Reads spot told text a → Reads spot told text b → a ≡ b
reads_one spot told text a b p q =
    all_one spot told p.lines q.lines p.rest q.rest p.before q.before a b (sym p.are ∙ q.are) (lacks_at_end _ p.before p.rest a p.ends)
    (lacks_at_end _ q.before q.rest b q.ends) p.taken q.taken p.ends q.ends
