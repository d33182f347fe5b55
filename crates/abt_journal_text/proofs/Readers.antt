-- Reading that goes on read by read.
use Rattle.std.proofs.Common.{◌≡◌, ◌⊎◌, inl, inr, ℕ, ◌++◌, List, [], Option, refl, sym, ap, ◌∙◌, subst, append-nil, append_assoc}
use Rattle.std.proofs.KnownBytes.{Consumes-trans, Consumes-kept, Consumes-nil}
use Rattle.std.specs.Prelude.{Some, None, IfSome, Result, Ok, Err, OnOk, IfErr}
use Rattle.std.specs.Io.KnownBytes.{Consumes, IsAtEnd}
use Rattle.abt_text.specs.Text.{Text}
use Rattle.abt_journal_text.specs.Books.{Told, with_text}
use Rattle.abt_journal_text.specs.Entering.{IsOwn}
use Rattle.abt_journal_text.specs.Texts.{top, Reads, Fails, GoesOn, IsRead, IsUnread}
use Rattle.abt_journal_text.specs.declared.spot.Spot.{Spot}
use Rattle.abt_journal_text.specs.declared.fault.TextFault.{TextFault}
use Rattle.abt_journal_text.proofs.Lines.{goes_on_stays, goes_on_more}

-- What was taken so far, and that reading goes on behind it.
pub record IsUnderWay (number : ℕ) (first : Told) (left0 left : Option Text) (spot : Spot) (told : Told) (begun : Text) : Type 0 where
  pub front : Text
  pub took : Consumes left0 left front
  pub on : GoesOn (top number) (with_text first) [] front spot told begun

pub under_way_first : (number : ℕ) (first : Told) (left : Option Text) (spot : Spot) (told : Told) (begun : Text) → spot ≡ top number → told ≡ with_text first → begun ≡ []
    → IsUnderWay number first left left spot told begun
under_way_first number first left spot told begun a b c = record {
  front = [];
  took = Consumes-nil left;
  on = subst (λ (s : Spot). GoesOn (top number) (with_text first) [] [] s told begun) (sym a)
      (subst (λ (t : Told). GoesOn (top number) (with_text first) [] [] (top number) t begun) (sym b)
      (subst (λ (t : Text). GoesOn (top number) (with_text first) [] [] (top number) (with_text first) t) (sym c) (goes_on_stays (top number) (with_text first) [])));
}

pub under_way_more : (number : ℕ) (first : Told) (left0 left1 left2 : Option Text) (s1 s2 : Spot) (t1 t2 : Told) (b1 b2 piece : Text)
    → IsUnderWay number first left0 left1 s1 t1 b1 → Consumes left1 left2 piece → GoesOn s1 t1 b1 piece s2 t2 b2
    → IsUnderWay number first left0 left2 s2 t2 b2
under_way_more number first left0 left1 left2 s1 s2 t1 t2 b1 b2 piece p took on = record {
  front = p.front ++ piece;
  took = Consumes-trans left0 left1 left2 p.front piece p.took took;
  on = goes_on_more (top number) s1 s2 (with_text first) t1 t2 [] b1 b2 p.front piece p.on on;
}

-- what was taken, and what is left
abbrev known : Option Text → Text
known None = []
known (Some text) = text

whole_is : (left0 left : Option Text) (front : Text) → Consumes left0 left front → IfSome left0 (λ octets. front ++ known left ≡ octets)
whole_is None left front took = tt
whole_is (Some xs) None front took = absurd took
whole_is (Some xs) (Some ys) front took = sym took

at_end : (left : Option Text) → IsAtEnd left → known left ≡ []
at_end None ended = refl
at_end (Some xs) ended = ended

-- all was taken
all_is : (left0 left : Option Text) (front : Text) → Consumes left0 left front → IsAtEnd left → IfSome left0 (λ octets. front ≡ octets)
all_is None left front took ended = tt
all_is (Some xs) None front took ended = absurd took
all_is (Some xs) (Some ys) front took ended = sym (took ∙ ap (λ (t : Text). front ++ t) ended ∙ append-nil front)

pub read_whole : (number : ℕ) (first after : Told) (left0 left1 left2 : Option Text) (spot : Spot) (told : Told) (begun : Text)
    → IsUnderWay number first left0 left1 spot told begun → Consumes left1 left2 [] → IsAtEnd left2 → Reads spot told begun after
    → IsRead number first after left0
read_whole number first after left0 left1 left2 spot told begun p took ended r = record {
  text = p.front ++ [];
  is = all_is left0 left2 (p.front ++ []) (Consumes-trans left0 left1 left2 p.front [] p.took took) ended;
  reads = p.on.reads [] after (subst (λ (t : Text). Reads spot told t after) (sym (append-nil begun)) r);
}

pub unread_in_piece : (number : ℕ) (first : Told) (fault : TextFault) (left0 left1 left2 : Option Text) (spot : Spot) (told : Told) (begun piece : Text)
    → IsUnderWay number first left0 left1 spot told begun → Consumes left1 left2 piece
    → (IsOwn fault.cause ⊎ ((rest : Text) → Fails spot told (begun ++ (piece ++ rest)) fault)) → IsOwn fault.cause ⊎ IsUnread number first fault left0
unread_in_piece number first fault left0 left1 left2 spot told begun piece p took (inl own) = inl own
unread_in_piece number first fault left0 left1 left2 spot told begun piece p took (inr fails) = inr (record {
  text = p.front ++ (piece ++ known left2);
  is = subst (λ (t : Text). IfSome left0 (λ octets. t ≡ octets)) (append_assoc p.front piece (known left2))
      (whole_is left0 left2 (p.front ++ piece) (Consumes-trans left0 left1 left2 p.front piece p.took took));
  fails = p.on.fails (piece ++ known left2) fault (fails (known left2));
})

pub on_ok : {T E : Type 0} (r : Result T E) (P Q : Type 0) → OnOk r P → (P → Q) → OnOk r Q
on_ok (Ok x) P Q p f = f p
on_ok (Err e) P Q p f = tt

pub if_err : {T E : Type 0} (r : Result T E) (P Q : E → Type 0) → IfErr r P → ((e : E) → P e → Q e) → IfErr r Q
if_err (Ok x) P Q p f = tt
if_err (Err e) P Q p f = f e p
