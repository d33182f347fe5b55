-- Answers that go out piece by piece.
use Rattle.std.proofs.Common.{◌∙◌, ℕ, ◌++◌, List, [], Option, sym, ap, take, drop, append_assoc, append-nil, take-append-drop, subst, true≢false}
use Rattle.std.proofs.KnownBytes.{Appends-trans}
use Rattle.std.specs.Prelude.{Some, None, IfSome, Result, Ok, Err, IsOk, OnOk, OnErr}
use Rattle.std.specs.Io.KnownBytes.{Appends, Consumes, IsAtEnd}
use Rattle.abt_text.specs.Streams.{AppendsPrefix}
use Rattle.abt_lines.specs.Served.{AppendsFront}

-- what was taken, and what is left, is what there was
pub of_source : (P : List ℕ → Type 0) (l0 l1 : Option (List ℕ)) (taken : List ℕ) → Consumes l0 l1 taken → ((rest : List ℕ) → P (taken ++ rest)) → IfSome l0 P
of_source P None l1 taken took p = tt
of_source P (Some xs) None taken took p = absurd took
of_source P (Some xs) (Some ys) taken took p = subst P (sym took) (p ys)

-- at its end a reader had what was taken
pub at_end : (P : List ℕ → Type 0) (l0 l1 : Option (List ℕ)) (taken : List ℕ) → Consumes l0 l1 taken → IsAtEnd l1 → P taken → IfSome l0 P
at_end P None l1 taken took ended p = tt
at_end P (Some xs) None taken took ended p = absurd took
at_end P (Some xs) (Some ys) taken took ended p = subst P (sym (took ∙ ap (λ rest. taken ++ rest) ended ∙ append-nil taken)) p

-- behind what went out, a front of a text went out
pub front_behind : (w0 w1 w2 : Option (List ℕ)) (printed text : List ℕ) → Appends w0 w1 printed → AppendsFront w1 w2 text → AppendsFront w0 w2 (printed ++ text)
front_behind w0 w1 w2 printed text first went = record {
  printed = printed ++ went.printed;
  written = Appends-trans w0 w1 w2 printed went.printed first went.written;
  front = record {
    rest = went.front.rest;
    is = ap (λ more. printed ++ more) went.front.is ∙ sym (append_assoc printed went.printed went.front.rest);
  };
}

pub front_of_prefix : (a b : Option (List ℕ)) (text : List ℕ) → AppendsPrefix a b text → AppendsFront a b text
front_of_prefix a b text p = record {
  printed = take p.count text;
  written = p.front;
  front = record { rest = drop p.count text; is = sym (take-append-drop p.count text) };
}

pub front_of_whole : (a b : Option (List ℕ)) (text : List ℕ) → Appends a b text → AppendsFront a b text
front_of_whole a b text p = record { printed = text; written = p; front = record { rest = []; is = sym (append-nil text) } }

-- where what was made went out, and it was made whole
pub made_and_written : {T E F : Type 0} (r : Result T E) (made : Result T F) (P Q X : Type 0) → OnOk r (IsOk made) → OnOk r P → OnOk made Q → (P → Q → X) → OnOk r X
made_and_written (Ok x) (Ok y) P Q X a p q f = f p q
made_and_written (Ok x) (Err e) P Q X a p q f = absurd (true≢false (sym a))
made_and_written (Err e) made P Q X a p q f = tt

pub on_err : {T E : Type 0} (r : Result T E) (P X : Type 0) → OnErr r P → (P → X) → OnErr r X
on_err (Ok x) P X p f = tt
on_err (Err e) P X p f = f p

pub of_made : {T E : Type 0} (made : Result T E) (Q : Type 0) → IsOk made → OnOk made Q → Q
of_made (Ok x) Q is q = q
of_made (Err e) Q is q = absurd (true≢false (sym is))

pub err_holds : {T E : Type 0} (r : Result T E) (X : Type 0) → X → OnErr r X
err_holds (Ok x) X p = tt
err_holds (Err e) X p = p
