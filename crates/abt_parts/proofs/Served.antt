-- What goes out of a run of steps is what a function of the lines says.
use Rattle.std.proofs.Common.{◌≡◌, ◌+◌, ℕ, ◌++◌, List, [], ◌∷◌, Option, refl, sym, ◌∙◌, ap, subst}
use Rattle.std.specs.Prelude.{None, Result, Ok, Err, OnOk, OnErr}
use Rattle.abt_node.specs.Table.{Table, new_table}
use Rattle.abt_gcra.specs.Policing.{Policing, fresh_policing}
use Rattle.abt_shaper.specs.Shaping.{Shaping}
use Rattle.abt_lines.specs.Lines.{seen_lines}
use Rattle.abt_lines.specs.Runs.{IsAnswering}
use Rattle.abt_lines.specs.Served.{IsServed, IsServedPart, ServesAll, ServesPart}
use Rattle.abt_lines.proofs.Runs.{all_served, part_served}
use Rattle.abt_parts.specs.Cells.{EndsReading, EndsServing, ReadsLine, ServesLine, message_on, read_lines, read_text, served_lines, served_past, served_text, total_text}
use Rattle.abt_parts.specs.Lines.{IsAnswer, answers_of, numbered}
use Rattle.abt_parts.specs.Police.{EndsPolicing, PolicesLine, policed_lines, policed_past, policed_text}
use Rattle.abt_parts.specs.Shape.{EndsShaping, ShapesLine, shaped_lines, shaped_past, shaped_text}
use Rattle.abt_parts.specs.declared.cells.ReadLines.{ReadLines}
use Rattle.abt_parts.specs.declared.police.PolicedLines.{PolicedLines}
use Rattle.abt_parts.specs.declared.serve.ServedLines.{ServedLines}
use Rattle.abt_parts.specs.declared.shape.ShapedLines.{ShapedLines}

pub on_ok : {T E : Type 0} (r : Result T E) (P Q : Type 0) → OnOk r P → (P → Q) → OnOk r Q
on_ok (Ok x) P Q p f = f p
on_ok (Err e) P Q p f = tt

pub on_err : {T E : Type 0} (r : Result T E) (P Q : Type 0) → OnErr r P → (P → Q) → OnErr r Q
on_err (Ok x) P Q p f = tt
on_err (Err e) P Q p f = f p

one_more : {Kept : Type 0} (answer : Kept → Option (List ℕ) → List ℕ) (next : Kept → Option (List ℕ) → Kept) (last : Kept → List ℕ) (old new : Kept)
    (number : ℕ) (line : Option (List ℕ)) (said : List ℕ) → IsAnswer answer next old number line said new → (more : List (Option (List ℕ)))
    → answers_of answer next last old number (line ∷ more) ≡ said ++ answers_of answer next last new (number + 1) more
one_more answer next last old new number line said (is, then) more =
    ap (λ t. t ++ answers_of answer next last (next old line) (number + 1) more) (sym is)
    ∙ ap (λ kept. said ++ answers_of answer next last kept (number + 1) more) (sym then)

pub polices : IsAnswering PolicesLine EndsPolicing (λ lines. policed_lines lines.held lines.policer)
polices = record {
  stepped = λ old new number line said step more.
      one_more (policed_text old.held) (policed_past old.held) (λ _. []) old.policer new.policer number line said step.0 more
      ∙ ap (λ held. said ++ policed_lines held new.policer (number + 1) more) (sym step.1);
  ended = λ last number said is. sym is;
}

pub shapes : IsAnswering ShapesLine EndsShaping (λ lines. shaped_lines lines.rate lines.shaper)
shapes = record {
  stepped = λ old new number line said step more.
      one_more (shaped_text old.rate) (shaped_past old.rate) (λ _. []) old.shaper new.shaper number line said step.0 more
      ∙ ap (λ rate. said ++ shaped_lines rate new.shaper (number + 1) more) (sym step.1);
  ended = λ last number said is. sym is;
}

pub reads : IsAnswering ReadsLine EndsReading (λ _. read_lines)
reads = record {
  stepped = λ old new number line said is more. ap (λ t. t ++ read_lines (number + 1) more) (sym is);
  ended = λ last number said is. sym is;
}

pub serves : IsAnswering ServesLine EndsServing (λ lines. served_lines lines.port)
serves = record {
  stepped = λ old new number line said step more. one_more served_text served_past total_text old.port new.port number line said step more;
  ended = λ last number said is. sym is;
}

pub policed_all : (tau rate : ℕ) (first last : PolicedLines) (left old new : Option (List ℕ)) → first.policer ≡ fresh_policing tau → first.held ≡ rate
    → ServesAll PolicesLine EndsPolicing first last left old new → IsServed (λ source. policed_lines rate (fresh_policing tau) 1 (seen_lines source)) left old new
policed_all tau rate first last left old new is held all =
    subst (λ p. IsServed (λ source. policed_lines rate p 1 (seen_lines source)) left old new) is
    (subst (λ r. IsServed (λ source. policed_lines r first.policer 1 (seen_lines source)) left old new) held
    (all_served PolicesLine EndsPolicing (λ lines. policed_lines lines.held lines.policer) polices first last left old new all))

pub policed_part : (tau rate : ℕ) (first : PolicedLines) (left old new : Option (List ℕ)) → first.policer ≡ fresh_policing tau → first.held ≡ rate
    → ServesPart PolicesLine EndsPolicing first left old new → IsServedPart (λ source. policed_lines rate (fresh_policing tau) 1 (seen_lines source)) left old new
policed_part tau rate first left old new is held part =
    subst (λ p. IsServedPart (λ source. policed_lines rate p 1 (seen_lines source)) left old new) is
    (subst (λ r. IsServedPart (λ source. policed_lines r first.policer 1 (seen_lines source)) left old new) held
    (part_served PolicesLine EndsPolicing (λ lines. policed_lines lines.held lines.policer) polices first left old new part))

pub shaped_all : (shaping : Shaping) (rate : ℕ) (first last : ShapedLines) (left old new : Option (List ℕ)) → first.shaper ≡ shaping → first.rate ≡ rate
    → ServesAll ShapesLine EndsShaping first last left old new → IsServed (λ source. shaped_lines rate shaping 1 (seen_lines source)) left old new
shaped_all shaping rate first last left old new is at all =
    subst (λ s. IsServed (λ source. shaped_lines rate s 1 (seen_lines source)) left old new) is
    (subst (λ r. IsServed (λ source. shaped_lines r first.shaper 1 (seen_lines source)) left old new) at
    (all_served ShapesLine EndsShaping (λ lines. shaped_lines lines.rate lines.shaper) shapes first last left old new all))

pub shaped_part : (shaping : Shaping) (rate : ℕ) (first : ShapedLines) (left old new : Option (List ℕ)) → first.shaper ≡ shaping → first.rate ≡ rate
    → ServesPart ShapesLine EndsShaping first left old new → IsServedPart (λ source. shaped_lines rate shaping 1 (seen_lines source)) left old new
shaped_part shaping rate first left old new is at part =
    subst (λ s. IsServedPart (λ source. shaped_lines rate s 1 (seen_lines source)) left old new) is
    (subst (λ r. IsServedPart (λ source. shaped_lines r first.shaper 1 (seen_lines source)) left old new) at
    (part_served ShapesLine EndsShaping (λ lines. shaped_lines lines.rate lines.shaper) shapes first left old new part))

pub read_all : (first last : ReadLines) (left old new : Option (List ℕ)) → ServesAll ReadsLine EndsReading first last left old new
    → IsServed (λ source. read_lines 1 (seen_lines source)) left old new
read_all first last left old new all = all_served ReadsLine EndsReading (λ _. read_lines) reads first last left old new all

pub read_part : (first : ReadLines) (left old new : Option (List ℕ)) → ServesPart ReadsLine EndsReading first left old new
    → IsServedPart (λ source. read_lines 1 (seen_lines source)) left old new
read_part first left old new part = part_served ReadsLine EndsReading (λ _. read_lines) reads first left old new part

pub served_all : (table : Table) (first last : ServedLines) (left old new : Option (List ℕ)) → first.port ≡ table
    → ServesAll ServesLine EndsServing first last left old new → IsServed (λ source. served_lines table 1 (seen_lines source)) left old new
served_all table first last left old new is all =
    subst (λ t. IsServed (λ source. served_lines t 1 (seen_lines source)) left old new) is
    (all_served ServesLine EndsServing (λ lines. served_lines lines.port) serves first last left old new all)

pub served_part : (table : Table) (first : ServedLines) (left old new : Option (List ℕ)) → first.port ≡ table
    → ServesPart ServesLine EndsServing first left old new → IsServedPart (λ source. served_lines table 1 (seen_lines source)) left old new
served_part table first left old new is part =
    subst (λ t. IsServedPart (λ source. served_lines t 1 (seen_lines source)) left old new) is
    (part_served ServesLine EndsServing (λ lines. served_lines lines.port) serves first left old new part)
