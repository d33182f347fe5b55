-- What goes out of a run of steps is what a function of the lines says, as objects.
use Rattle.std.proofs.Common.{◌≡◌, ◌+◌, ℕ, ◌++◌, List, [], ◌∷◌, Option, sym, ◌∙◌, ap, subst}
use Rattle.abt_node.specs.Table.{Table, new_table}
use Rattle.abt_gcra.specs.Policing.{Policing, fresh_policing}
use Rattle.abt_shaper.specs.Shaping.{Shaping}
use Rattle.abt_lines.specs.Lines.{seen_lines}
use Rattle.abt_lines.specs.Runs.{IsAnswering}
use Rattle.abt_lines.specs.Served.{IsServed, IsServedPart, ServesAll, ServesPart}
use Rattle.abt_lines.proofs.Runs.{all_served, part_served}
use Rattle.abt_parts.specs.Cells.{message_on, served_past}
use Rattle.abt_parts.specs.LineObjects.{IsObject, objects_of}
use Rattle.abt_parts.specs.PartObjects.{EndsByTotal, EndsSilent, PolicesObject, ReadsObject, ServesObject, ShapesObject, policed_object, policed_objects, read_object, read_objects, served_object, served_objects, shaped_object, shaped_objects, total_object}
use Rattle.abt_parts.specs.Police.{policed_past}
use Rattle.abt_parts.specs.Shape.{shaped_past}
use Rattle.abt_parts.specs.declared.police_objects.PolicedObjects.{PolicedObjects}
use Rattle.abt_parts.specs.declared.read_objects.ReadObjects.{ReadObjects}
use Rattle.abt_parts.specs.declared.serve_objects.ServedObjects.{ServedObjects}
use Rattle.abt_parts.specs.declared.shape_objects.ShapedObjects.{ShapedObjects}

one_more : {Kept : Type 0} (object : ℕ → Kept → Option (List ℕ) → List ℕ) (next : Kept → Option (List ℕ) → Kept) (last : Kept → List ℕ) (old new : Kept)
    (number : ℕ) (line : Option (List ℕ)) (said : List ℕ) → IsObject object next old number line said new → (more : List (Option (List ℕ)))
    → objects_of object next last old number (line ∷ more) ≡ said ++ objects_of object next last new (number + 1) more
one_more object next last old new number line said (is, then) more =
    ap (λ t. t ++ objects_of object next last (next old line) (number + 1) more) (sym is)
    ∙ ap (λ kept. said ++ objects_of object next last kept (number + 1) more) (sym then)

pub polices : IsAnswering PolicesObject EndsSilent (λ lines. policed_objects lines.held lines.policer)
polices = record {
  stepped = λ old new number line said step more.
      one_more (policed_object old.held) (policed_past old.held) (λ _. []) old.policer new.policer number line said step.0 more
      ∙ ap (λ held. said ++ policed_objects held new.policer (number + 1) more) (sym step.1);
  ended = λ last number said is. sym is;
}

pub shapes : IsAnswering ShapesObject EndsSilent (λ lines. shaped_objects lines.rate lines.shaper)
shapes = record {
  stepped = λ old new number line said step more.
      one_more (shaped_object old.rate) (shaped_past old.rate) (λ _. []) old.shaper new.shaper number line said step.0 more
      ∙ ap (λ rate. said ++ shaped_objects rate new.shaper (number + 1) more) (sym step.1);
  ended = λ last number said is. sym is;
}

pub reads : IsAnswering ReadsObject EndsSilent (λ _. read_objects)
reads = record {
  stepped = λ old new number line said is more. ap (λ t. t ++ read_objects (number + 1) more) (sym is);
  ended = λ last number said is. sym is;
}

pub serves : IsAnswering ServesObject EndsByTotal (λ lines. served_objects lines.port)
serves = record {
  stepped = λ old new number line said step more. one_more served_object served_past total_object old.port new.port number line said step more;
  ended = λ last number said is. sym is;
}

pub policed_all : (tau rate : ℕ) (first last : PolicedObjects) (left old new : Option (List ℕ)) → first.policer ≡ fresh_policing tau → first.held ≡ rate
    → ServesAll PolicesObject EndsSilent first last left old new → IsServed (λ source. policed_objects rate (fresh_policing tau) 1 (seen_lines source)) left old new
policed_all tau rate first last left old new is held all =
    subst (λ p. IsServed (λ source. policed_objects rate p 1 (seen_lines source)) left old new) is
    (subst (λ r. IsServed (λ source. policed_objects r first.policer 1 (seen_lines source)) left old new) held
    (all_served PolicesObject EndsSilent (λ lines. policed_objects lines.held lines.policer) polices first last left old new all))

pub policed_part : (tau rate : ℕ) (first : PolicedObjects) (left old new : Option (List ℕ)) → first.policer ≡ fresh_policing tau → first.held ≡ rate
    → ServesPart PolicesObject EndsSilent first left old new → IsServedPart (λ source. policed_objects rate (fresh_policing tau) 1 (seen_lines source)) left old new
policed_part tau rate first left old new is held part =
    subst (λ p. IsServedPart (λ source. policed_objects rate p 1 (seen_lines source)) left old new) is
    (subst (λ r. IsServedPart (λ source. policed_objects r first.policer 1 (seen_lines source)) left old new) held
    (part_served PolicesObject EndsSilent (λ lines. policed_objects lines.held lines.policer) polices first left old new part))

pub shaped_all : (shaping : Shaping) (rate : ℕ) (first last : ShapedObjects) (left old new : Option (List ℕ)) → first.shaper ≡ shaping → first.rate ≡ rate
    → ServesAll ShapesObject EndsSilent first last left old new → IsServed (λ source. shaped_objects rate shaping 1 (seen_lines source)) left old new
shaped_all shaping rate first last left old new is at all =
    subst (λ s. IsServed (λ source. shaped_objects rate s 1 (seen_lines source)) left old new) is
    (subst (λ r. IsServed (λ source. shaped_objects r first.shaper 1 (seen_lines source)) left old new) at
    (all_served ShapesObject EndsSilent (λ lines. shaped_objects lines.rate lines.shaper) shapes first last left old new all))

pub shaped_part : (shaping : Shaping) (rate : ℕ) (first : ShapedObjects) (left old new : Option (List ℕ)) → first.shaper ≡ shaping → first.rate ≡ rate
    → ServesPart ShapesObject EndsSilent first left old new → IsServedPart (λ source. shaped_objects rate shaping 1 (seen_lines source)) left old new
shaped_part shaping rate first left old new is at part =
    subst (λ s. IsServedPart (λ source. shaped_objects rate s 1 (seen_lines source)) left old new) is
    (subst (λ r. IsServedPart (λ source. shaped_objects r first.shaper 1 (seen_lines source)) left old new) at
    (part_served ShapesObject EndsSilent (λ lines. shaped_objects lines.rate lines.shaper) shapes first left old new part))

pub read_all : (first last : ReadObjects) (left old new : Option (List ℕ)) → ServesAll ReadsObject EndsSilent first last left old new
    → IsServed (λ source. read_objects 1 (seen_lines source)) left old new
read_all first last left old new all = all_served ReadsObject EndsSilent (λ _. read_objects) reads first last left old new all

pub read_part : (first : ReadObjects) (left old new : Option (List ℕ)) → ServesPart ReadsObject EndsSilent first left old new
    → IsServedPart (λ source. read_objects 1 (seen_lines source)) left old new
read_part first left old new part = part_served ReadsObject EndsSilent (λ _. read_objects) reads first left old new part

pub served_all : (table : Table) (first last : ServedObjects) (left old new : Option (List ℕ)) → first.port ≡ table
    → ServesAll ServesObject EndsByTotal first last left old new → IsServed (λ source. served_objects table 1 (seen_lines source)) left old new
served_all table first last left old new is all =
    subst (λ t. IsServed (λ source. served_objects t 1 (seen_lines source)) left old new) is
    (all_served ServesObject EndsByTotal (λ lines. served_objects lines.port) serves first last left old new all)

pub served_part : (table : Table) (first : ServedObjects) (left old new : Option (List ℕ)) → first.port ≡ table
    → ServesPart ServesObject EndsByTotal first left old new → IsServedPart (λ source. served_objects table 1 (seen_lines source)) left old new
served_part table first left old new is part =
    subst (λ t. IsServedPart (λ source. served_objects t 1 (seen_lines source)) left old new) is
    (part_served ServesObject EndsByTotal (λ lines. served_objects lines.port) serves first left old new part)
