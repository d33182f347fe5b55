-- Cells on lines are answered as those that are words.
use Rattle.std.proofs.Common.{◌≡◌, ◌+◌, ℕ, ◌++◌, List, [], ◌∷◌, map, refl, sym, ap}
use Rattle.std.specs.Prelude.{Some, Result, Ok, Err}
use Rattle.abt_cell.specs.declared.message.Rm.{Rm}
use Rattle.abt_node.specs.Table.{Table}
use Rattle.abt_text.specs.Text.{newline}
use Rattle.abt_perform.specs.CellText.{cell_text, cell_text_of, message_of}
use Rattle.abt_perform.specs.PortText.{fault_text, line_of, lines_from, table_past}
use Rattle.abt_perform.specs.declared.fault.Fault.{Fault}
use Rattle.abt_parts.specs.Cells.{read_text, served_lines}

pub served_as : (table : Table) (number : ℕ) (cells : List (List ℕ)) → served_lines table number (map Some cells) ≡ lines_from table number cells
served_as table number [] = refl
served_as table number (cell ∷ cells) =
    ap (λ more. line_of table number cell ++ more) (served_as (table_past table (message_of cell)) (number + 1) cells)

abbrev err_of : {T E : Type 0} → E → Result T E → E
err_of other (Ok x) = other
err_of other (Err e) = e

abbrev ok_of : {T E : Type 0} → T → Result T E → T
ok_of other (Ok x) = x
ok_of other (Err e) = other

read_as : (message : Result Rm Fault) (text : List ℕ) → cell_text_of message ≡ Ok text → text ≡ read_text message ++ newline
read_as (Ok rm) text is = sym (ap (ok_of []) is)
read_as (Err found) text is = absurd (cc is)

refused_as : (message : Result Rm Fault) (fault : Fault) → cell_text_of message ≡ Err fault → read_text message ≡ fault_text fault
refused_as (Ok rm) fault is = absurd (cc is)
refused_as (Err found) fault is = ap (λ answer. fault_text (err_of found answer)) is

pub cell_as : (hex text : List ℕ) → cell_text hex ≡ Ok text → text ≡ read_text (message_of hex) ++ newline
cell_as hex text is = read_as (message_of hex) text is

pub fault_as : (hex : List ℕ) (fault : Fault) → cell_text hex ≡ Err fault → read_text (message_of hex) ≡ fault_text fault
fault_as hex fault is = refused_as (message_of hex) fault is
