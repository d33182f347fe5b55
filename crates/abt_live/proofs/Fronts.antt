-- Where nothing, or not all, was written.
use Rattle.std.proofs.Common.{ℕ, List, [], refl, sym, inl, take, drop, take-append-drop, append-nil}
use Rattle.std.proofs.KnownBytes.{Appends-nil}
use Rattle.std.specs.Prelude.{Option, OnErr, Result, Ok, Err}
use Rattle.std.specs.Io.KnownBytes.{Appends}
use Rattle.abt_text.specs.Streams.{AppendsPrefix}
use Rattle.abt_lines.specs.Served.{AppendsFront}
use Rattle.abt_live.specs.declared.live_port.LivePort.{LivePort}
use Rattle.abt_live.specs.declared.switch_asked.SwitchAsked.{SwitchAsked}
use Rattle.abt_live.specs.declared.switch_asked.SwitchAsked.TheVariants.{Step, Wrong}
use Rattle.abt_live.specs.Journal.{CanWrite, JournalBegan}

-- nothing of a text was written
pub front_none : (known : Option (List ℕ)) (text : List ℕ) → AppendsFront known known text
front_none known text = record { printed = []; written = Appends-nil known; front = record { rest = text; is = refl } }

-- a part of it was
pub front_part : (old new : Option (List ℕ)) (text : List ℕ) → AppendsPrefix old new text → AppendsFront old new text
front_part old new text part = record {
  printed = take part.count text;
  written = part.front;
  front = record { rest = drop part.count text; is = sym (take-append-drop part.count text) };
}

-- all of it was
pub front_whole : (old new : Option (List ℕ)) (text : List ℕ) → Appends old new text → AppendsFront old new text
front_whole old new text all = record { printed = text; written = all; front = record { rest = []; is = sym (append-nil text) } }

can_be_silent : (ports : List LivePort) (asked : SwitchAsked) → CanWrite ports asked []
can_be_silent ports (Step id input cell) = inl refl
can_be_silent ports (Wrong fault) = refl

-- a switch that wrote nothing
pub silent : (ports : List LivePort) (asked : SwitchAsked) (known : Option (List ℕ)) → JournalBegan ports asked known known
silent ports asked known = ([], can_be_silent ports asked, front_none known [])

-- what holds holds at an error
pub on_err : {T E : Type 0} (r : Result T E) (P : Type 0) → P → OnErr r P
on_err (Ok x) P p = tt
on_err (Err e) P p = p
