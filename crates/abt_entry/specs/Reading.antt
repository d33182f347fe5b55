-- Readings of lines, and the result of a function that needs memory for them.
use Rattle.std.specs.Prelude.{Option, Some, None, Result, Ok, Err}
use Rattle.abt_text.specs.FirstFault.{GivesOr}
use Rattle.abt_entry.specs.declared.fault.LineFault.{LineFault}
use Rattle.abt_entry.specs.declared.fault.LineFault.TheVariants as fault
use Rattle.abt_entry.specs.declared.member.Member.{Member}

abbrev pub Read : Type 0 → Type 0
Read A = Result A LineFault

-- what is there, or else the fault of the member
abbrev pub needed : {A : Type 0} → Member → Option A → Read A
needed name (Some x) = Ok x
needed name None = Err (fault.Member name)

-- The result is the exact one, seen so, or memory was refused.
abbrev pub Gives : {A B : Type 0} → (B → A) → Read A → Read B → Type 0
Gives seen exact answer = GivesOr fault.Memory seen exact answer
