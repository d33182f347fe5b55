-- The line of a fault of what is expected, if it is made.
use Rattle.std.proofs.Common.{◌≡◌, ℕ, Option, Result, Ok, Err, String, string_bytes}
use Rattle.std.specs.declared.alloc.Global.{Global}
use Rattle.std.specs.Prelude.{IfOk}
use Rattle.abt_text.specs.Text.{Text}
use Rattle.abt_check.specs.Tests.{IsFaultLine, fault_line}
use Rattle.abt_check.specs.declared.expectations.ExpectFault.{ExpectFault}

pub fault_told : {E : Type 0} (mark source : Text) (at : Option ℕ) (fault : ExpectFault) (result : Result (String Global) E)
    → IfOk result (λ text. string_bytes text ≡ fault_line mark source at fault)
    → IfOk result (λ text. IsFaultLine mark source fault (string_bytes text))
fault_told mark source at fault (Ok text) told = record { at = at; told = told }
fault_told mark source at fault (Err e) told = tt
