-- A list with a word that is no number has no numbers.
use Rattle.std.proofs.Common.{◌≡◌, ℕ, List, map, subst, sym, arith}
use Rattle.std.specs.Prelude.{◌⊎◌, Ok, Err, Result, IfErr, IsErrAnd}
use Rattle.std.specs.Borrow.{Bor}
use Rattle.abt_perform.specs.declared.plan.WordsFault.{WordsFault}
use Rattle.abt_perform.specs.declared.plan.WordsFault.TheVariants.{Memory}
use Rattle.abt_cli.specs.Words.{AreNumbers}
use Rattle.abt_cli.proofs.Listed.{no_word}
use Rattle.abt_cli.proofs.readers.numbers_of.Goals as goal

carried : {T : Type 0} (P : WordsFault → Type 0) (r : Result T WordsFault) (fault : WordsFault) → IsErrAnd r (λ told. told ≡ fault) → P fault → IfErr r P
carried P (Ok value) fault same holds = tt
carried P (Err told) fault same holds = subst P (sym same) holds

pub returns-in_err-number-clause-err : goal.returns-in_err-number-clause-err
returns-in_err-number-clause-err c =
    carried (λ fault. (fault ≡ Memory) ⊎ ((numbers : List ℕ) → AreNumbers (map (λ (word : Bor (List ℕ)). word.now) c.args.words.now) numbers → ⊥))
    c.from_residual-in_err-number.result c.in_err-number.field-0.0 c.from_residual-in_err-number.ensures.1
    (no_word c.args.words.now c.loop-word.word-index _ c.in_err-number.field-0.0 (omega (arith, c.loop-word-test.true)) c.in_err-number.ensures.err)
