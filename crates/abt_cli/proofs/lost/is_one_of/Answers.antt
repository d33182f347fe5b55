-- The files are looked through one by one.
use Rattle.std.proofs.Common.{◌≡◌, ◌∙◌, sym, ap, subst, refl, String, List}
use Rattle.std.specs.Prelude.{All, string_bytes}
use Rattle.std.specs.declared.alloc.Global.{Global}
use Rattle.std.proofs.lemmas.Bool.{false≢true}
use Rattle.std.proofs.lemmas.List.{take_all}
use Rattle.std.proofs.lemmas.List.Elements.{All-get_or, All-more}
use Rattle.std.proofs.lemmas.Slice.Eq.{bytes_eq-Decides}
use Rattle.abt_cli.proofs.lost.is_one_of.Goals as goal

pub returns-then-eq : goal.returns-then-eq
returns-then-eq c =
    let same = (bytes_eq-Decides _ _).0 (sym c.eq.ensures ∙ c.if-eq.true) in
    (λ _. (c.loop-file.file-index, c.file-item.result, c.loop-file-test.true, sym c.file-item.is, sym c.as_bytes.ensures.value ∙ same), λ _. refl)

pub loop-file-preserved : goal.loop-file-preserved
loop-file-preserved c =
    All-more (λ file. ¬ (string_bytes file ≡ c.args.name.now)) c.args.files.now c.loop-file.file-index c.file-item.result c.loop-file-test.true
    c.loop-file.invariant
    (λ same. false≢true (sym c.if-eq.false ∙ c.eq.ensures ∙ (bytes_eq-Decides _ _).1 (c.as_bytes.ensures.value ∙ ap string_bytes c.file-item.is ∙ same)))

pub returns : goal.returns
returns c =
    let other = λ (file : String Global). ¬ (string_bytes file ≡ c.args.name.now) in
    let all = subst (λ (files : List (String Global)). All other files) (take_all c.loop-file.file-index c.args.files.now c.loop-file-test.false) c.loop-file.invariant in
    (λ no. absurd (false≢true no), λ one. absurd (All-get_or other c.args.files.now one.0 one.1 one.2 all (ap string_bytes one.3 ∙ one.4)))
