-- One letter more is written behind those before it, or a part of it.
use Rattle.std.proofs.Common.{◌∙◌, ◌++◌, ℕ, List, Result, Ok, Err, OnErr, ap, length, subst, sym, take}
use Rattle.std.proofs.KnownBytes.{Appends-trans}
use Rattle.std.proofs.lemmas.Iterator.{YieldsList-from_chars}
use Rattle.std.proofs.lemmas.Iterator.Consumers.{YieldsList-end, YieldsList-so_far, YieldsList-turn}
use Rattle.std.proofs.lemmas.List.{map-id}
use Rattle.std.specs.Char.{encode_utf8}
use Rattle.std.specs.Io.KnownBytes.{Appends}
use Rattle.std.specs.Str.{chars}
use Rattle.abt_text.specs.Streams.{AppendsPrefix}
use Rattle.abt_files.specs.Shown.{shown_letter}
use Rattle.abt_files.proofs.Letters.{breaks_off, letters, letters_more}
use Rattle.abt_files.proofs.telling.put_shown.Goals as goal

-- What holds anyway holds if there is a fault.
err_holds : {T E : Type 0} (result : Result T E) (P : Type 0) → P → OnErr result P
err_holds (Ok x) P p = tt
err_holds (Err e) P p = p

pub loop-letter-preserved : goal.loop-letter-preserved
loop-letter-preserved g c =
    let ys = c.loop-letter.yielded in
    let octets = ap (λ (x : ℕ). letters ys ++ encode_utf8 x) c.shown_letter.ensures ∙ sym (letters_more ys c.in-Some.letter) in
    subst (Appends _ _) octets (Appends-trans _ _ _ _ _ c.loop-letter.invariant c.in_ok-put_letter.ensures.ok)

pub returns-in_err-put_letter-clause-err : goal.returns-in_err-put_letter-clause-err
returns-in_err-put_letter-clause-err g c =
    let text = c.args.text.now in
    let ys = c.loop-letter.yielded in
    let road = YieldsList-from_chars text c.utf8.text cc in
    let turn = YieldsList-turn road ys _ c.loop-letter.yielded_by _ _ c.in-Some.letter c.in-Some.is c.next.ensures.steps in
    let front = sym (map-id ys) ∙ YieldsList-so_far road ys _ c.loop-letter.yielded_by in
    let old = g.W.Write.contents c.args.writer.now in
    let between = g.W.Write.contents c.loop-letter.writer in
    let new = g.W.Write.contents c.put_letter.new.writer in
    let before : Appends old between (letters (take (length ys) (chars text))) =
    subst (λ (xs : List ℕ). Appends old between (letters xs)) front c.loop-letter.invariant in
    let part : AppendsPrefix between new (encode_utf8 (shown_letter c.in-Some.letter)) =
    subst (λ (x : ℕ). AppendsPrefix between new (encode_utf8 x)) c.shown_letter.ensures c.in_err-put_letter.ensures.err in
    let broken : AppendsPrefix old new (letters (chars text)) =
    breaks_off old between new (chars text) (length ys) c.in-Some.letter turn.0 turn.1 before part in
    err_holds c.from_residual.result (AppendsPrefix old new (letters (chars text))) broken

pub returns-clause-ok : goal.returns-clause-ok
returns-clause-ok g c =
    let text = c.args.text.now in
    let ys = c.loop-letter.yielded in
    let all = YieldsList-end (YieldsList-from_chars text c.utf8.text cc) ys _ c.loop-letter.yielded_by _ _ c.in-None.is c.next.ensures.steps in
    let old = g.W.Write.contents c.args.writer.now in
    let new = g.W.Write.contents c.loop-letter.writer in
    subst (λ (xs : List ℕ). Appends old new (letters xs)) (sym (map-id ys) ∙ all.0) c.loop-letter.invariant
