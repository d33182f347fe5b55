use Rattle.std.proofs.Common.{◌≡◌, ◌∙◌, ap, sym, subst, arith, set, get_or, take, drop}
use Rattle.abt_cell.specs.Codec.{draft_of, written_of}
use Rattle.abt_cell.specs.Division.{remainder_of}
use Rattle.abt_cell.specs.Layout.{payload_of}
use Rattle.abt_cell.specs.Polynomial.{polynomial_of, IsRemainder}
use Rattle.abt_cell.specs.Reading.{IsWritten}
use Rattle.abt_cell.proofs.Written.{drafted, put-octet, written}
use Rattle.abt_cell.proofs.Only.{only-written}
use Rattle.abt_cell.proofs.write.checked.Goals as goal

pub returns-clause-cell : goal.returns-clause-cell
returns-clause-cell c =
    let bytes = c.to_be_bytes.ensures in
    rw bytes (put-octet _ 51 _ (omega arith) (omega arith) (put-octet c.draft-octets.result 50 _ (omega arith) (omega arith) c.draft-octets.ensures.cell))

-- what is returned is the draft with that check
is_draft : (c : goal.After-to_be_bytes) → set (set c.draft-octets.result 50 (get_or c.to_be_bytes.result 0 0)) 51 (get_or c.to_be_bytes.result 1 0) ≡ draft_of c.args.rm.now c.remainder-check.result
is_draft c =
    let bytes = c.to_be_bytes.ensures in
    rw (bytes, c.draft-octets.ensures.value) (drafted c.args.rm.now c.remainder-check.result)

remains : (c : goal.After-to_be_bytes) → IsRemainder (polynomial_of (payload_of (draft_of c.args.rm.now 0))) c.remainder-check.result
remains c =
    subst (λ xs. IsRemainder (polynomial_of (take 48 (drop 4 xs))) c.remainder-check.result) c.draft-octets.ensures.value c.remainder-check.ensures.remainder

is_written : (c : goal.After-to_be_bytes) → IsWritten c.args.rm.now (draft_of c.args.rm.now c.remainder-check.result)
is_written c = written c.args.rm.now c.remainder-check.result c.draft-octets.ensures.sayable (remains c)

pub returns-clause-value : goal.returns-clause-value
unfolding written_of
returns-clause-value c =
    is_draft c ∙ ap (draft_of c.args.rm.now) (subst (λ xs. c.remainder-check.result ≡ remainder_of (take 48 (drop 4 xs))) c.draft-octets.ensures.value c.remainder-check.ensures.value)

pub returns-clause-only : goal.returns-clause-only
returns-clause-only c =
    let is = is_written c in
    rw (is_draft c) (record {
      written = is;
      only_cell = λ other other_is so. only-written c.args.rm.now c.remainder-check.result c.draft-octets.ensures.sayable (remains c) other other_is so;
      only_reading = λ other reads. sym reads.content ∙ is.reads.content;
    })
