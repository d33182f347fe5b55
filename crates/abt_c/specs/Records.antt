-- The records of requests and answers that C programs see.
use Rattle.std.specs.Prelude.{◌≡◌, ℕ, ◌<◌, ◌≤◌, ◌^◌, ◌==◌, ◌⊎◌, if◌then◌else◌}
use Rattle.abt_rate.specs.Code.{code_of}
use Rattle.abt_rate.specs.Rate.{units_of}
use Rattle.abt_cell.specs.Codec.{request_of}
use Rattle.abt_cell.specs.Message.{Terms, Reply}
use Rattle.abt_cell.specs.declared.message.Rm.{Rm}
use Rattle.abt_cell.specs.declared.message.Rm.TheVariants.{Request, Answer}
use Rattle.abt_c.specs.declared.record.AbtRm.{AbtRm}

-- The kinds: a request, a yes to one, and a no.
abbrev pub request_kind : ℕ
request_kind = 1

abbrev pub yes_kind : ℕ
yes_kind = 2

abbrev pub no_kind : ℕ
no_kind = 3

abbrev pub HasKind : AbtRm → Type 0
HasKind r = (r.kind ≡ request_kind) ⊎ ((r.kind ≡ yes_kind) ⊎ (r.kind ≡ no_kind))

-- what a record says
abbrev pub terms_in : AbtRm → Terms
terms_in r =
    record { vc = record { vpi = r.vpi; vci = r.vci }; seq = r.seq; floor = units_of r.floor; ask = units_of r.ask }

abbrev pub rm_in : AbtRm → Rm
rm_in r =
    if r.kind == request_kind then Request (terms_in r)
    else Answer (record { terms = terms_in r; granted = r.kind == yes_kind })

-- the answer, if it is one
abbrev pub reply_in : AbtRm → Reply
reply_in r = record { terms = terms_in r; granted = r.kind == yes_kind }

-- the kind of a message
abbrev pub kind_of : Rm → ℕ
kind_of (Request terms) = request_kind
kind_of (Answer reply) = if reply.granted then yes_kind else no_kind

-- the record of a message, with canonical codes
abbrev pub record_of : Rm → AbtRm
record_of rm = let terms = request_of rm in record {
  kind = kind_of rm;
  seq = terms.seq;
  vpi = terms.vc.vpi;
  vci = terms.vc.vci;
  floor = code_of terms.floor;
  ask = code_of terms.ask;
}

-- A record can be written if it says a message; what it lacks for that, in the order in which it is looked for.
abbrev pub HasVpi : AbtRm → Type 0
HasVpi r = HasKind r × (r.vpi < 2 ^ 12)

abbrev pub HasSeq : AbtRm → Type 0
HasSeq r = HasVpi r × (0 < r.seq)

abbrev pub IsMessage : AbtRm → Type 0
IsMessage r = HasSeq r × (units_of r.floor ≤ units_of r.ask)

-- What makes a record an answer: its kind, and what it lacks otherwise.
abbrev pub HasAnswerKind : AbtRm → Type 0
HasAnswerKind r = (r.kind ≡ yes_kind) ⊎ (r.kind ≡ no_kind)

abbrev pub IsAnswer : AbtRm → Type 0
IsAnswer r = HasAnswerKind r × IsMessage r

-- It is a request.
abbrev pub IsRequest : AbtRm → Type 0
IsRequest r = (r.kind ≡ request_kind) × IsMessage r
