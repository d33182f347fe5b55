-- Receipts that grow by messages.
use Rattle.std.proofs.Common.{◌≡◌, Bool, true, nat_lt, get_or, length, arith, subst, ◌<◌, List, [], ◌∷◌, ◌++◌, All, ℕ, Option, Some, Result, Ok, Err, IfOk, OnErr, IsErrOf, IsErrAnd, ap, sym, refl, ◌∙◌}
use Rattle.std.proofs.lemmas.Bool.Decides.{nat_tests}
use Rattle.std.proofs.lemmas.Option.{slice_get-get_or}
use Rattle.std.proofs.lemmas.List.Elements.{All-push}
use Rattle.abt_cell.specs.declared.message.Rm.{Rm}
use Rattle.abt_journal.specs.Receipts.{Seated}
use Rattle.abt_journal.specs.declared.entry.Receipt.{Receipt}
use Rattle.abt_journal.specs.declared.fault.ServeFault.{ServeFault}
use Rattle.abt_serving.specs.Messages.{input_of}
use Rattle.abt_journal.specs.declared.input.PortReply.{PortReply}
use Rattle.abt_weave.specs.Projections.{past_of}
use Rattle.abt_serving.specs.Followed.{FollowsOn}
use Rattle.abt_history.specs.declared.deed.Deed.{Deed}
use Rattle.abt_history.specs.Histories.{happened}
use Rattle.abt_history.specs.Modes.{When}
use Rattle.abt_links.specs.Messages.{IsMessage}
use Rattle.abt_journal.specs.declared.fault.ServeFault.TheVariants.{Wound, Memory}
use Rattle.abt_net.specs.Topology.{Topology}
use Rattle.abt_links.specs.Cells.{AreCellsOf}
use Rattle.abt_links.specs.Deliveries.{served_in}
use Rattle.abt_links.specs.Receiving.{HasReceipt}
use Rattle.abt_links.specs.declared.port_cell.PortCellOf.{PortCellOf}
use Rattle.abt_links.proofs.Wounds.{handed_on}

messages_stay : (old new : List Receipt) → new ≡ old → All IsMessage old → All IsMessage new
messages_stay old new same all = rw same all

messages-push : (old new : List Receipt) (r : Receipt) (message : Rm) → new ≡ old ++ r ∷ [] → r.entry.input ≡ input_of message → All IsMessage old → All IsMessage new
messages-push old new r message grown is all = rw grown (All-push IsMessage old r all (message, is))

-- whatever came of a message that a port was to serve
pub messages-served : {A : Type 0} (served : Result A ServeFault) (old new : Seated) (port : ℕ) (message : Rm)
    → IfOk served (λ x. HasReceipt old new port (input_of message)) → OnErr served (new ≡ old) → All IsMessage old.receipts → All IsMessage new.receipts
messages-served {A} (Ok x) old new port message grown same all =
    messages-push old.receipts new.receipts _ message (ap (λ (s : Seated). s.receipts) grown.is) refl all
messages-served {A} (Err fault) old new port message grown same all = messages_stay old.receipts new.receipts (ap (λ (s : Seated). s.receipts) same) all

-- who was the caller
pub caller-served : {A : Type 0} (served : Result A ServeFault) (old new : Seated) (port : ℕ) (message : Rm)
    → IfOk served (λ x. HasReceipt old new port (input_of message)) → OnErr served (new ≡ old) → new.caller ≡ old.caller
caller-served {A} (Ok x) old new port message grown same = ap (λ (s : Seated). s.caller) grown.is
caller-served {A} (Err fault) old new port message grown same = ap (λ (s : Seated). s.caller) same

-- why a worker ends: a Wound as it came
wound_in : {A : Type 0} (served : Result A ServeFault) (fault : ServeFault) → served_in served ≡ Err fault → (served ≡ Err fault) × (fault ≡ Memory → ⊥)
wound_in {A} (Ok x) fault is = absurd (cc)
wound_in {A} (Err Memory) fault is = absurd (cc)
wound_in {A} (Err (Wound seen found)) fault is = (let same : Wound seen found ≡ fault = cc in (ap Err same, λ h. (let e = same ∙ h in cc)))

pub wound-served : {A B : Type 0} (served : Result A ServeFault) (taken : Unit {0}) (fault : ServeFault) (r : Result B ServeFault) → served_in served ≡ Err fault → IsErrAnd r (λ told. told ≡ fault)
    → ((seen found : ℕ) → IsErrOf served (Wound seen found) → found < seen) → (seen found : ℕ) → IsErrOf r (Wound seen found) → found < seen
wound-served {A} {B} served taken fault r is same right seen found of =
    right seen found ((wound_in served fault is).0 ∙ ap Err (handed_on r fault seen found same of))

pub memory-served : {A B : Type 0} (served : Result A ServeFault) (taken : Unit {0}) (fault : ServeFault) (r : Result B ServeFault) → served_in served ≡ Err fault → IsErrAnd r (λ told. told ≡ fault) → IsErrOf r Memory → ⊥
memory-served {A} {B} served taken fault (Ok x) is same of = absurd same
memory-served {A} {B} served taken fault (Err told) is same of = (let e : Err told ≡ Err Memory = of in let h : told ≡ Memory = cc in (wound_in served fault is).1 (sym same ∙ h))

-- the cell at a port's place
below : (a b : ℕ) → true ≡ nat_lt a b → a < b
below a b test = grind (arith, nat_tests)

pub at_its_port : {K F T : Type 0} (net : Topology) (cells : List (PortCellOf K F T)) (port : ℕ) (cell : PortCellOf K F T) → AreCellsOf net cells → true ≡ nat_lt port (length cells) → cell ≡ get_or cells port cell → port ≡ cell.port
at_its_port {K} {F} {T} net cells port cell are test is = sym (are.each port cell (slice_get-get_or cells port cell (below port (length cells) test) ∙ ap Some (sym is)))

-- what follows the reply that was served
pub follows-served : {F : Type 0} (b : Bool) (net : Topology) (log : F → List Deed) (served : Result (PortReply × F) ServeFault) (seat : Seated) (taken : Unit {0}) (reply : PortReply) (front : F) (port p : ℕ) (message m : Rm)
    → served ≡ Ok (reply, front) → IfOk served (λ r. When b (FollowsOn net (past_of net (happened (log r.1))) port message r.0)) → p ≡ port → m ≡ message
    → When b (FollowsOn net (past_of net (happened (log front))) p m reply)
follows-served {F} b net log served seat taken reply front port p message m is follows at same =
    let P : Result (PortReply × F) ServeFault → Type 0 = λ r. IfOk r (λ x. When b (FollowsOn net (past_of net (happened (log x.1))) port message x.0)) in
    let Q : ℕ → Type 0 = λ n. When b (FollowsOn net (past_of net (happened (log front))) n message reply) in
    let R : Rm → Type 0 = λ n. When b (FollowsOn net (past_of net (happened (log front))) p n reply) in
    subst R (sym same) (subst Q (sym at) (subst P is follows))

pub served_there : {A : Type 0} (served : Result A ServeFault) (x : A) (taken : Result (Option A) ServeFault) → taken ≡ served_in served → taken ≡ Ok (Some x) → served ≡ Ok x
served_there {A} (Ok y) x taken is some = (let e = sym is ∙ some in let h : y ≡ x = cc in ap Ok h)
served_there {A} (Err Memory) x taken is some = absurd (let e = sym is ∙ some in cc)
served_there {A} (Err (Wound seen found)) x taken is some = absurd (let e = sym is ∙ some in cc)
