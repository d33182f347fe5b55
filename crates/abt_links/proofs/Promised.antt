-- Promises that are added one by one, and what they come to when they are kept.
use Rattle.std.proofs.Common.{◌≡◌, ℕ, ◌+◌, List, [], ◌∷◌, ◌++◌, length, map, Option, None, Some, option_map, slice_get, Result, Ok, Err, IfOk, IfErr, IfSome, IsSome, inl, inr, refl, sym, ap, subst, ◌∙◌, arith}
use Rattle.std.specs.Prelude.{◌⊎◌}
use Rattle.std.specs.Option.{ForSome}
use Rattle.std.proofs.lemmas.List.{map-append, length-map}
use Rattle.abt_net.specs.Topology.{Topology}
use Rattle.abt_journal.specs.Receipts.{Seated}
use Rattle.abt_journal.specs.declared.fault.ServeFault.{ServeFault}
use Rattle.abt_journal.specs.declared.fault.ServeFault.TheVariants.{Wound, Memory}
use Rattle.abt_model.specs.declared.script_command.Command.{Command}
use Rattle.abt_history.specs.Sites.{SiteView}
use Rattle.abt_links.specs.Faults.{IsRight, run_fault, graver, fault_in, fault_among, given_back, fault_told}
use Rattle.abt_links.specs.Promises.{IsAccess, AreLinksFrom, AreAccessesFrom, KeepEachLink, KeepEachAccess, KeepItsOperator, IsOperator, KeepLinks, KeepAccesses, AreSourcesFrom, AreLinkSeatsFrom, AreWorked, IsOwn, IsLate, IsOwnFault, WoundsRight}
use Rattle.abt_links.specs.declared.fault.RunFault.{RunFault}
use Rattle.abt_links.specs.Lines.{AreNumberedFrom}
use Rattle.abt_links.specs.declared.fault.RunFault.TheVariants.{Workers, Scripts, Operator, Thread, Wound as RunWound, Gather, Memory as RunMemory}
use Rattle.abt_links.specs.declared.worker_results.WorkerResults.{WorkerResults}
use Rattle.abt_links.specs.declared.promises.AccessOf.{AccessOf}
use Rattle.abt_links.specs.declared.promises.LinkOf.{LinkOf}
use Rattle.abt_links.specs.declared.promises.OperatorOf.{OperatorOf}

pub links-snoc : (n : ℕ) (ps : List LinkOf) (p : LinkOf) → AreLinksFrom n ps → p.caller ≡ n + length ps → AreLinksFrom n (ps ++ p ∷ [])
links-snoc n [] p h here = (omega arith, tt)
links-snoc n (q ∷ ps) p h here = (h.0, links-snoc (n + 1) ps p h.1 (omega arith))

accesses-snoc : (net : Topology) (n : ℕ) (ss : List (List Command)) (ps : List AccessOf) (p : AccessOf) → AreAccessesFrom net n ss ps → p.conn ≡ n + length ps → p.net.value ≡ net
    → slice_get ss (length ps) ≡ Some p.script.value → AreAccessesFrom net n ss (ps ++ p ∷ [])
accesses-snoc net n [] [] p h here own is = absurd (cc)
accesses-snoc net n (s ∷ ss) [] p h here own is =
    let same : s ≡ p.script.value = cc in (omega arith, own, sym same, tt)
accesses-snoc net n [] (q ∷ ps) p h here own is = absurd h
accesses-snoc net n (s ∷ ss) (q ∷ ps) p h here own is = (h.0, h.1, h.2, accesses-snoc net (n + 1) ss ps p h.3 (omega arith) own is)

pub links-push : {H : Type 0} (f : H → LinkOf) (n : ℕ) (hs ks : List H) (h : H) → ks ≡ hs ++ h ∷ [] → AreLinksFrom n (map f hs) → (f h).caller ≡ n + length hs → AreLinksFrom n (map f ks)
links-push f n hs ks h grown all here =
    rw (grown, map-append f hs (h ∷ [])) (links-snoc n (map f hs) (f h) all (omega (arith, here, length-map hs f)))

pub accesses-push : {H : Type 0} (f : H → AccessOf) (net : Topology) (ss : List (List Command)) (hs ks : List H) (h : H) → ks ≡ hs ++ h ∷ [] → AreAccessesFrom net 0 ss (map f hs) → (f h).conn ≡ length hs
    → (f h).net.value ≡ net → (place : ℕ) → place ≡ length hs → slice_get ss place ≡ Some (f h).script.value → AreAccessesFrom net 0 ss (map f ks)
accesses-push f net ss hs ks h grown all here own place at is =
    let long : length (map f hs) ≡ length hs = length-map hs f in
    let there : slice_get ss (length (map f hs)) ≡ Some (f h).script.value = ap (slice_get ss) (long ∙ sym at) ∙ is in
    rw (grown, map-append f hs (h ∷ [])) (accesses-snoc net 0 ss (map f hs) (f h) all (omega (arith, here, long)) own there)

-- promises in order, that were kept
pub links_kept : (n : ℕ) (ps : List LinkOf) (ss : List Seated) → AreLinksFrom n ps → KeepLinks ps ss → AreLinkSeatsFrom n ss × (length ss ≡ length ps)
links_kept n [] [] a k = (tt, refl)
links_kept n [] (s ∷ ss) a k = absurd k
links_kept n (p ∷ ps) [] a k = absurd k
links_kept n (p ∷ ps) (s ∷ ss) a k =
    let h = links_kept (n + 1) ps ss a.1 k.1 in
    ((record { own = k.0.own ∙ a.0; messages = k.0.messages }, h.0), omega arith)

access_is : (net other : Topology) (c d : ℕ) (script said : List Command) (seat : Seated) (journal : SiteView) → d ≡ c → other ≡ net → said ≡ script → IsAccess other d said seat journal → IsAccess net c script seat journal
access_is net other c d script said seat journal at own is h =
    let P : ℕ → Type 0 = λ k. IsAccess other k said seat journal in
    let Q : Topology → Type 0 = λ t. IsAccess t c said seat journal in
    let R : List Command → Type 0 = λ s. IsAccess net c s seat journal in
    subst R is (subst Q own (subst P at h))

pub sources_kept : (net : Topology) (n : ℕ) (cs : List (List Command)) (ps : List AccessOf) (ss : List Seated) (js : List SiteView) → AreAccessesFrom net n cs ps → length ps ≡ length cs → KeepAccesses ps ss js
    → AreSourcesFrom net n cs ss js
sources_kept net n [] [] [] [] a l k = tt
sources_kept net n [] [] [] (j ∷ js) a l k = absurd k
sources_kept net n [] [] (s ∷ ss) js a l k = absurd k
sources_kept net n [] (p ∷ ps) ss js a l k = absurd (omega arith)
sources_kept net n (c ∷ cs) [] ss js a l k = absurd (omega arith)
sources_kept net n (c ∷ cs) (p ∷ ps) [] js a l k = absurd k
sources_kept net n (c ∷ cs) (p ∷ ps) (s ∷ ss) [] a l k = absurd k
sources_kept net n (c ∷ cs) (p ∷ ps) (s ∷ ss) (j ∷ js) a l k =
    (access_is net p.net.value n p.conn c p.script.value s j a.0 a.1 a.2 k.0, sources_kept net (n + 1) cs ps ss js a.3 (omega arith) k.1)

-- faults of workers that kept their promises

graver_none : (a b : Option ServeFault) → graver a b ≡ None → (a ≡ None) × (b ≡ None)
graver_none None b none = (refl, none)
graver_none (Some (Wound seen short)) b none = absurd (cc)
graver_none (Some Memory) None none = absurd (cc)
graver_none (Some Memory) (Some other) none = absurd (cc)

graver_right : (a b : Option ServeFault) → ForSome a IsRight → ForSome b IsRight → ForSome (graver a b) IsRight
graver_right None b ra rb = rb
graver_right (Some (Wound seen short)) b ra rb = ra
graver_right (Some Memory) None ra rb = ra
graver_right (Some Memory) (Some other) ra rb = rb

fault_right : {A : Type 0} (r : Result A ServeFault) → WoundsRight r → ForSome (fault_in r) IsRight
fault_right {A} (Ok given) right x is = absurd (cc)
fault_right {A} (Err (Wound seen short)) right x is =
    let same : Wound seen short ≡ x = cc in
    let P : ServeFault → Type 0 = IsRight in subst P same (right seen short refl)
fault_right {A} (Err Memory) right x is =
    let same : Memory ≡ x = cc in
    let P : ServeFault → Type 0 = IsRight in subst P same tt

links_right : (ps : List LinkOf) (rs : List (Result Seated ServeFault)) → KeepEachLink ps rs → ForSome (fault_among rs) IsRight
links_right [] [] k = λ x is. absurd (cc)
links_right [] (r ∷ rs) k = absurd k
links_right (p ∷ ps) [] k = absurd k
links_right (p ∷ ps) (r ∷ rs) k = graver_right (fault_in r) (fault_among rs) (fault_right r k.0.1) (links_right ps rs k.1)

accesses_right : (ps : List AccessOf) (rs : List (Result (Seated × SiteView) ServeFault)) → KeepEachAccess ps rs → ForSome (fault_among rs) IsRight
accesses_right [] [] k = λ x is. absurd (cc)
accesses_right [] (r ∷ rs) k = absurd k
accesses_right (p ∷ ps) [] k = absurd k
accesses_right (p ∷ ps) (r ∷ rs) k = graver_right (fault_in r) (fault_among rs) (fault_right r k.0.1) (accesses_right ps rs k.1)

-- where no worker had a fault
keep_links : (ps : List LinkOf) (rs : List (Result Seated ServeFault)) → KeepEachLink ps rs → fault_among rs ≡ None → KeepLinks ps (given_back rs)
keep_links [] [] k none = tt
keep_links [] (r ∷ rs) k none = absurd k
keep_links (p ∷ ps) [] k none = absurd k
keep_links (p ∷ ps) (Ok seat ∷ rs) k none = (k.0.0, keep_links ps rs k.1 none)
keep_links (p ∷ ps) (Err fault ∷ rs) k none = absurd (let h : Some fault ≡ None = (graver_none (Some fault) (fault_among rs) none).0 in cc)

keep_accesses : (ps : List AccessOf) (rs : List (Result (Seated × SiteView) ServeFault)) → KeepEachAccess ps rs → fault_among rs ≡ None
    → KeepAccesses ps (map (λ (r : Seated × SiteView). r.0) (given_back rs)) (map (λ (r : Seated × SiteView). r.1) (given_back rs))
keep_accesses [] [] k none = tt
keep_accesses [] (r ∷ rs) k none = absurd k
keep_accesses (p ∷ ps) [] k none = absurd k
keep_accesses (p ∷ ps) (Ok given ∷ rs) k none = (k.0.0, keep_accesses ps rs k.1 none)
keep_accesses (p ∷ ps) (Err fault ∷ rs) k none = absurd (let h : Some fault ≡ None = (graver_none (Some fault) (fault_among rs) none).0 in cc)

unmapped : (fault : Option ServeFault) → option_map run_fault fault ≡ None → fault ≡ None
unmapped None none = refl
unmapped (Some fault) none = absurd (cc)

mapped_own : (told : Option ServeFault) (fault : RunFault) → ForSome told IsRight → option_map run_fault told ≡ Some fault → IsOwn fault
mapped_own None fault right is = absurd (cc)
mapped_own (Some (Wound seen short)) fault right is =
    let same : RunWound seen short ≡ fault = cc in
    let P : RunFault → Type 0 = IsOwn in subst P same (right (Wound seen short) refl)
mapped_own (Some Memory) fault right is =
    let same : RunMemory ≡ fault = cc in
    let P : RunFault → Type 0 = IsOwn in subst P same tt

-- no fault is told
pub none_told : (operator : Result Seated ServeFault) (ss : List (Result (Seated × SiteView) ServeFault)) (ls : List (Result Seated ServeFault)) → fault_told (Some operator) ss ls ≡ None
    → (fault_among ss ≡ None) × (fault_among ls ≡ None) × (fault_in operator ≡ None)
none_told operator ss ls none =
    let all = graver_none (graver (fault_among ss) (fault_among ls)) (fault_in operator) (unmapped (graver (graver (fault_among ss) (fault_among ls)) (fault_in operator)) none) in
    let handles = graver_none (fault_among ss) (fault_among ls) all.0 in
    (handles.0, handles.1, all.1)

-- where no fault is told, the operator gave its seat back
seat_given : (operator : Result Seated ServeFault) → fault_in operator ≡ None → (seat : Seated) × (operator ≡ Ok seat)
seat_given (Ok seat) none = (seat, refl)
seat_given (Err fault) none = absurd (cc)

pub operator_given : (operator : Option (Result Seated ServeFault)) (ss : List (Result (Seated × SiteView) ServeFault)) (ls : List (Result Seated ServeFault)) → fault_told operator ss ls ≡ None
    → (seat : Seated) × (operator ≡ Some (Ok seat))
operator_given None ss ls none = absurd (cc)
operator_given (Some operator) ss ls none =
    let given = seat_given operator (none_told operator ss ls none).2 in (given.0, ap Some given.1)

-- the fault that is told is one of the workers themselves
told_own : (ps : List AccessOf) (qs : List LinkOf) (o : Option OperatorOf) (operator : Option (Result Seated ServeFault))
    (ss : List (Result (Seated × SiteView) ServeFault)) (ls : List (Result Seated ServeFault)) (fault : RunFault)
    → KeepEachAccess ps ss → KeepEachLink qs ls → KeepItsOperator o operator → fault_told operator ss ls ≡ Some fault → IsOwn fault
told_own ps qs o None ss ls fault kept linked ran told =
    let same : Thread ≡ fault = cc in
    let P : RunFault → Type 0 = IsOwn in subst P same tt
told_own ps qs None (Some operator) ss ls fault kept linked ran told = absurd ran
told_own ps qs (Some p) (Some operator) ss ls fault kept linked ran told =
    let handles = graver_right (fault_among ss) (fault_among ls) (accesses_right ps ss kept) (links_right qs ls linked) in
    mapped_own (graver (graver (fault_among ss) (fault_among ls)) (fault_in operator)) fault
    (graver_right (graver (fault_among ss) (fault_among ls)) (fault_in operator) handles (fault_right operator ran.1)) told

-- the operator's seat keeps its promise
operator_kept : (caller : ℕ) (operations : List (ℕ × ℕ)) (o : Option OperatorOf) (seat : Seated) → IfSome o (λ p. (p.caller ≡ caller) × (p.operations.now ≡ operations))
    → KeepItsOperator o (Some (Ok seat)) → IsOperator caller operations seat
operator_kept caller operations None seat promised ran = absurd ran
operator_kept caller operations (Some p) seat promised ran =
    let P : ℕ → Type 0 = λ c. IsOperator c p.operations.now seat in
    let Q : List (ℕ × ℕ) → Type 0 = λ list. IsOperator caller list seat in
    subst Q promised.1 (subst P promised.0 ran.0)

-- only an operator that was promised gave something back
promised_there : (o : Option OperatorOf) (operator : Result Seated ServeFault) → KeepItsOperator o (Some operator) → IsSome o
promised_there None operator ran = absurd ran
promised_there (Some p) operator ran = refl

-- what all workers gave back, who kept their promises
worked_is : {K F T : Type 0} (net : Topology) (scripts : List (List Command)) (operations : List (ℕ × ℕ)) (workers : ℕ) (ps : List AccessOf) (qs : List LinkOf) (o : Option OperatorOf) (seat : Seated)
    (ss : List (Result (Seated × SiteView) ServeFault)) (ls : List (Result Seated ServeFault)) (worked : WorkerResults K F T)
    → AreAccessesFrom net 0 scripts ps → AreLinksFrom (length net.conns) qs → IfSome o (λ p. (p.caller ≡ length net.conns + workers) × (p.operations.now ≡ operations))
    → (IsSome o → (length ps ≡ length scripts) × (length qs ≡ workers))
    → KeepEachAccess ps ss → KeepEachLink qs ls → KeepItsOperator o (Some (Ok seat)) → fault_told (Some (Ok seat)) ss ls ≡ None
    → worked.accesses.items ≡ map (λ (r : Seated × SiteView). r.0) (given_back ss) → worked.sites.items ≡ map (λ (r : Seated × SiteView). r.1) (given_back ss)
    → worked.links.items ≡ given_back ls → worked.operator ≡ seat → AreWorked net scripts operations workers worked
worked_is net scripts operations workers ps qs o seat ss ls worked a b promised all kept linked ran none seats journals links own =
    let clean = none_told (Ok seat) ss ls none in
    let counts = all (promised_there o (Ok seat) ran) in
    let accesses = keep_accesses ps ss kept clean.0 in
    let h = links_kept (length net.conns) qs (given_back ls) b (keep_links qs ls linked clean.1) in
    let P : Seated → Type 0 = IsOperator (length net.conns + workers) operations in
    record {
      sources = rw (seats, journals) (sources_kept net 0 scripts ps (map (λ (r : Seated × SiteView). r.0) (given_back ss)) (map (λ (r : Seated × SiteView). r.1) (given_back ss)) a counts.0 accesses);
      links = rw links h.0;
      count = ap length links ∙ h.1 ∙ counts.1;
      operator = subst P (sym own) (operator_kept (length net.conns + workers) operations o seat promised ran);
    }

-- what a run tells of joined workers
cases_told : (told : Option RunFault) → (told ≡ None) ⊎ ((fault : RunFault) × (told ≡ Some fault))
cases_told None = inl refl
cases_told (Some fault) = inr (fault, refl)

pub worked_or : {K F T : Type 0} (net : Topology) (scripts : List (List Command)) (operations : List (ℕ × ℕ)) (workers : ℕ) (ps : List AccessOf) (qs : List LinkOf) (o : Option OperatorOf) (operator : Option (Result Seated ServeFault))
    (ss : List (Result (Seated × SiteView) ServeFault)) (ls : List (Result Seated ServeFault)) (result : Result (WorkerResults K F T) RunFault)
    → AreAccessesFrom net 0 scripts ps → AreLinksFrom (length net.conns) qs → IfSome o (λ p. (p.caller ≡ length net.conns + workers) × (p.operations.now ≡ operations))
    → (IsSome o → (length ps ≡ length scripts) × (length qs ≡ workers))
    → KeepEachAccess ps ss → KeepEachLink qs ls → KeepItsOperator o operator → ((fault : RunFault) → fault_told operator ss ls ≡ Some fault → result ≡ Err fault)
    → IfOk result (λ w. w.accesses.items ≡ map (λ (r : Seated × SiteView). r.0) (given_back ss))
    → IfOk result (λ w. w.sites.items ≡ map (λ (r : Seated × SiteView). r.1) (given_back ss))
    → IfOk result (λ w. w.links.items ≡ given_back ls) → IfOk result (λ w. operator ≡ Some (Ok w.operator)) → IfOk result (AreWorked net scripts operations workers)
worked_or net scripts operations workers ps qs o operator ss ls (Err fault) a b promised all kept linked ran told seats journals links own = tt
worked_or net scripts operations workers ps qs o operator ss ls (Ok worked) a b promised all kept linked ran told seats journals links own = elim (cases_told (fault_told operator ss ls)) [
  | inl none ↦ (
      let P : Option (Result Seated ServeFault) → Type 0 = λ given. KeepItsOperator o given in
      worked_is net scripts operations workers ps qs o worked.operator ss ls worked a b promised all kept linked (subst P own ran)
      (ap (λ given. fault_told given ss ls) (sym own) ∙ none) seats journals links refl
      )
  | inr some ↦ absurd (let clash = told some.0 some.1 in cc)
]

pub own_or : {K F T : Type 0} (ps : List AccessOf) (qs : List LinkOf) (o : Option OperatorOf) (operator : Option (Result Seated ServeFault))
    (ss : List (Result (Seated × SiteView) ServeFault)) (ls : List (Result Seated ServeFault)) (result : Result (WorkerResults K F T) RunFault)
    → KeepEachAccess ps ss → KeepEachLink qs ls → KeepItsOperator o operator → ((fault : RunFault) → fault_told operator ss ls ≡ Some fault → result ≡ Err fault)
    → (fault_told operator ss ls ≡ None → IfErr result (λ fault. fault ≡ RunMemory)) → IsOwnFault result
own_or ps qs o operator ss ls (Ok worked) kept linked ran told none = tt
own_or ps qs o operator ss ls (Err fault) kept linked ran told none = elim (cases_told (fault_told operator ss ls)) [
  | inl clean ↦ (let P : RunFault → Type 0 = IsOwn in subst P (sym (none clean)) tt)
  | inr some ↦ (
      let same : fault ≡ some.0 = (let e = told some.0 some.1 in cc) in
      let P : RunFault → Type 0 = IsOwn in subst P (sym same) (told_own ps qs o operator ss ls some.0 kept linked ran some.1))
]

-- what is promised of a handle is promised
pub promised_of : {H : Type 0} (f : H → OperatorOf) (o : Option H) (caller most : ℕ) (operations : List (ℕ × ℕ)) → caller ≡ most → IfSome o (λ h. ((f h).caller ≡ caller) × ((f h).operations.now ≡ operations))
    → IfSome (option_map f o) (λ p. (p.caller ≡ most) × (p.operations.now ≡ operations))
promised_of f None caller most operations same promised = tt
promised_of f (Some h) caller most operations same promised = (promised.0 ∙ same, promised.1)

-- the sources that were given back are those of their connections
pub sources_numbered : (net : Topology) (n : ℕ) (scripts : List (List Command)) (seats : List Seated) (sites : List SiteView) → AreSourcesFrom net n scripts seats sites → AreNumberedFrom n sites
sources_numbered net n [] [] [] ran = tt
sources_numbered net n [] [] (s ∷ sites) ran = absurd ran
sources_numbered net n [] (t ∷ seats) sites ran = absurd ran
sources_numbered net n (c ∷ scripts) [] sites ran = absurd ran
sources_numbered net n (c ∷ scripts) (t ∷ seats) [] ran = absurd ran
sources_numbered net n (c ∷ scripts) (t ∷ seats) (s ∷ sites) ran = (ran.0.own, sources_numbered net (n + 1) scripts seats sites ran.1)

pub sources_counted : (net : Topology) (n : ℕ) (scripts : List (List Command)) (seats : List Seated) (sites : List SiteView) → AreSourcesFrom net n scripts seats sites → length sites ≡ length scripts
sources_counted net n [] [] [] ran = refl
sources_counted net n [] [] (s ∷ sites) ran = absurd ran
sources_counted net n [] (t ∷ seats) sites ran = absurd ran
sources_counted net n (c ∷ scripts) [] sites ran = absurd ran
sources_counted net n (c ∷ scripts) (t ∷ seats) [] ran = absurd ran
sources_counted net n (c ∷ scripts) (t ∷ seats) (s ∷ sites) ran = let h = sources_counted net (n + 1) scripts seats sites ran.1 in omega arith

-- a fault of the workers comes after what is asked for was looked at
pub own_late : (fault : RunFault) → IsOwn fault → IsLate fault
own_late Workers own = own
own_late Scripts own = own
own_late Operator own = own
own_late Thread own = own
own_late (RunWound seen found) own = own
own_late (Gather fault) own = absurd own
own_late RunMemory own = own

-- the fault that is told, as it is worked out
pub told_is : (o : Option (Result Seated ServeFault)) (op : Result Seated ServeFault) (ss xs : List (Result (Seated × SiteView) ServeFault)) (ls ys : List (Result Seated ServeFault)) (a b h i r : Option ServeFault) (f : ServeFault) (t : RunFault)
    → o ≡ Some op → xs ≡ ss → ys ≡ ls → a ≡ fault_among xs → b ≡ fault_among ys → h ≡ graver a b → i ≡ fault_in op → r ≡ graver h i → r ≡ Some f → t ≡ run_fault f → Some t ≡ fault_told o ss ls
told_is o op ss xs ls ys a b h i r f t there one two first second both own all some told =
    let a_is : a ≡ fault_among ss = first ∙ ap fault_among one in
    let b_is : b ≡ fault_among ls = second ∙ ap fault_among two in
    let h_is : h ≡ graver (fault_among ss) (fault_among ls) = both ∙ (λ k. graver (a_is k) (b_is k)) in
    let r_is : r ≡ graver (graver (fault_among ss) (fault_among ls)) (fault_in op) = all ∙ (λ k. graver (h_is k) (own k)) in
    let whole : graver (graver (fault_among ss) (fault_among ls)) (fault_in op) ≡ Some f = sym r_is ∙ some in
    subst (λ x. Some t ≡ fault_told x ss ls) (sym there) (ap Some told ∙ sym (ap (option_map run_fault) whole))

-- a fault that comes late
pub late_at : {A : Type 0} (r : Result A RunFault) (fault : RunFault) → IfErr r IsLate → r ≡ Err fault → IsLate fault
late_at {A} r fault late is = (let P : Result A RunFault → Type 0 = λ x. IfErr x IsLate in subst P is late)

pub own_all_late : {A : Type 0} (r : Result A RunFault) → IsOwnFault r → IfErr r IsLate
own_all_late {A} (Ok x) own = tt
own_all_late {A} (Err fault) own = own_late fault own

pub some_of : {A B : Type 0} (f : A → B) (o : Option A) → IsSome (option_map f o) → IsSome o
some_of f None is = absurd (cc)
some_of f (Some x) is = refl
