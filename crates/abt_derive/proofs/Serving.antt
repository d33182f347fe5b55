-- What steps of ports serve.
use Rattle.std.proofs.Common.{◌≡◌, ◌≢◌, ℕ, zero, suc, ◌+◌, ◌<◌, ◌≤◌, ◌++◌, ◌∙◌, Bool, true, false, cond, List, [], ◌∷◌, length, map, get_or, take, drop, refl, sym, ap, subst, arith, append_assoc, append-nil, inl, inr, eq-eqb, add-one}
use Rattle.std.proofs.lemmas.Bool.{false≢true, cases_eq}
use Rattle.std.proofs.lemmas.Bool.Decides.{nat_tests}
use Rattle.std.proofs.lemmas.List.{drop_all, take_all, take_more}
use Rattle.std.proofs.lemmas.Option.{slice_get_read}
use Rattle.std.proofs.lemmas.List.Elements.{filter_map-append}
use Rattle.std.specs.Prelude.{Option, None, Some, Vec, option_and_then, option_map, filter_map, slice_get, slice_set, slice_index_or, nat_eq}
use Rattle.std.specs.List.{cons_option}
use Rattle.std.specs.declared.alloc.Global.{Global}
use Rattle.abt_cell.specs.Channel.{Channel, same_channel}
use Rattle.abt_cell.proofs.ChannelLemmas.{same_channel-is, same_channel-refl}
use Rattle.abt_journal.specs.declared.entry.Entry.{Entry}
use Rattle.abt_net.specs.Topology.{Topology, conn_at, channel_at}
use Rattle.abt_net.specs.declared.conn.Conn.{Conn}
use Rattle.abt_derive.specs.declared.served.Served.{Served}
use Rattle.abt_derive.specs.Serves.{IsServedMore, IsServedOfAll, first_of, of_channel, served_along, served_at, served_in, served_of_port, served_on}

-- what one step serves
served_one : (b same : Bool) (one : Served) → List Served
served_one b same one = cond b (cons_option (cond same (Some one) None) []) []

none_elsewhere : (b same : Bool) (one : Served) → (b ≡ true → same ≡ true → ⊥) → cond b (cons_option (cond same (Some one) None) []) [] ≡ []
none_elsewhere true true one never = absurd (never refl refl)
none_elsewhere true false one never = refl
none_elsewhere false same one never = refl

one_here : (b same : Bool) (one : Served) → b ≡ true → same ≡ true → cond b (cons_option (cond same (Some one) None) []) [] ≡ one ∷ []
one_here true true one here is = refl
one_here true false one here is = absurd (false≢true is)
one_here false same one here is = absurd (false≢true here)

of_one : (port : ℕ) (step : Entry) (conn : Conn) (vc : Channel) (one : Served) → served_in step ≡ Some (vc, one)
    → served_of_port port (step ∷ []) conn ≡ cond (nat_eq (first_of conn) port) (cons_option (cond (same_channel vc conn.vc) (Some one) None) []) []
of_one port step conn vc one is =
    ap (λ o. cond (nat_eq (first_of conn) port) (cons_option (option_and_then (of_channel conn.vc) o) []) []) is

of_none : (port : ℕ) (step : Entry) (conn : Conn) → served_in step ≡ None → served_of_port port (step ∷ []) conn ≡ []
of_none port step conn is =
    none_by (nat_eq (first_of conn) port) (option_and_then (of_channel conn.vc) (served_in step)) (ap (option_and_then (of_channel conn.vc)) is)
  where
    none_by : (b : Bool) (o : Option Served) → o ≡ None → cond b (cons_option o []) [] ≡ []
    none_by true o e = ap (λ found. cons_option found []) e
    none_by false o e = refl

-- nothing is served of any connection
pub serves_none : (net : Topology) (port : ℕ) (step : Entry) (lists : List (Vec Served Global)) → served_in step ≡ None → IsServedMore net port step lists lists
serves_none net port step lists is = λ c conn known. sym (append-nil (served_at lists c)) ∙ ap (λ more. served_at lists c ++ more) (sym (of_none port step conn is))

channel_is : (net : Topology) (c : ℕ) (conn : Conn) → conn_at net c ≡ Some conn → channel_at net.conns c ≡ Some conn.vc
channel_is net c conn known = ap (option_map (λ (one : Conn). one.vc)) known

-- the channel is that of no connection
pub serves_nobody : (net : Topology) (port : ℕ) (step : Entry) (lists : List (Vec Served Global)) (vc : Channel) (one : Served)
    → served_in step ≡ Some (vc, one) → ((c : ℕ) → channel_at net.conns c ≡ Some vc → ⊥) → IsServedMore net port step lists lists
serves_nobody net port step lists vc one is none = λ c conn known.
    sym (append-nil (served_at lists c))
    ∙ ap (λ more. served_at lists c ++ more)
    (sym (of_one port step conn vc one is ∙ none_elsewhere (nat_eq (first_of conn) port) (same_channel vc conn.vc) one
    (λ here same. none c (channel_is net c conn known ∙ ap Some (sym (same_channel-is vc conn.vc same))))))

number_is : (a b : ℕ) → nat_eq a b ≡ true → a ≡ b
number_is a b is = grind (arith, nat_tests)

same_of : {A : Type 0} (a b : A) → Some a ≡ Some b → a ≡ b
same_of a b e = cc

-- the port isn't the first one of its path
pub serves_elsewhere : (net : Topology) (port : ℕ) (step : Entry) (lists : List (Vec Served Global)) (vc : Channel) (one : Served) (number : ℕ) (at : Conn)
    → served_in step ≡ Some (vc, one) → ((c : ℕ) → channel_at net.conns c ≡ Some vc → Some number ≡ Some c) → conn_at net number ≡ Some at
    → first_of at ≢ port → IsServedMore net port step lists lists
serves_elsewhere net port step lists vc one number at is only known other = λ c conn here.
    sym (append-nil (served_at lists c))
    ∙ ap (λ more. served_at lists c ++ more)
    (sym (of_one port step conn vc one is ∙ none_elsewhere (nat_eq (first_of conn) port) (same_channel vc conn.vc) one
    (λ first same. other (first_is c conn here first (same_of _ _ (only c (channel_is net c conn here ∙ ap Some (sym (same_channel-is vc conn.vc same)))))))))
  where
    first_is : (c : ℕ) (conn : Conn) → conn_at net c ≡ Some conn → nat_eq (first_of conn) port ≡ true → number ≡ c → first_of at ≡ port
    first_is c conn here first same =
        ap first_of (same_of _ _ (sym known ∙ ap (conn_at net) same ∙ here)) ∙ number_is (first_of conn) port first

put_here : (lists : List (Vec Served Global)) (n : ℕ) (list : Vec Served Global) → n < length lists → served_at (slice_set lists n list) n ≡ list.items
put_here [] n list low = absurd (omega (arith, low))
put_here (x ∷ lists) zero list low = refl
put_here (x ∷ lists) (suc n) list low = put_here lists n list (omega (arith, low))

put_elsewhere : (lists : List (Vec Served Global)) (n c : ℕ) (list : Vec Served Global) → n ≢ c → served_at (slice_set lists n list) c ≡ served_at lists c
put_elsewhere [] n c list other = refl
put_elsewhere (x ∷ lists) zero zero list other = absurd (other refl)
put_elsewhere (x ∷ lists) zero (suc c) list other = refl
put_elsewhere (x ∷ lists) (suc n) zero list other = refl
put_elsewhere (x ∷ lists) (suc n) (suc c) list other = put_elsewhere lists n c list (λ same. other (ap suc same))

got_here : (lists : List (Vec Served Global)) (n : ℕ) (list other : Vec Served Global) → n < length lists → list ≡ get_or lists n other
    → served_at lists n ≡ list.items
got_here [] n list other low is = absurd (omega (arith, low))
got_here (x ∷ lists) zero list other low is = ap (λ (v : Vec Served Global). v.items) (sym is)
got_here (x ∷ lists) (suc n) list other low is = got_here lists n list other (omega (arith, low)) is

-- it is put behind what the connection was served
pub serves_one : (net : Topology) (port : ℕ) (step : Entry) (lists : List (Vec Served Global)) (vc : Channel) (one : Served) (number : ℕ) (at : Conn)
    (old other new : Vec Served Global) → served_in step ≡ Some (vc, one) → ((c : ℕ) → channel_at net.conns c ≡ Some vc → Some number ≡ Some c)
    → channel_at net.conns number ≡ Some vc → conn_at net number ≡ Some at → first_of at ≡ port → number < length lists → old ≡ get_or lists number other
    → new.items ≡ old.items ++ one ∷ [] → IsServedMore net port step lists (slice_set lists number new)
serves_one net port step lists vc one number at old other new is only value known first low read put = λ c conn here.
    elim (cases_eq number c) [ inl same ↦ at_it c conn here same | inr apart ↦ beside c conn here apart ]
  where
    conn_is : (c : ℕ) (conn : Conn) → conn_at net c ≡ Some conn → number ≡ c → at ≡ conn
    conn_is c conn here same = same_of _ _ (sym known ∙ ap (conn_at net) same ∙ here)

    at_it : (c : ℕ) (conn : Conn) → conn_at net c ≡ Some conn → number ≡ c
        → served_at (slice_set lists number new) c ≡ served_at lists c ++ served_of_port port (step ∷ []) conn
    at_it c conn here same =
        let e = conn_is c conn here same in
        let vc_is : vc ≡ conn.vc = same_of _ _ (sym value ∙ channel_is net number at known) ∙ ap (λ (k : Conn). k.vc) e in
        subst (λ n. served_at (slice_set lists number new) n ≡ served_at lists n ++ served_of_port port (step ∷ []) conn) same
        (put_here lists number new low ∙ put ∙ ap (λ items. items ++ one ∷ []) (sym (got_here lists number old other low read))
        ∙ ap (λ more. served_at lists number ++ more)
        (sym (of_one port step conn vc one is ∙ one_here (nat_eq (first_of conn) port) (same_channel vc conn.vc) one
        (ap (λ (k : Conn). nat_eq (first_of k) port) (sym e) ∙ ap (λ n. nat_eq n port) first ∙ eq-eqb port port refl)
        (ap (same_channel vc) (sym vc_is) ∙ same_channel-refl vc))))

    beside : (c : ℕ) (conn : Conn) → conn_at net c ≡ Some conn → number ≢ c
        → served_at (slice_set lists number new) c ≡ served_at lists c ++ served_of_port port (step ∷ []) conn
    beside c conn here apart =
        put_elsewhere lists number c new apart ∙ sym (append-nil (served_at lists c))
        ∙ ap (λ more. served_at lists c ++ more)
        (sym (of_one port step conn vc one is ∙ none_elsewhere (nat_eq (first_of conn) port) (same_channel vc conn.vc) one
        (λ first same. apart (same_of _ _ (only c (channel_is net c conn here ∙ ap Some (sym (same_channel-is vc conn.vc same))))))))

-- ---- several steps

of_both : (port : ℕ) (steps more : List Entry) (conn : Conn) → served_of_port port (steps ++ more) conn ≡ served_of_port port steps conn ++ served_of_port port more conn
of_both port steps more conn = both_by (nat_eq (first_of conn) port) (filter_map-append (served_on conn.vc) steps more)
  where
    both_by : (b : Bool) → filter_map (served_on conn.vc) (steps ++ more) ≡ filter_map (served_on conn.vc) steps ++ filter_map (served_on conn.vc) more
        → cond b (filter_map (served_on conn.vc) (steps ++ more)) [] ≡ cond b (filter_map (served_on conn.vc) steps) [] ++ cond b (filter_map (served_on conn.vc) more) []
    both_by true is = is
    both_by false is = refl

no_steps : (port : ℕ) (conn : Conn) → served_of_port port [] conn ≡ []
no_steps port conn = none_by (nat_eq (first_of conn) port)
  where
    none_by : (b : Bool) → cond b (filter_map (served_on conn.vc) []) [] ≡ []
    none_by true = refl
    none_by false = refl

-- before the first step
pub serves_nothing : (net : Topology) (port : ℕ) (lists : List (Vec Served Global)) → IsServedOfAll net port [] lists lists
serves_nothing net port lists = λ c conn known. sym (append-nil (served_at lists c)) ∙ ap (λ more. served_at lists c ++ more) (sym (no_steps port conn))

-- a step more
pub serves_next : (net : Topology) (port : ℕ) (steps : List Entry) (n : ℕ) (step : Entry) (old mid new : List (Vec Served Global)) → n < length steps
    → step ≡ get_or steps n step → IsServedOfAll net port (take n steps) old mid → IsServedMore net port step mid new
    → IsServedOfAll net port (take (n + 1) steps) old new
serves_next net port steps n step old mid new low is so more = λ c conn known.
    let whole : take (n + 1) steps ≡ take n steps ++ step ∷ [] = take_more steps n step low ∙ ap (λ (s : Entry). take n steps ++ s ∷ []) (sym is) in
    more c conn known ∙ ap (λ items. items ++ served_of_port port (step ∷ []) conn) (so c conn known)
    ∙ append_assoc (served_at old c) (served_of_port port (take n steps) conn) (served_of_port port (step ∷ []) conn)
    ∙ ap (λ items. served_at old c ++ items)
    (sym (of_both port (take n steps) (step ∷ []) conn) ∙ ap (λ ss. served_of_port port ss conn) (sym whole))

-- ---- several ports

-- what the first ports among these serve
abbrev pub AreServedSoFar : Topology → List (List Entry) → List (Vec Served Global) → Type 0
AreServedSoFar net ports lists = (c : ℕ) (conn : Conn) → conn_at net c ≡ Some conn → served_at lists c ≡ served_along ports conn

got_there : {A : Type 0} (lists : List (List A)) (list : List A) (n : ℕ) → n ≡ length lists
    → slice_index_or (lists ++ list ∷ []) n [] ≡ slice_index_or lists n [] ++ list
got_there [] list zero is = refl
got_there [] list (suc n) is = absurd (omega (arith, is))
got_there (x ∷ lists) list zero is = absurd (omega (arith, is))
got_there (x ∷ lists) list (suc n) is = got_there lists list n (omega (arith, is))

got_before : {A : Type 0} (lists : List (List A)) (list : List A) (n : ℕ) → n ≢ length lists
    → slice_index_or (lists ++ list ∷ []) n [] ≡ slice_index_or lists n []
got_before [] list zero other = absurd (other refl)
got_before [] list (suc n) other = refl
got_before (x ∷ lists) list zero other = refl
got_before (x ∷ lists) list (suc n) other = got_before lists list n (λ same. other (ap suc same))

pub nothing_more : (lists : List (Vec Served Global)) (list : Vec Served Global) → ((c : ℕ) → served_at lists c ≡ []) → list.items ≡ []
    → (c : ℕ) → served_at (lists ++ list ∷ []) c ≡ []
nothing_more [] list none is zero = is
nothing_more [] list none is (suc c) = refl
nothing_more (x ∷ lists) list none is zero = none 0
nothing_more (x ∷ lists) list none is (suc c) = nothing_more lists list (λ k. none (suc k)) is c

pub first_ports : (net : Topology) (lists : List (Vec Served Global)) → ((c : ℕ) → served_at lists c ≡ []) → AreServedSoFar net [] lists
first_ports net lists none = λ c conn known. none c

-- a port more
pub next_port : (net : Topology) (ports : List (List Entry)) (steps : List Entry) (port : ℕ) (old new : List (Vec Served Global)) → port ≡ length ports
    → AreServedSoFar net ports old → IsServedOfAll net port steps old new → AreServedSoFar net (ports ++ steps ∷ []) new
next_port net ports steps port old new is so more = λ c conn known.
    more c conn known ∙ ap (λ items. items ++ served_of_port port steps conn) (so c conn known)
    ∙ along (nat_eq (first_of conn) port) conn refl
  where
    along : (b : Bool) (conn : Conn) → nat_eq (first_of conn) port ≡ b
        → served_along ports conn ++ cond b (filter_map (served_on conn.vc) steps) [] ≡ served_along (ports ++ steps ∷ []) conn
    along true conn here =
        sym (filter_map-append (served_on conn.vc) (slice_index_or ports (first_of conn) []) steps)
        ∙ ap (filter_map (served_on conn.vc)) (sym (got_there ports steps (first_of conn) (number_is (first_of conn) port here ∙ is)))
    along false conn here =
        append-nil (served_along ports conn) ∙ ap (filter_map (served_on conn.vc))
        (sym (got_before ports steps (first_of conn) (λ same. false≢true (sym here ∙ eq-eqb (first_of conn) port (same ∙ sym is)))))

mapped_more : (ports : List (Vec Entry Global)) (n : ℕ) (steps : Vec Entry Global) → n < length ports → steps ≡ get_or ports n steps
    → take (n + 1) (map (λ (items : Vec Entry Global). items.items) ports)
    ≡ take n (map (λ (items : Vec Entry Global). items.items) ports) ++ steps.items ∷ []
mapped_more [] n steps low is = absurd (omega (arith, low))
mapped_more (x ∷ ports) zero steps low is = ap (λ (items : Vec Entry Global). items.items ∷ []) (sym is)
mapped_more (x ∷ ports) (suc n) steps low is =
    rw add-one (ap (λ lists. x.items ∷ lists) (rw add-one at (mapped_more ports n steps (omega (arith, low)) is)))

taken : {A : Type 0} (xs : List A) (i : ℕ) → i ≤ length xs → length (take i xs) ≡ i
taken xs zero low = refl
taken [] (suc i) low = absurd (omega (arith, low))
taken (x ∷ xs) (suc i) low = ap suc (taken xs i (omega (arith, low)))

lists_length : (ports : List (Vec Entry Global)) → length (map (λ (items : Vec Entry Global). items.items) ports) ≡ length ports
lists_length [] = refl
lists_length (x ∷ ports) = ap suc (lists_length ports)

pub next_port_on : (net : Topology) (ports : List (Vec Entry Global)) (n : ℕ) (steps : Vec Entry Global) (list : List Entry) (old new : List (Vec Served Global))
    → n < length ports → steps ≡ get_or ports n steps → list ≡ steps.items
    → AreServedSoFar net (take n (map (λ (items : Vec Entry Global). items.items) ports)) old → IsServedOfAll net n list old new
    → AreServedSoFar net (take (n + 1) (map (λ (items : Vec Entry Global). items.items) ports)) new
next_port_on net ports n steps list old new low is here so more =
    let lists = map (λ (items : Vec Entry Global). items.items) ports in
    let all = lists_length ports in
    let count : n ≡ length (take n lists) = sym (taken lists n (omega (arith, low, all))) in
    subst (λ ps. AreServedSoFar net ps new) (sym (mapped_more ports n steps low is))
    (next_port net (take n lists) steps.items n old new count so (subst (λ ss. IsServedOfAll net n ss old new) here more))

pub all_ports : (net : Topology) (ports : List (Vec Entry Global)) (n : ℕ) (lists : List (Vec Served Global)) → length ports ≤ n
    → AreServedSoFar net (take n (map (λ (items : Vec Entry Global). items.items) ports)) lists
    → AreServedSoFar net (map (λ (items : Vec Entry Global). items.items) ports) lists
all_ports net ports n lists done is =
    let all = lists_length ports in
    subst (λ ps. AreServedSoFar net ps lists) (take_all n (map (λ (items : Vec Entry Global). items.items) ports) (omega (arith, done, all))) is

-- the connection of a number is the one that was read
pub conn_read : (net : Topology) (conns : List Conn) (n : ℕ) (x : Conn) → conns ≡ net.conns → n < length net.conns → x ≡ get_or conns n x → conn_at net n ≡ Some x
conn_read net conns n x same low is =
    subst (λ all. slice_get all n ≡ Some x) same
    (slice_get_read conns (length conns) n x refl (subst (λ all. n < length all) (sym same) low) is)

-- a whole slice was written
pub whole_slice : {A : Type 0} (xs old : List A) (n : ℕ) → length xs ≡ length old → n ≡ length old → take n (xs ++ drop (length xs) old) ≡ xs
whole_slice xs old n same here =
    ap (λ more. take n (xs ++ more)) (drop_all (length xs) old (omega (arith, same))) ∙ ap (take n) (append-nil xs) ∙ take_all n xs (omega (arith, same, here))
