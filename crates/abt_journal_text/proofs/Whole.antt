-- The lines of whole journals are taken in one after the other, and tell just these.
use Rattle.std.proofs.Common.{◌≡◌, ◌≢◌, inl, ℕ, suc, ◌+◌, ◌<◌, ◌≤◌, ◌^◌, ◌++◌, ◌∙◌, List, [], ◌∷◌, length, map, replicate, refl, sym, ap, subst, arith, append_assoc, append-nil, length-append, false, None, Some}
use Rattle.std.specs.Prelude.{All, slice_get, slice_index_or, slice_set}
use Rattle.std.proofs.lemmas.List.Elements.{All-cons, All-head, All-tail, All-weaker}
use Rattle.json.specs.Json.{Json}
use Rattle.abt_rate.specs.Limits.{ports_max, net_connections_max}
use Rattle.abt_text.specs.Text.{Text}
use Rattle.abt_net.specs.Topology.{Topology, IsWithinRules, IsConnWithin}
use Rattle.abt_net.specs.declared.conn.Conn.{Conn}
use Rattle.abt_journal.specs.declared.entry.Entry.{Entry}
use Rattle.abt_model.specs.declared.entry.SourceEntry.{SourceEntry}
use Rattle.abt_model.specs.declared.journal.SourceJournal.{SourceJournal}
use Rattle.abt_entry.specs.Lines.{Says}
use Rattle.abt_entry.specs.declared.line.Line as declared
use Rattle.abt_entry.specs.declared.line.Line.TheVariants as line
use Rattle.abt_entry.specs.EntryWritten.{step_json, entry_json}
use Rattle.abt_journal_text.specs.Books.{Told, blank, journal_of, with_text, with_net, with_step, with_entry, with_end, appended_at, steps_at}
use Rattle.abt_journal_text.specs.Entering.{Takes}
use Rattle.abt_journal_text.specs.Texts.{below, top, text_of, TakesAll}
use Rattle.abt_journal_text.specs.declared.spot.Spot.{Spot}
use Rattle.abt_journal_text.specs.Fits.{IsChannel}
use Rattle.abt_journal_text.specs.Lines.{IsShort, step_lines, ports_lines, entry_lines, sources_lines, journal_lines}
use Rattle.abt_journal_text.specs.NetJson.{line_of, net_json, end_json}
use Rattle.abt_journal_text.specs.RoundTrip.{IsPortJournal, AreOfSources, TellsJust, HasRoundTrip}
use Rattle.abt_journal_text.specs.Tellable.{IsStep, IsEntry}
use Rattle.abt_journal_text.proofs.Plain.{IsPlainJson, print_lacks, print_utf8}
use Rattle.abt_journal_text.proofs.Entries.{entry_says, entry_plain}
use Rattle.abt_journal_text.proofs.NetSays.{IsConn, IsNet, net_says, net_plain, end_says, end_plain}
use Rattle.abt_journal_text.proofs.Steps.{step_says, step_plain}

-- These lines are taken in behind what was told, and leave something told that has the property P.
record Taken (spot : Spot) (told : Told) (lines : List Text) (P : Told → Type 0) : Type 0 where
  after : Told
  taken : TakesAll spot told lines after
  so : P after

-- some lines, and then others
then_taken : (spot : Spot) (told : Told) (xs ys : List Text) (P Q : Told → Type 0) → Taken spot told xs P
    → ((s : Spot) (t : Told) → P t → Taken s t ys Q) → Taken spot told (xs ++ ys) Q
then_taken spot told [] ys P Q t f = f spot told (subst P t.taken t.so)
then_taken spot told (one ∷ xs) ys P Q t f =
    let (next, whole, takes, more) = t.taken in
    let rest = then_taken (below spot 1) next xs ys P Q (record { after = t.after; taken = more; so = t.so }) f in
    record { after = rest.after; taken = (next, whole, takes, rest.taken); so = rest.so }

none_taken : (spot : Spot) (told : Told) (P : Told → Type 0) → P told → Taken spot told [] P
none_taken spot told P so = record { after = told; taken = refl; so = so }

-- a value whose line says what is taken in
one_taken : (spot : Spot) (told after : Told) (json : Json) (said : declared.Line) (P : Told → Type 0) → IsPlainJson json → IsShort (line_of json)
    → Says (line_of json) said → told.ended ≡ false → Takes spot told said after → P after → Taken spot told (line_of json ∷ []) P
one_taken spot told after json said P plain short says before takes so = record {
  after = after;
  taken = (
    after,
    (print_lacks json plain, short),
    record { before_end = before; utf8 = print_utf8 json plain; line = said; says = says; takes = takes },
    refl,
  );
  so = so;
}

-- What was told so far, before the end.
record At (net : Topology) (ports : List (List Entry)) (sources : List (List SourceEntry)) (told : Told) : Type 0 where
  net_is : told.net ≡ Some net
  ports_are : told.ports ≡ ports
  sources_are : told.sources ≡ sources
  settled : told.open_writes ≡ []
  uncut : told.cuts ≡ []
  unended : told.ended ≡ false

some_net : (net : Topology) (told : Told) → told.net ≡ Some net → told.net ≢ None
some_net net told is none = cc

-- lists of lists, at the list behind some others
at_front : {A : Type 0} (before : List (List A)) (here : List A) (after : List (List A)) → slice_index_or (before ++ here ∷ after) (length before) [] ≡ here
at_front [] here after = refl
at_front (list ∷ before) here after = at_front before here after

one_more : {A : Type 0} (before : List (List A)) (here : List A) (after : List (List A)) (new : List A)
    → slice_set (before ++ here ∷ after) (length before) new ≡ before ++ new ∷ after
one_more [] here after new = refl
one_more (list ∷ before) here after new = ap (λ lists. list ∷ lists) (one_more before here after new)

appended_front : {A : Type 0} (before : List (List A)) (here : List A) (after : List (List A)) (x : A)
    → appended_at (before ++ here ∷ after) (length before) x ≡ before ++ (here ++ x ∷ []) ∷ after
appended_front before here after x =
    ap (λ list. slice_set (before ++ here ∷ after) (length before) (list ++ x ∷ [])) (at_front before here after)
    ∙ one_more before here after (here ++ x ∷ [])

inside : {A : Type 0} (before : List (List A)) (here : List A) (after : List (List A)) → length before < length (before ++ here ∷ after)
inside before here after = let sum = length-append before (here ∷ after) in omega arith

-- steps from this place on
abbrev AreFrom : ℕ → List Entry → Type 0
AreFrom n [] = Unit {0}
AreFrom n (step ∷ steps) = (step.place ≡ n) × IsStep step × AreFrom (n + 1) steps

are_from : (n : ℕ) (steps : List Entry) → ((i : ℕ) (step : Entry) → slice_get steps i ≡ Some step → step.place ≡ n + i) → All IsStep steps → AreFrom n steps
are_from n [] places each = tt
are_from n (step ∷ steps) places each =
    let first : step.place ≡ n + 0 = places 0 step refl in (
      omega (arith, first),
      All-head IsStep step steps each,
      are_from (n + 1) steps (λ i s is. let next : s.place ≡ n + suc i = places (suc i) s is in omega (arith, next)) (All-tail IsStep step steps each),
    )

-- the steps of a port, behind some of its steps
steps_taken : (spot : Spot) (told : Told) (net : Topology) (before : List (List Entry)) (here : List Entry) (after : List (List Entry))
    (sources : List (List SourceEntry)) (steps : List Entry) → length before < 2 ^ 16 → AreFrom (length here) steps
    → All IsShort (step_lines (length before) steps) → At net (before ++ here ∷ after) sources told
    → Taken spot told (step_lines (length before) steps) (At net (before ++ (here ++ steps) ∷ after) sources)
steps_taken spot told net before here after sources [] low from short now =
    none_taken spot told _ (subst (λ (list : List Entry). At net (before ++ list ∷ after) sources told) (sym (append-nil here)) now)
steps_taken spot told net before here after sources (step ∷ steps) low from short now =
    let port = length before in
    let lists = before ++ here ∷ after in
    let json = step_json port step in
    let same : told.ports ≡ lists = now.ports_are in
    let known : length (steps_at told port) ≡ length here =
    ap (λ (ls : List (List Entry)). length (slice_index_or ls port [])) same ∙ ap (λ (list : List Entry). length list) (at_front before here after) in
    let within : port < length told.ports = subst (λ (ls : List (List Entry)). port < length ls) (sym same) (inside before here after) in
    let grown : appended_at told.ports port step ≡ before ++ (here ++ step ∷ []) ∷ after =
    ap (λ (ls : List (List Entry)). appended_at ls port step) same ∙ appended_front before here after step in
    let first = one_taken spot told (with_step spot port step told) json (line.Port port step) (At net (before ++ (here ++ step ∷ []) ∷ after) sources)
    (step_plain port step low from.1) (All-head IsShort (line_of json) (step_lines port steps) short) (step_says port step low from.1) now.unended
    (some_net net told now.net_is, within, from.0 ∙ sym known, refl)
    (record { net_is = now.net_is; ports_are = grown; sources_are = now.sources_are; settled = now.settled; uncut = now.uncut; unended = now.unended }) in
    let longer : length here + 1 ≡ length (here ++ step ∷ []) = let sum = length-append here (step ∷ []) in omega arith in
    then_taken spot told (line_of json ∷ []) (step_lines port steps) (At net (before ++ (here ++ step ∷ []) ∷ after) sources)
    (At net (before ++ (here ++ step ∷ steps) ∷ after) sources) first
    (λ s t so. subst (λ (list : List Entry). Taken s t (step_lines port steps) (At net (before ++ list ∷ after) sources)) (append_assoc here (step ∷ []) steps)
    (steps_taken s t net before (here ++ step ∷ []) after sources steps low (subst (λ (n : ℕ). AreFrom n steps) longer from.2)
    (All-tail IsShort (line_of json) (step_lines port steps) short) so))

all_first : (xs ys : List Text) → All IsShort (xs ++ ys) → All IsShort xs
all_first [] ys short = λ k d low. absurd (omega (arith, low))
all_first (x ∷ xs) ys short = All-cons IsShort x xs (All-head IsShort x (xs ++ ys) short) (all_first xs ys (All-tail IsShort x (xs ++ ys) short))

all_second : (xs ys : List Text) → All IsShort (xs ++ ys) → All IsShort ys
all_second [] ys short = short
all_second (x ∷ xs) ys short = all_second xs ys (All-tail IsShort x (xs ++ ys) short)

-- the steps of the ports that are left
ports_taken : (spot : Spot) (told : Told) (net : Topology) (before ports : List (List Entry)) (sources : List (List SourceEntry)) (n : ℕ) → n ≡ length before
    → length before + length ports ≤ ports_max → All IsPortJournal ports → All IsShort (ports_lines n ports)
    → At net (before ++ replicate (length ports) []) sources told → Taken spot told (ports_lines n ports) (At net (before ++ ports) sources)
ports_taken spot told net before [] sources n is few are short now = none_taken spot told _ now
ports_taken spot told net before (steps ∷ ports) sources n is few are short now =
    let first = All-head IsPortJournal steps ports are in
    let low : length before < 2 ^ 16 = omega (arith, few) in
    let mine : All IsShort (step_lines (length before) steps) =
    subst (λ (k : ℕ). All IsShort (step_lines k steps)) is (all_first (step_lines n steps) (ports_lines (n + 1) ports) short) in
    let longer : n + 1 ≡ length (before ++ steps ∷ []) = let sum = length-append before (steps ∷ []) in omega (arith, is) in
    let fewer : length (before ++ steps ∷ []) + length ports ≤ ports_max = omega (arith, longer, is, few) in
    then_taken spot told (step_lines n steps) (ports_lines (n + 1) ports) (At net (before ++ steps ∷ replicate (length ports) []) sources)
    (At net (before ++ steps ∷ ports) sources)
    (subst (λ (k : ℕ). Taken spot told (step_lines k steps) (At net (before ++ steps ∷ replicate (length ports) []) sources)) (sym is)
    (steps_taken spot told net before [] (replicate (length ports) []) sources steps low (are_from 0 steps (λ i step is. let same : step.place ≡ i = first.places i step is in omega (arith, same)) first.each) mine now))
    (λ s t so. subst (λ (lists : List (List Entry)). Taken s t (ports_lines (n + 1) ports) (At net lists sources)) (append_assoc before (steps ∷ []) ports)
    (ports_taken s t net (before ++ steps ∷ []) ports sources (n + 1) longer fewer (All-tail IsPortJournal steps ports are)
    (all_second (step_lines n steps) (ports_lines (n + 1) ports) short)
    (subst (λ (lists : List (List Entry)). At net lists sources t) (sym (append_assoc before (steps ∷ []) (replicate (length ports) []))) so)))

-- the entries of a source, behind some of its entries
entries_taken : (spot : Spot) (told : Told) (net : Topology) (ports : List (List Entry)) (before : List (List SourceEntry)) (here : List SourceEntry)
    (after : List (List SourceEntry)) (entries : List SourceEntry) → length before < 2 ^ 16 → All (IsEntry (length before)) entries
    → All IsShort (entry_lines (length before) entries) → At net ports (before ++ here ∷ after) told
    → Taken spot told (entry_lines (length before) entries) (At net ports (before ++ (here ++ entries) ∷ after))
entries_taken spot told net ports before here after [] low are short now =
    none_taken spot told _ (subst (λ (list : List SourceEntry). At net ports (before ++ list ∷ after) told) (sym (append-nil here)) now)
entries_taken spot told net ports before here after (one ∷ entries) low are short now =
    let conn = length before in
    let json = entry_json conn one in
    let same : told.sources ≡ before ++ here ∷ after = now.sources_are in
    let fits = All-head (IsEntry conn) one entries are in
    let within : conn < length told.sources = subst (λ (ls : List (List SourceEntry)). conn < length ls) (sym same) (inside before here after) in
    let grown : appended_at told.sources conn one ≡ before ++ (here ++ one ∷ []) ∷ after =
    ap (λ (ls : List (List SourceEntry)). appended_at ls conn one) same ∙ appended_front before here after one in
    let first = one_taken spot told (with_entry spot conn one told) json (line.Source conn one) (At net ports (before ++ (here ++ one ∷ []) ∷ after))
    (entry_plain conn one low fits) (All-head IsShort (line_of json) (entry_lines conn entries) short) (entry_says conn one low fits) now.unended
    (some_net net told now.net_is, within, refl)
    (record { net_is = now.net_is; ports_are = now.ports_are; sources_are = grown; settled = now.settled; uncut = now.uncut; unended = now.unended }) in
    then_taken spot told (line_of json ∷ []) (entry_lines conn entries) (At net ports (before ++ (here ++ one ∷ []) ∷ after))
    (At net ports (before ++ (here ++ one ∷ entries) ∷ after)) first
    (λ s t so. subst (λ (list : List SourceEntry). Taken s t (entry_lines conn entries) (At net ports (before ++ list ∷ after))) (append_assoc here (one ∷ []) entries)
    (entries_taken s t net ports before (here ++ one ∷ []) after entries low (All-tail (IsEntry conn) one entries are)
    (All-tail IsShort (line_of json) (entry_lines conn entries) short) so))

abbrev lists_in : List SourceJournal → List (List SourceEntry)
lists_in sources = map (λ (journal : SourceJournal). journal.entries) sources

-- the entries of the sources that are left
sources_taken : (spot : Spot) (told : Told) (net : Topology) (ports : List (List Entry)) (before : List (List SourceEntry)) (sources : List SourceJournal) (n : ℕ)
    → n ≡ length before → length before + length sources ≤ net_connections_max → AreOfSources n sources → All IsShort (sources_lines n sources)
    → At net ports (before ++ replicate (length sources) []) told → Taken spot told (sources_lines n sources) (At net ports (before ++ lists_in sources))
sources_taken spot told net ports before [] n is few are short now = none_taken spot told _ now
sources_taken spot told net ports before (journal ∷ sources) n is few are short now =
    let entries = journal.entries in
    let rest : List (List SourceEntry) = replicate (length sources) [] in
    let low : length before < 2 ^ 16 = omega (arith, few) in
    let longer : n + 1 ≡ length (before ++ entries ∷ []) = let sum = length-append before (entries ∷ []) in omega (arith, is) in
    let fewer : length (before ++ entries ∷ []) + length sources ≤ net_connections_max = omega (arith, longer, is, few) in
    then_taken spot told (entry_lines n entries) (sources_lines (n + 1) sources) (At net ports (before ++ entries ∷ rest))
    (At net ports (before ++ entries ∷ lists_in sources))
    (subst (λ (k : ℕ). Taken spot told (entry_lines k entries) (At net ports (before ++ entries ∷ rest))) (sym is)
    (entries_taken spot told net ports before [] rest entries low (subst (λ (k : ℕ). All (IsEntry k) entries) is are.0)
    (subst (λ (k : ℕ). All IsShort (entry_lines k entries)) is (all_first (entry_lines n entries) (sources_lines (n + 1) sources) short)) now))
    (λ s t so. subst (λ (lists : List (List SourceEntry)). Taken s t (sources_lines (n + 1) sources) (At net ports lists)) (append_assoc before (entries ∷ []) (lists_in sources))
    (sources_taken s t net ports (before ++ entries ∷ []) sources (n + 1) longer fewer are.1
    (all_second (entry_lines n entries) (sources_lines (n + 1) sources) short)
    (subst (λ (lists : List (List SourceEntry)). At net ports lists t) (sym (append_assoc before (entries ∷ []) rest)) so)))

journals_again : (sources : List SourceJournal) → map journal_of (lists_in sources) ≡ sources
journals_again [] = refl
journals_again (journal ∷ sources) = ap (λ (more : List SourceJournal). journal ∷ more) (journals_again sources)

conns_fit : (ports : ℕ) (conns : List Conn) → ports ≤ ports_max → All (IsConnWithin ports) conns → All (λ conn. IsChannel conn.vc) conns → All IsConn conns
conns_fit ports [] few rules channels = λ k d low. absurd (omega (arith, low))
conns_fit ports (conn ∷ conns) few rules channels =
    let rule = All-head (IsConnWithin ports) conn conns rules in
    let tau = rule.tau in
    let delay = rule.delay in
    All-cons IsConn conn conns
    (record {
      vc = All-head (λ c. IsChannel c.vc) conn conns channels;
      path = All-weaker (λ hop. hop < ports) (λ hop. hop < 2 ^ 16) (λ hop low. omega (arith, low, few)) conn.path rule.in_net;
      delay = omega (arith, delay);
      tau = omega (arith, tau);
    })
    (conns_fit ports conns few (All-tail (IsConnWithin ports) conn conns rules) (All-tail (λ c. IsChannel c.vc) conn conns channels))

net_fits : (net : Topology) → IsWithinRules net → All (λ conn. IsChannel conn.vc) net.conns → IsNet net
net_fits net rules channels = record {
  capacities = All-weaker (λ units. units ≤ 2 ^ 60) (λ units. units < 2 ^ 64) (λ units low. omega (arith, low)) net.capacities rules.each_capacity;
  conns = conns_fit (length net.capacities) net.conns rules.ports rules.each_conn channels;
}

pub round_trip : (net : Topology) (ports : List (List Entry)) (sources : List SourceJournal) → HasRoundTrip net ports sources
round_trip net ports sources are short number =
    let few_ports : 0 + length ports ≤ ports_max = omega (arith, are.port_count, are.rules.ports) in
    let few_sources : 0 + length sources ≤ net_connections_max = omega (arith, are.source_count, are.rules.connections) in
    let start = with_text blank in
    let fits = net_fits net are.rules are.channels in
    let empty_ports = replicate (length net.capacities) [] in
    let empty_sources = replicate (length net.conns) [] in
    let bodies = ports_lines 0 ports in
    let others = sources_lines 0 sources in
    let end = line_of end_json ∷ [] in
    let tail_short = All-tail IsShort (line_of (net_json net)) (bodies ++ (others ++ end)) short in
    let rest_short = all_second bodies (others ++ end) tail_short in
    let first = one_taken (top number) start (with_net net start) (net_json net) (line.Net net) (At net empty_ports empty_sources) (net_plain net fits)
    (All-head IsShort (line_of (net_json net)) (bodies ++ (others ++ end)) short) (net_says net fits) refl (refl, are.rules, refl)
    (record { net_is = refl; ports_are = refl; sources_are = refl; settled = refl; uncut = refl; unended = refl }) in
    let all = then_taken (top number) start (line_of (net_json net) ∷ []) (bodies ++ (others ++ end)) (At net empty_ports empty_sources) (TellsJust net ports sources) first
    (λ s t so. then_taken s t bodies (others ++ end) (At net ports empty_sources) (TellsJust net ports sources)
    (ports_taken s t net [] ports empty_sources 0 refl few_ports are.steps (all_first bodies (others ++ end) tail_short)
    (subst (λ (n : ℕ). At net (replicate n []) empty_sources t) (sym are.port_count) so))
    (λ s2 t2 so2. then_taken s2 t2 others end (At net ports (lists_in sources)) (TellsJust net ports sources)
    (sources_taken s2 t2 net ports [] sources 0 refl few_sources are.entries (all_first others end rest_short)
    (subst (λ (n : ℕ). At net ports (replicate n []) t2) (sym are.source_count) so2))
    (λ s3 t3 so3. one_taken s3 t3 (with_end t3) end_json line.End (TellsJust net ports sources) end_plain
    (All-head IsShort (line_of end_json) [] (all_second others end rest_short)) end_says so3.unended
    (some_net net t3 so3.net_is, refl)
    (record {
      net_is = so3.net_is;
      ports_are = so3.ports_are;
      sources_are = ap (map journal_of) so3.sources_are ∙ journals_again sources;
      settled = so3.settled;
      uncut = so3.uncut;
      ended = refl;
    })))) in
    record {
      told = all.after;
      reads = record {
        lines = journal_lines net ports sources;
        rest = [];
        are = sym (append-nil (text_of (journal_lines net ports sources)));
        before = all.after;
        taken = all.taken;
        ends = inl (refl, refl);
      };
      just = all.so;
    }
