-- What was asked after some events was asked, with the same terms, after all events that the same journals go on with.
use Rattle.std.proofs.Common.{◌≡◌, ℕ, ◌+◌, ◌<◌, ◌≤◌, length, reverse, inl, inr, refl, ap, Bool, true, false, List, [], ◌∷◌, ◌++◌, ◌∙◌, sym, subst, Some, arith}
use Rattle.std.specs.Prelude.{◌⊎◌, ◌||◌, ◌==◌}
use Rattle.std.specs.List.{list_any}
use Rattle.std.proofs.lemmas.Bool.{false≢true}
use Rattle.std.proofs.lemmas.List.{append_assoc}
use Rattle.abt_net.specs.declared.conn.Conn.{Conn}
use Rattle.abt_net.specs.Topology.{Topology, conn_at}
use Rattle.abt_facts.specs.declared.fact.Fact.{Fact}
use Rattle.abt_facts.specs.declared.fact.Fact.TheVariants.{Started, Crashed, Stored, Asked, Heard, Emitted, Delivered, Passed, Shut, Turned, Back, Arrived}
use Rattle.abt_facts.specs.Requests.{is_ask_of, was_asked, floor_of, ask_of}
use Rattle.abt_facts.specs.Source.{last_of}
use Rattle.abt_model.specs.declared.event.Event.{Event}
use Rattle.abt_model.specs.Outcomes.{facts_added}
use Rattle.abt_model.specs.Past.{facts_of}
use Rattle.abt_model.proofs.Chain.{asked_last, floor_more, ask_more}
use Rattle.abt_model.proofs.Lawful.{Route, route_of, IsLawful}
use Rattle.abt_model.specs.declared.entry.SourceEntry.{SourceEntry}
use Rattle.abt_model.specs.declared.entry.SourceEntry.TheVariants.{Did, Sent, Arrived as ArrivedAt}
use Rattle.abt_weave.specs.Projections.{past_of, entries_on}
use Rattle.abt_weave.specs.Stuck.{IsBeginning}
use Rattle.abt_weave.specs.Asked.{floor_in, ask_in}
use Rattle.abt_weave.proofs.AskedRates.{floor_told, ask_told}
use Rattle.abt_weave.specs.Leaving.{facts_done}
use Rattle.abt_weave.proofs.OwnFacts.{own, floor_of-own, ask_of-own}
use Rattle.abt_weave.proofs.OwnReplays.{done-append, own_replayed}
use Rattle.abt_weave.proofs.Prefixes.{any_rest}

pub was_asked-own : (facts : List Fact) (s : ℕ) → was_asked (own facts) s ≡ was_asked facts s
was_asked-own [] s = refl
was_asked-own (Started now kept ∷ facts) s = was_asked-own facts s
was_asked-own (Crashed ∷ facts) s = was_asked-own facts s
was_asked-own (Stored kept ∷ facts) s = was_asked-own facts s
was_asked-own (Asked seq floor ask mark ∷ facts) s = ap (λ b. seq == s || b) (was_asked-own facts s)
was_asked-own (Heard seq granted ∷ facts) s = was_asked-own facts s
was_asked-own (Emitted cell at rate ∷ facts) s = was_asked-own facts s
was_asked-own (Delivered seq ∷ facts) s = was_asked-own facts s
was_asked-own (Passed seq hop ∷ facts) s = was_asked-own facts s
was_asked-own (Shut seq hop ∷ facts) s = was_asked-own facts s
was_asked-own (Turned seq ∷ facts) s = was_asked-own facts s
was_asked-own (Back seq hop ∷ facts) s = was_asked-own facts s
was_asked-own (Arrived cell at rate verdict ∷ facts) s = was_asked-own facts s

-- doing more adds facts
done_grows : (facts : List Fact) (entries : List SourceEntry) → (more : List Fact) × (facts_done facts entries ≡ more ++ facts)
done_grows facts [] = ([], refl)
done_grows facts (Did event outcome ∷ entries) =
    let rest = done_grows (facts_added facts event outcome ++ facts) entries in
    (rest.0 ++ facts_added facts event outcome, rest.1 ∙ sym (append_assoc rest.0 (facts_added facts event outcome) facts))
done_grows facts (Sent place ∷ entries) = done_grows facts entries
done_grows facts (ArrivedAt cell place ∷ entries) = done_grows facts entries

-- the source's own facts are more
own_below : (net : Topology) (c : ℕ) (less more : List Event) → IsBeginning (entries_on net c less) (entries_on net c more) → (added : List Fact) × (own (facts_of c (past_of net more)) ≡ added ++ own (facts_of c (past_of net less)))
own_below net c less more begins =
    let grown = done_grows (facts_done [] (entries_on net c less)) begins.0 in (
      grown.0,
      own_replayed net c more ∙ ap (facts_done []) begins.1 ∙ done-append [] (entries_on net c less) begins.0 ∙ grown.1 ∙ ap (λ (l : List Fact). grown.0 ++ l) (sym (own_replayed net c less)),
    )

asked_rest : (facts added base : List Fact) (s : ℕ) → own facts ≡ added ++ base → was_asked base s ≡ true → was_asked facts s ≡ true
asked_rest facts added base s is h = sym (was_asked-own facts s) ∙ ap (λ l. was_asked l s) is ∙ any_rest (is_ask_of s) added base h

pub asked_below : (net : Topology) (c s : ℕ) (less more : List Event) → IsBeginning (entries_on net c less) (entries_on net c more) → was_asked (facts_of c (past_of net less)) s ≡ true → was_asked (facts_of c (past_of net more)) s ≡ true
asked_below net c s less more begins h =
    let grown = own_below net c less more begins in
    asked_rest (facts_of c (past_of net more)) grown.0 (own (facts_of c (past_of net less))) s grown.1 (was_asked-own (facts_of c (past_of net less)) s ∙ h)

own_cons : (f : Fact) (facts : List Fact) → (own (f ∷ facts) ≡ own facts) ⊎ (own (f ∷ facts) ≡ f ∷ own facts)
own_cons (Delivered seq) facts = inl refl
own_cons (Passed seq hop) facts = inl refl
own_cons (Shut seq hop) facts = inl refl
own_cons (Turned seq) facts = inl refl
own_cons (Back seq hop) facts = inl refl
own_cons (Arrived cell at rate verdict) facts = inl refl
own_cons other facts = inr refl

tail_same : (f : Fact) (facts added base : List Fact) → f ∷ facts ≡ added ++ base → (base ≡ f ∷ facts) ⊎ ((more : List Fact) × (facts ≡ more ++ base))
tail_same f facts [] base is = inl (sym is)
tail_same f facts (g ∷ added) base is = inr (added, cc)

abbrev pub AreTerms : List Fact → List Fact → ℕ → Type 0
AreTerms facts base s = (floor_of facts s ≡ floor_of base s) × (ask_of facts s ≡ ask_of base s)

-- a number that was asked keeps its terms, whatever is asked later
terms_kept : (k : Route) (facts : List Fact) → IsLawful k facts → (added base : List Fact) (s : ℕ) → own facts ≡ added ++ base → was_asked base s ≡ true → AreTerms facts base s
terms_kept k [] lawful [] base s is h = absurd (false≢true (ap (λ l. was_asked l s) is ∙ h))
terms_kept k [] lawful (g ∷ added) base s is h = absurd (cc)
terms_kept k (f ∷ facts) lawful added base s is h =
    let older : (more : List Fact) → own facts ≡ more ++ base → AreTerms (f ∷ facts) base s
    = λ more same. (
    let rest = terms_kept k facts lawful.1 more base s same h in
    let low = ((asked_last k facts lawful.1).1 s (asked_rest facts more base s same h)).1 in
    (floor_more k f facts lawful.0 s low ∙ rest.0, ask_more k f facts lawful.0 s low ∙ rest.1)) in
    elim (own_cons f facts) [
      | inl same ↦ older added (sym same ∙ is)
      | inr on ↦ (elim (tail_same f (own facts) added base (sym on ∙ is)) [
        | inl whole ↦ (
          sym (floor_of-own (f ∷ facts) s) ∙ ap (λ l. floor_of l s) (on ∙ sym whole),
          sym (ask_of-own (f ∷ facts) s) ∙ ap (λ l. ask_of l s) (on ∙ sym whole),
        )
        | inr rest ↦ older rest.0 rest.1
      ])
    ]

pub terms_below : (net : Topology) (c s : ℕ) (conn : Conn) (less more : List Event) → IsLawful (route_of conn) (facts_of c (past_of net more)) → IsBeginning (entries_on net c less) (entries_on net c more) → was_asked (facts_of c (past_of net less)) s ≡ true →
    AreTerms (facts_of c (past_of net more)) (facts_of c (past_of net less)) s
terms_below net c s conn less more lawful begins h =
    let grown = own_below net c less more begins in
    let base = facts_of c (past_of net less) in
    let kept = terms_kept (route_of conn) (facts_of c (past_of net more)) lawful grown.0 (own base) s grown.1 (was_asked-own base s ∙ h) in
    (kept.0 ∙ floor_of-own base s, kept.1 ∙ ask_of-own base s)

-- where the source has had the same entries, it asked the same
pub told_alike : (net : Topology) (one other : List Event) (c s : ℕ) → entries_on net c one ≡ entries_on net c other → AreTerms (facts_of c (past_of net one)) (facts_of c (past_of net other)) s
told_alike net one other c s same = (
  floor_told net c s one ∙ ap (λ (l : List SourceEntry). floor_in (reverse l) s) same ∙ sym (floor_told net c s other),
  ask_told net c s one ∙ ap (λ (l : List SourceEntry). ask_in (reverse l) s) same ∙ sym (ask_told net c s other),
)
