-- Crashes that were missing are put in one by one.
use Rattle.std.proofs.Common.{◌≡◌, ◌∙◌, ℕ, ◌+◌, ◌++◌, suc, Bool, false, List, [], ◌∷◌, length, map, refl, sym, ap, append_assoc, append-nil, length-append}
use Rattle.std.proofs.lemmas.List.{map-append}
use Rattle.std.specs.Prelude.{option_to_list}
use Rattle.abt_journal_text.specs.Books.{lists_of}
use Rattle.abt_journal_text.specs.declared.spot.Spot.{Spot}
use Rattle.abt_model.specs.declared.entry.SourceEntry.{SourceEntry}
use Rattle.abt_model.specs.declared.journal.SourceJournal.{SourceJournal}
use Rattle.abt_derive.specs.Completes.{HasMore, Line, entries_of, spot_at, spots_in}
use Rattle.abt_derive.specs.Derives.{spots_of}
use Rattle.abt_derive.specs.Restarts.{AreRestarted, HasOneMore, IsRestartedOf, crash_before, journal_in, lines_at_spot, places_from, places_in, restarted_from, restarted_lines, up_behind}
use Rattle.abt_derive.specs.declared.completing.Completed.{Completed}
use Rattle.abt_derive.specs.declared.restarting.AllRestarted.{AllRestarted}
use Rattle.abt_derive.specs.declared.restarting.Restarted.{Restarted}

-- what is made of the entries up to a place, and what is to be made of those that are left, is the whole
pub record IsPartly (spots : List Spot) (place : ℕ) (up : Bool) (entries left : List SourceEntry) (full : Completed) (places : List ℕ) : Type 0 where
  pub entries_are : full.entries.items ++ entries_of (restarted_lines spots place up left) ≡ entries_of (restarted_lines spots 0 false entries)
  pub spots_are : full.spots.items ++ spots_in (restarted_lines spots place up left) ≡ spots_in (restarted_lines spots 0 false entries)
  pub places_are : places ++ places_from up (length full.entries.items) left ≡ places_from false 0 entries

pub partly_start : (spots : List Spot) (entries : List SourceEntry) (full : Completed) (places : List ℕ) → full.entries.items ≡ [] → full.spots.items ≡ []
    → places ≡ [] → IsPartly spots 0 false entries entries full places
partly_start spots entries full places none nowhere nothing = record {
  entries_are = ap (λ es. es ++ entries_of (restarted_lines spots 0 false entries)) none;
  spots_are = ap (λ ss. ss ++ spots_in (restarted_lines spots 0 false entries)) nowhere;
  places_are = ap (λ ps. ps ++ places_from false (length full.entries.items) entries) nothing
      ∙ ap (λ (es : List SourceEntry). places_from false (length es) entries) none;
}

entries_at_spot : (spot : Spot) (entries : List SourceEntry) → entries_of (lines_at_spot spot entries) ≡ entries
entries_at_spot spot [] = refl
entries_at_spot spot (entry ∷ entries) = ap (λ es. entry ∷ es) (entries_at_spot spot entries)

-- the lines of an entry, with the crash that was missing before it, go over to what is made
past_one : {A : Type 0} (f : Line → A) (spots : List Spot) (place : ℕ) (up : Bool) (entry : SourceEntry) (rest : List SourceEntry) (old mid new : List A)
    → mid ≡ old ++ map f (lines_at_spot (spot_at spots place) (option_to_list (crash_before up entry)))
    → new ≡ mid ++ f (record { entry = entry; spot = spot_at spots place }) ∷ []
    → new ++ map f (restarted_lines spots (place + 1) (up_behind up entry) rest) ≡ old ++ map f (restarted_lines spots place up (entry ∷ rest))
past_one f spots place up entry rest old mid new crashed kept =
    let here = f (record { entry = entry; spot = spot_at spots place }) in
    let before = lines_at_spot (spot_at spots place) (option_to_list (crash_before up entry)) in
    let behind = restarted_lines spots (place + 1) (up_behind up entry) rest in
    ap (λ items. items ++ map f behind) (kept ∙ ap (λ items. items ++ here ∷ []) crashed)
    ∙ append_assoc (old ++ map f before) (here ∷ []) (map f behind) ∙ append_assoc old (map f before) (here ∷ map f behind)
    ∙ ap (λ more. old ++ more) (sym (map-append f before ((record { entry = entry; spot = spot_at spots place }) ∷ behind)))

pub partly_on : (spots : List Spot) (place : ℕ) (up : Bool) (entries left rest : List SourceEntry) (full mid new : Completed) (places more : List ℕ)
    (entry : SourceEntry) (spot : Spot) (there : ℕ) → left ≡ entry ∷ rest → spot ≡ spot_at spots place → IsPartly spots place up entries left full places
    → HasMore (lines_at_spot spot (option_to_list (crash_before up entry))) full mid → there ≡ length mid.entries.items → more ≡ places ++ there ∷ []
    → new.entries.items ≡ mid.entries.items ++ entry ∷ [] → new.spots.items ≡ mid.spots.items ++ spot ∷ []
    → IsPartly spots (place + 1) (up_behind up entry) entries rest new more
partly_on spots place up entries left rest full mid new places more entry spot there list here so crashed where_is noted longer further = record {
  entries_are = past_one (λ (line : Line). line.entry) spots place up entry rest full.entries.items mid.entries.items new.entries.items
      (crashed.entries ∙ ap (λ s. full.entries.items ++ entries_of (lines_at_spot s crash)) here) longer
      ∙ ap (λ es. full.entries.items ++ entries_of (restarted_lines spots place up es)) (sym list) ∙ so.entries_are;
  spots_are = past_one (λ (line : Line). line.spot) spots place up entry rest full.spots.items mid.spots.items new.spots.items
      (crashed.spots ∙ ap (λ s. full.spots.items ++ spots_in (lines_at_spot s crash)) here) (further ∙ ap (λ s. mid.spots.items ++ s ∷ []) here)
      ∙ ap (λ es. full.spots.items ++ spots_in (restarted_lines spots place up es)) (sym list) ∙ so.spots_are;
  places_are = ap (λ ps. ps ++ places_from (up_behind up entry) (length new.entries.items) rest) noted
      ∙ append_assoc places (there ∷ []) (places_from (up_behind up entry) (length new.entries.items) rest)
      ∙ ap (λ n. places ++ there ∷ places_from (up_behind up entry) n rest) count
      ∙ ap (λ n. places ++ n ∷ places_from (up_behind up entry) (length full.entries.items + length crash + 1) rest) (where_is ∙ counted)
      ∙ ap (λ es. places ++ places_from up (length full.entries.items) es) (sym list) ∙ so.places_are;
}
  where
    crash : List SourceEntry
    crash = option_to_list (crash_before up entry)

    counted : length mid.entries.items ≡ length full.entries.items + length crash
    counted = ap length (crashed.entries ∙ ap (λ es. full.entries.items ++ es) (entries_at_spot spot crash)) ∙ length-append full.entries.items crash

    count : length new.entries.items ≡ length full.entries.items + length crash + 1
    count = ap length longer ∙ length-append mid.entries.items (entry ∷ []) ∙ ap (λ n. n + 1) counted

pub partly_done : (spots : List Spot) (place : ℕ) (up : Bool) (entries left : List SourceEntry) (made : Restarted) → left ≡ []
    → IsPartly spots place up entries left made.full made.places.items → IsRestartedOf spots entries made
partly_done spots place up entries left made none so = record {
  entries_are = sym (append-nil made.full.entries.items)
      ∙ ap (λ es. made.full.entries.items ++ entries_of (restarted_lines spots place up es)) (sym none) ∙ so.entries_are;
  spots_are = sym (append-nil made.full.spots.items)
      ∙ ap (λ es. made.full.spots.items ++ spots_in (restarted_lines spots place up es)) (sym none) ∙ so.spots_are;
  places_are = sym (append-nil made.places.items)
      ∙ ap (λ es. made.places.items ++ places_from up (length made.full.entries.items) es) (sym none) ∙ so.places_are;
}

-- ---- all sources

pub record ArePartly (spots : List (List Spot)) (number : ℕ) (sources left : List SourceJournal) (all : AllRestarted) : Type 0 where
  pub sources_are : all.sources.items ++ map journal_in (restarted_from spots number left) ≡ map journal_in (restarted_from spots 0 sources)
  pub spots_are : lists_of all.spots ++ map spots_in (restarted_from spots number left) ≡ map spots_in (restarted_from spots 0 sources)
  pub places_are : lists_of all.places ++ map places_in left ≡ map places_in sources

one_past : {A : Type 0} (old new rest whole : List A) (one here : A) → new ≡ old ++ one ∷ [] → one ≡ here → old ++ here ∷ rest ≡ whole → new ++ rest ≡ whole
one_past old new rest whole one here longer is so =
    ap (λ items. items ++ rest) longer ∙ append_assoc old (one ∷ []) rest ∙ ap (λ item. old ++ item ∷ rest) is ∙ so

pub are_partly_on : (spots : List (List Spot)) (number : ℕ) (sources left rest : List SourceJournal) (old new : AllRestarted) (journal : SourceJournal)
    (own : List Spot) (entries : List SourceEntry) (made : Restarted) → left ≡ journal ∷ rest → own ≡ spots_of spots number → entries ≡ journal.entries
    → ArePartly spots number sources left old → IsRestartedOf own entries made → HasOneMore made old new
    → ArePartly spots (number + 1) sources rest new
are_partly_on spots number sources left rest old new journal own entries made list here same so is more = record {
  sources_are = one_past old.sources.items new.sources.items (map journal_in (restarted_from spots (number + 1) rest))
      (map journal_in (restarted_from spots 0 sources)) (record { entries = made.full.entries.items }) (journal_in lines) more.sources_are
      (ap (λ es. record { entries = es }) (is.entries_are ∙ ap entries_of lines_are))
      (ap (λ js. old.sources.items ++ map journal_in (restarted_from spots number js)) (sym list) ∙ so.sources_are);
  spots_are = one_past (lists_of old.spots) (lists_of new.spots) (map spots_in (restarted_from spots (number + 1) rest))
      (map spots_in (restarted_from spots 0 sources)) made.full.spots.items (spots_in lines) more.spots_are (is.spots_are ∙ ap spots_in lines_are)
      (ap (λ js. lists_of old.spots ++ map spots_in (restarted_from spots number js)) (sym list) ∙ so.spots_are);
  places_are = one_past (lists_of old.places) (lists_of new.places) (map places_in rest) (map places_in sources) made.places.items (places_in journal)
      more.places_are (is.places_are ∙ ap (places_from false 0) same)
      (ap (λ js. lists_of old.places ++ map places_in js) (sym list) ∙ so.places_are);
}
  where
    lines : List Line
    lines = restarted_lines (spots_of spots number) 0 false journal.entries

    lines_are : restarted_lines own 0 false entries ≡ lines
    lines_are = ap (λ ss. restarted_lines ss 0 false entries) here ∙ ap (restarted_lines (spots_of spots number) 0 false) same

pub are_all : (spots : List (List Spot)) (number : ℕ) (sources left : List SourceJournal) (all : AllRestarted) → left ≡ []
    → ArePartly spots number sources left all → AreRestarted spots sources all
are_all spots number sources left all none so = record {
  sources_are = sym (append-nil all.sources.items)
      ∙ ap (λ js. all.sources.items ++ map journal_in (restarted_from spots number js)) (sym none) ∙ so.sources_are;
  spots_are = sym (append-nil (lists_of all.spots))
      ∙ ap (λ js. lists_of all.spots ++ map spots_in (restarted_from spots number js)) (sym none) ∙ so.spots_are;
  places_are = sym (append-nil (lists_of all.places)) ∙ ap (λ js. lists_of all.places ++ map places_in js) (sym none) ∙ so.places_are;
}

-- there are as many journals
pub as_many_restarted : (spots : List (List Spot)) (c : ℕ) (sources : List SourceJournal)
    → length (map journal_in (restarted_from spots c sources)) ≡ length sources
as_many_restarted spots c [] = refl
as_many_restarted spots c (journal ∷ sources) = ap suc (as_many_restarted spots (c + 1) sources)
