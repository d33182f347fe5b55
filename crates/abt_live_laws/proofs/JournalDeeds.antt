-- What the journal of a source says of it, over any lines.
use Rattle.std.proofs.Common.{◌≡◌, inl, inr, ℕ, ◌+◌, List, [], ◌∷◌, ◌++◌, refl, sym, ap, subst}
use Rattle.std.specs.Prelude.{Option}
use Rattle.std.proofs.KnownBytes.{Appends-nil, Appends-trans}
use Rattle.std.specs.Io.KnownBytes.{Appends}
use Rattle.abt_live.specs.declared.clocked_lines.ClockedLines.{ClockedLines}
use Rattle.abt_live.specs.declared.source_asked.SourceAsked.{SourceAsked}
use Rattle.abt_live.specs.declared.source_lines.SourceLines.{SourceLines}
use Rattle.abt_live.specs.Clock.{clocked}
use Rattle.abt_live.specs.SourceAsked.{asked_on}
use Rattle.abt_live.specs.SourceSteps.{Does}
use Rattle.abt_live_laws.specs.Deeds.{AreDeeds, ClockedJournalsAreDeeds, Deed, HasDeeds, JournalsAreDeeds, deeds_text}

-- a source that did nothing has no deeds
no_deeds : {K J : Type 0} (contents : J → Option (List ℕ)) (old new : SourceLines K J) → new ≡ old → HasDeeds contents old new
no_deeds {K = K} {J = J} contents old new same = record {
  deeds = [];
  journal = subst (λ (n : SourceLines K J). Appends (contents old.journal) (contents n.journal) []) (sym same) (Appends-nil (contents old.journal));
  are_deeds = ap (λ (n : SourceLines K J). n.source) same;
}

-- what a source does, and its deeds behind that
one_more : {K J : Type 0} (contents : J → Option (List ℕ)) (old mid new : SourceLines K J) (asked : SourceAsked) (said : List ℕ)
    → Does contents old asked said mid → HasDeeds contents mid new → HasDeeds contents old new
one_more contents old mid new asked said step more =
    let written : Appends (contents old.journal) (contents new.journal) (step.written ++ deeds_text old.conn more.deeds) =
    subst (λ n. Appends (contents old.journal) (contents new.journal) (step.written ++ deeds_text n more.deeds)) step.conn
    (Appends-trans (contents old.journal) (contents mid.journal) (contents new.journal) step.written (deeds_text mid.conn more.deeds)
    step.journal more.journal) in
    let deeds : AreDeeds old.vc mid.source more.deeds new.source = subst (λ v. AreDeeds v mid.source more.deeds new.source) step.vc more.are_deeds in
    elim step.done [
      | inl s ↦ record {
        deeds = record { actor = old.source; asked = asked; outcome = s.outcome } ∷ more.deeds;
        journal = subst (λ t. Appends (contents old.journal) (contents new.journal) (t ++ deeds_text old.conn more.deeds)) s.lines written;
        are_deeds = (refl, (mid.source, s.carries, deeds));
      }
      | inr f ↦ record {
        deeds = more.deeds;
        journal = subst (λ t. Appends (contents old.journal) (contents new.journal) (t ++ deeds_text old.conn more.deeds)) f.silent written;
        are_deeds = subst (λ a. AreDeeds old.vc a more.deeds new.source) f.same deeds;
      }
    ]

pub journals_are_deeds : {J : Type 0} (K : Type 0) (contents : J → Option (List ℕ)) → JournalsAreDeeds K contents
journals_are_deeds K contents old new number [] said (none, same) = no_deeds contents old new same
journals_are_deeds K contents old new number (line ∷ lines) said (mid, first, rest, is, step, run) =
    one_more contents old mid new (asked_on line) first step (journals_are_deeds K contents mid new (number + 1) lines rest run)

pub clocked_journals_are_deeds : {J N : Type 0} (K : Type 0) (reads : N → Option ℕ → N → Type 0) (contents : J → Option (List ℕ))
    → ClockedJournalsAreDeeds K reads contents
clocked_journals_are_deeds {J = J} {N = N} K reads contents old new number [] said (none, same) =
    no_deeds contents old.lines new.lines (ap (λ (n : ClockedLines K J N). n.lines) same)
clocked_journals_are_deeds K reads contents old new number (line ∷ lines) said (mid, first, rest, is, step, run) =
    one_more contents old.lines mid.lines new.lines (clocked step.moment line (asked_on line)) first step.does
    (clocked_journals_are_deeds K reads contents mid new (number + 1) lines rest run)
