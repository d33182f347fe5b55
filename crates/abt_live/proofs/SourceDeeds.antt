-- Steps of a source, put together.
use Rattle.std.proofs.Common.{◌≡◌, ◌∙◌, ◌⊎◌, ℕ, List, [], ◌++◌, inl, inr, refl, sym, subst, append_assoc}
use Rattle.std.specs.Prelude.{Option, None, Some}
use Rattle.std.proofs.KnownBytes.{Appends-nil, Appends-trans}
use Rattle.std.specs.Io.KnownBytes.{Appends}
use Rattle.abt_cell.specs.Channel.{Channel}
use Rattle.abt_model.specs.declared.outcome.Outcome.{Outcome}
use Rattle.abt_actor.specs.Actor.{ActorView}
use Rattle.abt_live.specs.declared.fault.LiveFault.{LiveFault}
use Rattle.abt_live.specs.declared.fault.LiveFault.TheVariants.{Store}
use Rattle.abt_live.specs.declared.source_asked.SourceAsked.{SourceAsked}
use Rattle.abt_live.specs.declared.source_asked.SourceAsked.TheVariants.{Start, Ask, Again, Emit, Told, Wrong}
use Rattle.abt_live.specs.declared.source_lines.SourceLines.{SourceLines}
use Rattle.abt_live.specs.Faults.{fault_line}
use Rattle.abt_live.specs.SourceJournal.{before_line, done_line}
use Rattle.abt_live.specs.SourceSaid.{outcome_said}
use Rattle.abt_live.specs.SourceSteps.{CanCarry, Carries, Does, IsCarriedOut, IsFaulty, Refuses, StopsBefore, StopsBehind}
use Rattle.abt_lines.specs.Served.{AppendsFront}
use Rattle.abt_live.proofs.Fronts.{front_whole}

-- nothing is written before a start
none_before : (conn : ℕ) (vc : Channel) (actor : ActorView) (asked : SourceAsked) → CanCarry vc asked → Refuses vc asked Store → before_line conn actor asked ≡ []
none_before conn vc actor (Start now) can why = refl
none_before conn vc actor (Ask rate) can why = absurd why
none_before conn vc actor Again can why = refl
none_before conn vc actor (Emit now) can why = refl
none_before conn vc actor (Told answer) can why = refl
none_before conn vc actor (Wrong fault) can why = absurd can

-- The store gave no record.
pub unstarted : {K J : Type 0} (contents : J → Option (List ℕ)) (old new : SourceLines K J) (asked : SourceAsked) (said : List ℕ)
    → CanCarry old.vc asked → Refuses old.vc asked Store → said ≡ fault_line Store → new.source ≡ old.source
    → Appends (contents old.journal) (contents new.journal) (before_line old.conn old.source asked)
    → new.conn ≡ old.conn → new.vc ≡ old.vc → Does contents old asked said new
unstarted contents old new asked said can why says same written conn vc = record {
  written = [];
  done = inr (record { fault = Store; why = why; says = says; silent = refl; same = same });
  journal = subst (Appends (contents old.journal) (contents new.journal)) (none_before old.conn old.vc old.source asked can why) written;
  conn = conn;
  vc = vc;
}

-- It can't be carried out.
pub refused : {K J : Type 0} (contents : J → Option (List ℕ)) (old : SourceLines K J) (asked : SourceAsked) (fault : LiveFault)
    → Refuses old.vc asked fault → Does contents old asked (fault_line fault) old
refused contents old asked fault why = record {
  written = [];
  done = inr (record { fault = fault; why = why; says = refl; silent = refl; same = refl });
  journal = Appends-nil (contents old.journal);
  conn = refl;
  vc = refl;
}

-- It was carried out.
pub carried : {K J : Type 0} (contents : J → Option (List ℕ)) (old new : SourceLines K J) (asked : SourceAsked) (said : List ℕ) (outcome : Outcome) (mid : Option (List ℕ))
    → Carries old.vc asked old.source outcome new.source → said ≡ outcome_said new.source.clock outcome
    → Appends (contents old.journal) mid (before_line old.conn old.source asked) → Appends mid (contents new.journal) (done_line old.conn asked outcome)
    → new.conn ≡ old.conn → new.vc ≡ old.vc → Does contents old asked said new
carried contents old new asked said outcome mid carries says before done conn vc = record {
  written = before_line old.conn old.source asked ++ done_line old.conn asked outcome;
  done = inl (record { outcome = outcome; carries = carries; lines = refl; says = says });
  journal = Appends-trans (contents old.journal) mid (contents new.journal) (before_line old.conn old.source asked) (done_line old.conn asked outcome) before done;
  conn = conn;
  vc = vc;
}

-- the same, asked and said in other words
pub answered : {K J : Type 0} (contents : J → Option (List ℕ)) (old new : SourceLines K J) (asked wanted : SourceAsked) (said text : List ℕ) → asked ≡ wanted
    → text ≡ said → Does contents old asked said new → Does contents old wanted text new
answered contents old new asked wanted said text is same does =
    subst (λ a. Does contents old a text new) is (subst (λ t. Does contents old asked t new) (sym same) does)

-- what is written in two parts is written in one and then in the other
split : (old new : Option (List ℕ)) (before done : List ℕ) → Appends old new (before ++ done) → (mid : Option (List ℕ)) × Appends old mid before × Appends mid new done
split None new before done all = (None, tt, tt)
split (Some xs) None before done all = absurd all
split (Some xs) (Some ys) before done all = (Some (xs ++ before), refl, all ∙ sym (append_assoc xs before done))

nothing_began : (old new : Option (List ℕ)) (written text : List ℕ) → written ≡ [] → Appends old new written → AppendsFront old new text
nothing_began old new written text none went =
    record { printed = []; written = subst (Appends old new) none went; front = record { rest = text; is = refl } }

stops : {K J : Type 0} (contents : J → Option (List ℕ)) (old new : SourceLines K J) (asked : SourceAsked) (said written : List ℕ)
    → IsCarriedOut old.conn old.vc asked old.source said written new.source ⊎ IsFaulty old.vc asked old.source said written new.source
    → Appends (contents old.journal) (contents new.journal) written → StopsBefore contents old asked new ⊎ StopsBehind contents old asked new
stops contents old new asked said written (inl done) went =
    let parts = split (contents old.journal) (contents new.journal) (before_line old.conn old.source asked) (done_line old.conn asked done.outcome)
    (subst (Appends (contents old.journal) (contents new.journal)) done.lines went) in
    inr (record { outcome = done.outcome; carries = done.carries; mid = parts.0; before = parts.1; began = front_whole parts.0 (contents new.journal) _ parts.2 })
stops contents old new asked said written (inr faulty) went = inl (record {
  same = faulty.same;
  began = nothing_began (contents old.journal) (contents new.journal) written (before_line old.conn old.source asked) faulty.silent went;
})

-- A source that was to say what it did has written it.
pub began : {K J : Type 0} (contents : J → Option (List ℕ)) (old new : SourceLines K J) (asked wanted : SourceAsked) (said : List ℕ) → asked ≡ wanted
    → Does contents old asked said new → StopsBefore contents old wanted new ⊎ StopsBehind contents old wanted new
began contents old new asked wanted said is does =
    subst (λ a. StopsBefore contents old a new ⊎ StopsBehind contents old a new) is (stops contents old new asked said does.written does.done does.journal)
