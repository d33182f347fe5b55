use Rattle.std.proofs.Common.{◌≡◌, true, List, [], ◌∷◌, ◌++◌, ap, sym, subst, ◌∙◌}
use Rattle.abt_model.specs.declared.event.Event.{Event}
use Rattle.abt_model.specs.declared.event.Event.TheVariants.{Ask, Turn, Told}
use Rattle.abt_model.specs.declared.outcome.Outcome.{Outcome}
use Rattle.abt_model.specs.declared.outcome.Outcome.TheVariants.{Asked, Told as HasTold}
use Rattle.abt_model.specs.declared.outcome.Heard.TheVariants.{Raised}
use Rattle.abt_model.specs.Past.{facts_of}
use Rattle.abt_model.specs.Answers.{next_request}
use Rattle.abt_model.specs.Outcomes.{outcome_of}
use Rattle.abt_model.specs.Run.{facts_after, outcomes_from}
use Rattle.abt_world.specs.Standing.{StandsFor}
use Rattle.abt_laws.specs.RoundTrips.{out_over, back_over}
use Rattle.abt_laws.specs.Playing.{HaveBegun, HavePassed, hops_of, story_of, story_by}
use Rattle.abt_laws.proofs.AskingOut.{asks}
use Rattle.abt_laws.proofs.Played.{err_holds, if_ok_of, on_err_of}
use Rattle.abt_laws.proofs.WholeStory.{story_alone, story_asked, before_told, told_last, after_out, after_back, begun_out, begun_back, passed_whole, raised_at_last, last_asks}
use Rattle.abt_laws.proofs.round_trip.ask_with_nothing_between.Goals as goal

pub returns-in_default : goal.returns-in_default
returns-in_default c =
    let net = c.args.net.now in
    let conn = c.args.conn in
    let rate = c.args.rate in
    let plan = c.args.plan in
    let answered = c.in_ok-asked.asked in
    record {
      granted = λ events its stands known can.
          let is = (c.in_ok-asked.ensures.outcome net events stands).0 in
          let asked = asks net (facts_after net events) conn its known rate plan can in
          absurd (c.in_default.not-Asked (next_request its.vc (facts_of conn (facts_after net events)) rate) (is ∙ asked));
      outcome = λ events stands.
          let past = facts_after net events in
          let step = c.in_ok-asked.ensures.outcome net events stands in
          let alone : story_of net past conn rate plan ≡ Ask conn rate plan ∷ [] = ap (story_by conn (hops_of net conn) rate plan) (sym step.0) ∙ story_alone conn (hops_of net conn) rate plan answered c.in_default.not-Asked in
          record {
            before = [];
            answers = ap (outcomes_from net past) alone ∙ ap (λ (o : Outcome). o ∷ []) (sym step.0);
            stands = subst (λ (es : List Event). StandsFor net (events ++ es) c.step.new.self) (sym alone) step.1;
          };
      err = λ events stands. tt;
    }

pub returns-in_err-carry_out-clause-err : goal.returns-in_err-carry_out-clause-err
returns-in_err-carry_out-clause-err c events stands =
    let net = c.args.net.now in
    let conn = c.args.conn in
    let rate = c.args.rate in
    let plan = c.args.plan in
    let past = facts_after net events in
    let seq = c.seq-seq.result in
    let hops = c.path_length-hops.result in
    let e = Ask conn rate plan in
    let t = Turn conn seq in
    let told = Told conn seq true in
    let out = out_over conn seq hops in
    let back = back_over conn seq hops in
    let first = c.in_ok-asked.ensures.outcome net events stands in
    let asked : outcome_of net past e ≡ Asked c.in-Asked.request = sym first.0 ∙ c.in-Asked.is in
    let story : story_of net past conn rate plan ≡ e ∷ (out ++ (t ∷ (back ++ told ∷ []))) = story_asked net past conn rate plan c.in-Asked.request seq hops asked c.seq-seq.ensures.value c.path_length-hops.ensures.value in
    let begun = c.in_err-carry_out.ensures.err net (events ++ e ∷ []) first.1 in
    err_holds c.from_residual-in_err-carry_out.result (HaveBegun net events (story_of net past conn rate plan) c.carry_out.new.world)
    (begun_out net events (story_of net past conn rate plan) e out (t ∷ (back ++ told ∷ [])) c.carry_out.new.world story begun)

pub returns-in_err-step-clause-err : goal.returns-in_err-step-clause-err
returns-in_err-step-clause-err c events stands =
    let net = c.args.net.now in
    let conn = c.args.conn in
    let rate = c.args.rate in
    let plan = c.args.plan in
    let past = facts_after net events in
    let seq = c.seq-seq.result in
    let hops = c.path_length-hops.result in
    let e = Ask conn rate plan in
    let t = Turn conn seq in
    let told = Told conn seq true in
    let out = out_over conn seq hops in
    let back = back_over conn seq hops in
    let first = c.in_ok-asked.ensures.outcome net events stands in
    let asked : outcome_of net past e ≡ Asked c.in-Asked.request = sym first.0 ∙ c.in-Asked.is in
    let story : story_of net past conn rate plan ≡ e ∷ (out ++ (t ∷ (back ++ told ∷ []))) = story_asked net past conn rate plan c.in-Asked.request seq hops asked c.seq-seq.ensures.value c.path_length-hops.ensures.value in
    let there = c.in_ok-carry_out.ensures.ok net (events ++ e ∷ []) first.1 in
    let same = c.in_err-step.ensures.outcome net ((events ++ e ∷ []) ++ out) there in
    err_holds c.from_residual-in_err-step.result (HaveBegun net events (story_of net past conn rate plan) c.step-2.new.self) (record {
      done = e ∷ out;
      left = t ∷ (back ++ told ∷ []);
      parts = sym story;
      stands = subst (λ (es : List Event). StandsFor net es c.step-2.new.self) (after_out events out e) same;
    })

pub returns-in_err-carry_back-clause-err : goal.returns-in_err-carry_back-clause-err
returns-in_err-carry_back-clause-err c events stands =
    let net = c.args.net.now in
    let conn = c.args.conn in
    let rate = c.args.rate in
    let plan = c.args.plan in
    let past = facts_after net events in
    let seq = c.seq-seq.result in
    let hops = c.path_length-hops.result in
    let e = Ask conn rate plan in
    let t = Turn conn seq in
    let told = Told conn seq true in
    let out = out_over conn seq hops in
    let back = back_over conn seq hops in
    let first = c.in_ok-asked.ensures.outcome net events stands in
    let asked : outcome_of net past e ≡ Asked c.in-Asked.request = sym first.0 ∙ c.in-Asked.is in
    let story : story_of net past conn rate plan ≡ e ∷ (out ++ (t ∷ (back ++ told ∷ []))) = story_asked net past conn rate plan c.in-Asked.request seq hops asked c.seq-seq.ensures.value c.path_length-hops.ensures.value in
    let there = c.in_ok-carry_out.ensures.ok net (events ++ e ∷ []) first.1 in
    let turned = (c.in_ok-step.ensures.outcome net ((events ++ e ∷ []) ++ out) there).1 in
    let begun = c.in_err-carry_back.ensures.err net (((events ++ e ∷ []) ++ out) ++ t ∷ []) turned in
    err_holds c.from_residual-in_err-carry_back.result (HaveBegun net events (story_of net past conn rate plan) c.carry_back.new.world)
    (begun_back net events (story_of net past conn rate plan) e t out back (told ∷ []) c.carry_back.new.world story begun)

pub returns-clause-err : goal.returns-clause-err
returns-clause-err c events stands =
    let net = c.args.net.now in
    let conn = c.args.conn in
    let rate = c.args.rate in
    let plan = c.args.plan in
    let past = facts_after net events in
    let seq = c.seq-seq.result in
    let hops = c.path_length-hops.result in
    let e = Ask conn rate plan in
    let t = Turn conn seq in
    let told = Told conn seq true in
    let out = out_over conn seq hops in
    let back = back_over conn seq hops in
    let first = c.in_ok-asked.ensures.outcome net events stands in
    let asked : outcome_of net past e ≡ Asked c.in-Asked.request = sym first.0 ∙ c.in-Asked.is in
    let story : story_of net past conn rate plan ≡ e ∷ (out ++ (t ∷ (back ++ told ∷ []))) = story_asked net past conn rate plan c.in-Asked.request seq hops asked c.seq-seq.ensures.value c.path_length-hops.ensures.value in
    let there = c.in_ok-carry_out.ensures.ok net (events ++ e ∷ []) first.1 in
    let turned = (c.in_ok-step.ensures.outcome net ((events ++ e ∷ []) ++ out) there).1 in
    let home = c.in_ok-carry_back.ensures.ok net (((events ++ e ∷ []) ++ out) ++ t ∷ []) turned in
    let prefix = before_told conn rate plan seq hops in
    let is : (((events ++ e ∷ []) ++ out) ++ t ∷ []) ++ back ≡ events ++ prefix = after_back events out back e t in
    let stands_there : StandsFor net (events ++ prefix) c.carry_back.new.world = subst (λ (es : List Event). StandsFor net es c.carry_back.new.world) is home in
    let last = c.step-3.ensures.outcome net (events ++ prefix) stands_there in
    let whole : story_of net past conn rate plan ≡ prefix ++ told ∷ [] = story ∙ told_last conn rate plan seq hops in
    on_err_of c.step-3.result (λ (o : Outcome). (o ≡ outcome_of net (facts_after net (events ++ prefix)) told) × StandsFor net ((events ++ prefix) ++ told ∷ []) c.step-3.new.self) (StandsFor net (events ++ prefix) c.step-3.new.self)
    (HaveBegun net events (story_of net past conn rate plan) c.step-3.new.self) last
    (λ same. record { done = prefix; left = told ∷ []; parts = sym whole; stands = same })

pub returns-clause-outcome : goal.returns-clause-outcome
returns-clause-outcome c events stands =
    let net = c.args.net.now in
    let conn = c.args.conn in
    let rate = c.args.rate in
    let plan = c.args.plan in
    let past = facts_after net events in
    let seq = c.seq-seq.result in
    let hops = c.path_length-hops.result in
    let e = Ask conn rate plan in
    let t = Turn conn seq in
    let told = Told conn seq true in
    let out = out_over conn seq hops in
    let back = back_over conn seq hops in
    let first = c.in_ok-asked.ensures.outcome net events stands in
    let asked : outcome_of net past e ≡ Asked c.in-Asked.request = sym first.0 ∙ c.in-Asked.is in
    let story : story_of net past conn rate plan ≡ e ∷ (out ++ (t ∷ (back ++ told ∷ []))) = story_asked net past conn rate plan c.in-Asked.request seq hops asked c.seq-seq.ensures.value c.path_length-hops.ensures.value in
    let there = c.in_ok-carry_out.ensures.ok net (events ++ e ∷ []) first.1 in
    let turned = (c.in_ok-step.ensures.outcome net ((events ++ e ∷ []) ++ out) there).1 in
    let home = c.in_ok-carry_back.ensures.ok net (((events ++ e ∷ []) ++ out) ++ t ∷ []) turned in
    let prefix = before_told conn rate plan seq hops in
    let is : (((events ++ e ∷ []) ++ out) ++ t ∷ []) ++ back ≡ events ++ prefix = after_back events out back e t in
    let stands_there : StandsFor net (events ++ prefix) c.carry_back.new.world = subst (λ (es : List Event). StandsFor net es c.carry_back.new.world) is home in
    let last = c.step-3.ensures.outcome net (events ++ prefix) stands_there in
    let whole : story_of net past conn rate plan ≡ prefix ++ told ∷ [] = story ∙ told_last conn rate plan seq hops in
    if_ok_of c.step-3.result (λ (o : Outcome). (o ≡ outcome_of net (facts_after net (events ++ prefix)) told) × StandsFor net ((events ++ prefix) ++ told ∷ []) c.step-3.new.self)
    (λ (o : Outcome). HavePassed net events (story_of net past conn rate plan) o c.step-3.new.self) (StandsFor net (events ++ prefix) c.step-3.new.self) last
    (λ o said. subst (λ (l : List Event). HavePassed net events l o c.step-3.new.self) (sym whole) (passed_whole net events prefix told o c.step-3.new.self said.0 said.1))

pub returns-clause-granted : goal.returns-clause-granted
returns-clause-granted c events its stands known can =
    let net = c.args.net.now in
    let conn = c.args.conn in
    let rate = c.args.rate in
    let plan = c.args.plan in
    let past = facts_after net events in
    let seq = c.seq-seq.result in
    let hops = c.path_length-hops.result in
    let e = Ask conn rate plan in
    let t = Turn conn seq in
    let told = Told conn seq true in
    let out = out_over conn seq hops in
    let back = back_over conn seq hops in
    let first = c.in_ok-asked.ensures.outcome net events stands in
    let asked : outcome_of net past e ≡ Asked c.in-Asked.request = sym first.0 ∙ c.in-Asked.is in
    let story : story_of net past conn rate plan ≡ e ∷ (out ++ (t ∷ (back ++ told ∷ []))) = story_asked net past conn rate plan c.in-Asked.request seq hops asked c.seq-seq.ensures.value c.path_length-hops.ensures.value in
    let there = c.in_ok-carry_out.ensures.ok net (events ++ e ∷ []) first.1 in
    let turned = (c.in_ok-step.ensures.outcome net ((events ++ e ∷ []) ++ out) there).1 in
    let home = c.in_ok-carry_back.ensures.ok net (((events ++ e ∷ []) ++ out) ++ t ∷ []) turned in
    let prefix = before_told conn rate plan seq hops in
    let is : (((events ++ e ∷ []) ++ out) ++ t ∷ []) ++ back ≡ events ++ prefix = after_back events out back e t in
    let stands_there : StandsFor net (events ++ prefix) c.carry_back.new.world = subst (λ (es : List Event). StandsFor net es c.carry_back.new.world) is home in
    let last = c.step-3.ensures.outcome net (events ++ prefix) stands_there in
    let whole : story_of net past conn rate plan ≡ prefix ++ told ∷ [] = story ∙ told_last conn rate plan seq hops in
    let is_rate = last_asks events e first.1.rates in
    if_ok_of c.step-3.result (λ (o : Outcome). (o ≡ outcome_of net (facts_after net (events ++ prefix)) told) × StandsFor net ((events ++ prefix) ++ told ∷ []) c.step-3.new.self)
    (λ (o : Outcome). o ≡ HasTold Raised) (StandsFor net (events ++ prefix) c.step-3.new.self) last
    (λ o said. raised_at_last net events conn its rate plan o c.step-3.new.self c.path_length-hops.ensures.rules stands.rates is_rate known can
    (subst (λ (l : List Event). HavePassed net events l o c.step-3.new.self) (sym whole) (passed_whole net events prefix told o c.step-3.new.self said.0 said.1)))
