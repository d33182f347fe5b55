-- Lists of calls that were carried out.
use Rattle.std.proofs.Common.{◌≡◌, ℕ, refl, ap, List, [], ◌∷◌, ◌++◌, ◌∙◌, sym, subst, arith, append_assoc}
use Rattle.std.specs.Prelude.{map, Option}
use Rattle.abt_cell.specs.Message.{Terms}
use Rattle.abt_keep.specs.declared.plan.StorePlan.{StorePlan}
use Rattle.abt_lifetime.specs.declared.call.SourceCall.{SourceCall}
use Rattle.abt_lifetime.specs.Lifetime.{StoredView, Called, called, out_of, Lived, lived}
use Rattle.abt_lifetime.specs.Numbers.{used_up_to, RiseWithin, numbers_of, IsCarriedOut, AreCarriedOut}
use Rattle.abt_lifetime.specs.Sound.{IsSound}
use Rattle.abt_lifetime.proofs.Lives.{sound_number, sound_spacing, rise_lower}

-- before the first call
pub none_carried : (v : StoredView) → IsSound v → AreCarriedOut v [] [] v
none_carried v sound = record { ways = []; are = refl; value = refl; rise = omega arith; number = sound_number v sound; spacing = sound_spacing v sound }

lived_more : (ways : List (SourceCall × StorePlan)) (way : SourceCall × StorePlan) (v : StoredView) → (lived (ways ++ way ∷ []) v).after ≡ (called way.0 way.1 (lived ways v).after).after
lived_more [] way v = refl
lived_more (first ∷ ways) way v = lived_more ways way (called first.0 first.1 v).after

append_nothing : (xs : List Terms) → xs ++ [] ≡ xs
append_nothing [] = refl
append_nothing (x ∷ xs) = ap (λ (l : List Terms). x ∷ l) (append_nothing xs)

requests_more : (ways : List (SourceCall × StorePlan)) (way : SourceCall × StorePlan) (v : StoredView) →
    (lived (ways ++ way ∷ []) v).requests ≡ (lived ways v).requests ++ out_of (called way.0 way.1 (lived ways v).after).request
requests_more [] way v = append_nothing (out_of (called way.0 way.1 v).request)
requests_more (first ∷ ways) way v =
    let now = called first.0 first.1 v in
    ap (λ (l : List Terms). out_of now.request ++ l) (requests_more ways way now.after) ∙ sym (append_assoc (out_of now.request) (lived ways now.after).requests (out_of (called way.0 way.1 (lived ways now.after).after).request))

calls_more : (ways : List (SourceCall × StorePlan)) (way : SourceCall × StorePlan) → map (λ (w : SourceCall × StorePlan). w.0) (ways ++ way ∷ []) ≡ map (λ (w : SourceCall × StorePlan). w.0) ways ++ way.0 ∷ []
calls_more [] way = refl
calls_more (first ∷ ways) way = ap (λ (l : List SourceCall). first.0 ∷ l) (calls_more ways way)

rise_out : (a b c : ℕ) (ns : List ℕ) (request : Option Terms) → RiseWithin a ns b → RiseWithin b (numbers_of (out_of request)) c → RiseWithin a (ns ++ numbers_of (out_of request)) c
rise_out a b c [] request low rise = rise_lower a b c (numbers_of (out_of request)) low rise
rise_out a b c (n ∷ ns) request low rise = (low.0, rise_out n b c ns request low.1 rise)

numbers_more : (xs ys : List Terms) → numbers_of (xs ++ ys) ≡ numbers_of xs ++ numbers_of ys
numbers_more [] ys = refl
numbers_more (x ∷ xs) ys = ap (λ (l : List ℕ). x.seq ∷ l) (numbers_more xs ys)

-- one call more
pub more_carried : (v now after : StoredView) (calls : List SourceCall) (requests : List Terms) (call : SourceCall) (request : Option Terms) → AreCarriedOut v calls requests now → IsCarriedOut now call request after →
    AreCarriedOut v (calls ++ call ∷ []) (requests ++ out_of request) after
more_carried v now after calls requests call request old one =
    let way : SourceCall × StorePlan = (call, one.plan) in
    let was_after : now ≡ (lived old.ways v).after = ap (λ (l : Lived). l.after) old.value in
    let was_requests : requests ≡ (lived old.ways v).requests = ap (λ (l : Lived). l.requests) old.value in
    let is_after : after ≡ (lived (old.ways ++ way ∷ []) v).after = ap (λ (c : Called). c.after) one.value ∙ ap (λ (u : StoredView). (called call one.plan u).after) was_after ∙ sym (lived_more old.ways way v) in
    let is_requests : requests ++ out_of request ≡ (lived (old.ways ++ way ∷ []) v).requests =
    ap (λ (l : List Terms). l ++ out_of request) was_requests
    ∙ ap (λ (o : Option Terms). (lived old.ways v).requests ++ out_of o) (ap (λ (c : Called). c.request) one.value ∙ ap (λ (u : StoredView). (called call one.plan u).request) was_after)
    ∙ sym (requests_more old.ways way v) in
    record {
      ways = old.ways ++ way ∷ [];
      are = calls_more old.ways way ∙ ap (λ (l : List SourceCall). l ++ call ∷ []) old.are;
      value = ap (λ (u : StoredView). let l : Lived = record { after = u; requests = requests ++ out_of request } in l) is_after
          ∙ ap (λ (qs : List Terms). let l : Lived = record { after = (lived (old.ways ++ way ∷ []) v).after; requests = qs } in l) is_requests;
      rise = subst (λ (ns : List ℕ). RiseWithin (used_up_to v) ns (used_up_to after)) (sym (numbers_more requests (out_of request)))
          (rise_out (used_up_to v) (used_up_to now) (used_up_to after) (numbers_of requests) request old.rise one.rise);
      number = one.number;
      spacing = one.spacing;
    }
