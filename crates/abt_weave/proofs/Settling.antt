-- Who isn't touched by an event stays settled.
use Rattle.std.proofs.Common.{◌≡◌, ◌≢◌, ℕ, suc, ◌+◌, ◌-◌, ◌<◌, inl, inr, refl, ap, Bool, true, false, List, [], ◌∷◌, ◌++◌, length, reverse, ◌∙◌, sym, subst, Some, arith}
use Rattle.std.specs.Prelude.{◌⊎◌, slice_get, get_or, All, Contains}
use Rattle.std.proofs.lemmas.Bool.{cases_Bool, cases_eq, false≢true}
use Rattle.std.proofs.lemmas.Option.{slice_get_within, slice_get-get_or}
use Rattle.std.proofs.Math.ListN.{set, length-set}
use Rattle.abt_net.specs.Topology.{Topology, IsWithinRules}
use Rattle.abt_model.specs.declared.event.Event.{Event}
use Rattle.abt_model.specs.declared.event.Event.TheVariants.{Turn}
use Rattle.abt_model.specs.declared.target.Target.TheVariants as target
use Rattle.abt_model.specs.Events.{AsksRate}
use Rattle.abt_weave.specs.declared.actor.Actor.{Actor}
use Rattle.abt_weave.specs.declared.actor.Actor.TheVariants.{Source, Port}
use Rattle.abt_weave.specs.Projections.{past_of, visit, entry_made}
use Rattle.abt_weave.specs.Stuck.{RunJournals, IsTurn}
use Rattle.abt_weave.specs.declared.progress.Progress.{Progress}
use Rattle.abt_weave.specs.declared.look.Look.{Look}
use Rattle.abt_weave.specs.declared.look.Look.TheVariants.{Placed, Waits, Mismatches}
use Rattle.abt_weave.specs.declared.queue.Queue.{Queue}
use Rattle.abt_weave.specs.Actors.{actor_at, actor_count}
use Rattle.abt_weave.specs.Progress.{count, is_mismatch, IsProgress, IsActorSettled, IsAfterLook, AreSettled}
use Rattle.abt_weave.specs.Comes.{IsTurnOf}
use Rattle.abt_weave.specs.Queue.{IsQueue, AreAllReady, IsEmpty, IsFirst, IsUp, Wakes, IsWaiting}
use Rattle.abt_weave.specs.Rounds.{NoOne}
use Rattle.abt_weave.specs.Shown.{IsShown, AreShown}
use Rattle.abt_weave.specs.Waking.{HasPlaced, Touches, AreTouched}
use Rattle.abt_weave.proofs.Leavings.{all_reversed}
use Rattle.abt_weave.proofs.Pasts.{pushed}
use Rattle.abt_weave.proofs.PortEvents.{some_same}
use Rattle.abt_weave.proofs.Queues.{sized, not_both, get_set, get_set_other}
use Rattle.abt_weave.proofs.Replays.{no_visit}
use Rattle.abt_weave.proofs.Touching.{cases_actor}
use Rattle.abt_weave.proofs.Waiting.{waits_on, turned_on}
use Rattle.abt_weave.proofs.Remains.{remains}

-- An event that was placed last, over a net within the rules.
pub record IsNext (net : Topology) (js : RunJournals) (earlier : List Event) (last : Event) : Type 0 where
  pub rules : IsWithinRules net
  pub rates : All AsksRate (last ∷ earlier)
  pub before : All AsksRate earlier
  pub shown : IsShown net js earlier last

-- an actor that the last event doesn't touch, or whose next entry mismatches
stays_by : (net : Topology) (js : RunJournals) (earlier : List Event) (last : Event) → IsNext net js earlier last → (actor : Actor) (b : Bool) → ((c : ℕ) → actor ≡ Source c → c < length net.conns) →
    (b ≡ true) ⊎ (Touches net js (last ∷ earlier) last actor → ⊥) → IsActorSettled net js earlier actor b → IsActorSettled net js (last ∷ earlier) actor b
stays_by net js earlier last it actor true low why settled = remains net js earlier last (record { rules = it.rules; rates = it.rates; before = it.before; shown = it.shown }) actor settled low
stays_by net js earlier last it actor false low (inl clash) settled = absurd (false≢true clash)
stays_by net js earlier last it actor false low (inr never) settled = waits_on net js earlier last (record { rules = it.rules; first = it.rates; second = it.before }) actor low never settled

-- the same where a Turn comes first
turn_is : (net : Topology) (js : RunJournals) (earlier : List Event) (event turn : Event) → IsTurnOf net event turn → IsShown net js earlier turn → IsTurn net earlier turn
turn_is net js earlier event turn its (inr needed) = needed.turn
turn_is net js earlier event turn its (inl fits) =
    let past = past_of net earlier in
    absurd (elim fits.falls [
      | inl comes ↦ comes (ap (visit net past) its.turn_is ∙ no_visit net past (Turn its.c its.seq) its.c refl (λ vc facts. refl))
      | inr made ↦ made (ap (entry_made net earlier) its.turn_is)
    ])

turn_on : (net : Topology) (js : RunJournals) (earlier : List Event) (event turn : Event) → IsNext net js earlier turn → IsTurnOf net event turn → (actor : Actor) (b : Bool) → ((c : ℕ) → actor ≡ Source c → c < length net.conns) →
    IsActorSettled net js earlier actor b → IsActorSettled net js (turn ∷ earlier) actor b
turn_on net js earlier event turn first its actor true low settled = stays_by net js earlier turn first actor true low (inl refl) settled
turn_on net js earlier event turn first its actor false low settled = turned_on net js earlier turn (turn_is net js earlier event turn its first.shown) actor settled

-- Who was settled before an event was placed, and isn't touched by it, is settled after it.
rates_rest : (event : Event) (earlier : List Event) → All AsksRate (event ∷ earlier) → All AsksRate earlier
rates_rest event earlier all = λ k d low. all (suc k) d (omega (arith, low))

placed_one : (net : Topology) (js : RunJournals) (earlier later : List Event) (event : Event) → IsWithinRules net → All AsksRate later → AreShown net js later → later ≡ event ∷ earlier → (actor : Actor) (b : Bool) → ((c : ℕ) → actor ≡ Source c → c < length net.conns) →
    (b ≡ true) ⊎ (Touches net js later event actor → ⊥) → IsActorSettled net js earlier actor b → IsActorSettled net js later actor b
placed_one net js earlier later event rules rates shown is actor b low why settled =
    let all : All AsksRate (event ∷ earlier) = subst (All AsksRate) is rates in
    let next : IsNext net js earlier event = record { rules = rules; rates = all; before = rates_rest event earlier all; shown = (subst (AreShown net js) is shown).0 } in
    subst (λ l. IsActorSettled net js l actor b) (sym is)
    (stays_by net js earlier event next actor b low (subst (λ l. (b ≡ true) ⊎ (Touches net js l event actor → ⊥)) is why) settled)

placed_two : (net : Topology) (js : RunJournals) (earlier later : List Event) (event turn : Event) → IsWithinRules net → All AsksRate later → AreShown net js later → later ≡ event ∷ turn ∷ earlier → IsTurnOf net event turn → (actor : Actor) (b : Bool) →
    ((c : ℕ) → actor ≡ Source c → c < length net.conns) → (b ≡ true) ⊎ (Touches net js later event actor → ⊥) → IsActorSettled net js earlier actor b → IsActorSettled net js later actor b
placed_two net js earlier later event turn rules rates shown is its actor b low why settled =
    let all : All AsksRate (event ∷ turn ∷ earlier) = subst (All AsksRate) is rates in
    let rest = rates_rest event (turn ∷ earlier) all in
    let are : AreShown net js (event ∷ turn ∷ earlier) = subst (AreShown net js) is shown in
    let first : IsNext net js earlier turn = record { rules = rules; rates = rest; before = rates_rest turn earlier rest; shown = are.1.0 } in
    let next : IsNext net js (turn ∷ earlier) event = record { rules = rules; rates = all; before = rest; shown = are.0 } in
    let why2 = subst (λ l. (b ≡ true) ⊎ (Touches net js l event actor → ⊥)) is why in
    subst (λ l. IsActorSettled net js l actor b) (sym is)
    (stays_by net js (turn ∷ earlier) event next actor b low why2 (turn_on net js earlier event turn first its actor b low settled))

pub stays_settled : (net : Topology) (js : RunJournals) (old new : Progress) (event : Event) → IsWithinRules net → IsProgress net js new → HasPlaced net event old.events.items new.events.items → (actor : Actor) (b : Bool) →
    ((c : ℕ) → actor ≡ Source c → c < length net.conns) → (b ≡ true) ⊎ (Touches net js (reverse new.events.items) event actor → ⊥) →
    IsActorSettled net js (reverse old.events.items) actor b → IsActorSettled net js (reverse new.events.items) actor b
stays_settled net js old new event rules progress (inl one) actor b low why settled =
    let is : reverse new.events.items ≡ event ∷ reverse old.events.items = ap (λ l. reverse l) one ∙ pushed old.events.items event in
    placed_one net js (reverse old.events.items) (reverse new.events.items) event rules (all_reversed AsksRate new.events.items progress.stands.rates) progress.shown is actor b low why settled
stays_settled net js old new event rules progress (inr two) actor b low why settled =
    let turn = two.0 in
    let is : reverse new.events.items ≡ event ∷ turn ∷ reverse old.events.items =
    ap (λ l. reverse l) two.2 ∙ pushed (old.events.items ++ turn ∷ []) event ∙ ap (λ l. event ∷ l) (pushed old.events.items turn) in
    placed_two net js (reverse old.events.items) (reverse new.events.items) event turn rules (all_reversed AsksRate new.events.items progress.stands.rates) progress.shown is two.1 actor b low why settled

source_low : (net : Topology) (i c : ℕ) → actor_at net i ≡ Source c → c < length net.conns
source_low net i c e = elim (cases_actor net i) [
  | inl source ↦ (let both : Source i ≡ Source c = sym source.1 ∙ e in let same : i ≡ c = cc in subst (λ n. n < length net.conns) same source.0)
  | inr port ↦ (let clash : Port port.0 ≡ Source c = sym port.2 ∙ e in absurd (cc))
]

-- The mark of an actor that was looked at is noted.
pub record IsNoted (number : ℕ) (mark : Bool) (old new : Queue) : Type 0 where
  pub ready : new.ready.items ≡ old.ready.items
  pub woken : new.woken.items ≡ old.woken.items
  pub marks : new.marks.items ≡ set old.marks.items number mark

noted_queue : (n number : ℕ) (mark : Bool) (old new : Queue) → IsQueue n old → slice_get old.woken.items number ≡ Some false → IsNoted number mark old new → IsQueue n new
noted_queue n number mark old new queue taken noted = record {
  woken_count = ap (λ l. length l) noted.woken ∙ queue.woken_count;
  mark_count = ap (λ l. length l) noted.marks ∙ length-set old.marks.items number mark ∙ queue.mark_count;
  low = subst (All (λ i. i < n)) (sym noted.ready) queue.low;
  listed = λ i up. subst (λ l. Contains l i) (sym noted.ready) (queue.listed i (sym (ap (λ l. slice_get l i) noted.woken) ∙ up));
  unmarked = λ i up.
      (let was = sym (ap (λ l. slice_get l i) noted.woken) ∙ up in
      let differ : i ≢ number = λ e. not_both old.woken.items number (subst (λ j. slice_get old.woken.items j ≡ Some true) e was) taken in
      ap (λ l. slice_get l i) noted.marks ∙ get_set_other old.marks.items number i mark differ ∙ queue.unmarked i was);
}

-- nothing was placed
pub waited : (net : Topology) (js : RunJournals) (earlier : List Event) (number : ℕ) (mark : Bool) (old new : Queue) → number < actor_count net → slice_get old.woken.items number ≡ Some false → IsWaiting net js earlier (λ i. i ≡ number) old →
    IsNoted number mark old new → IsActorSettled net js earlier (actor_at net number) mark → IsWaiting net js earlier NoOne new
waited net js earlier number mark old new low taken waiting noted settled = record {
  queue_is = noted_queue (actor_count net) number mark old new waiting.queue_is taken noted;
  settled = λ i b none off marked. elim (cases_eq i number) [
    | inl e ↦ (
        let there : slice_get new.marks.items number ≡ Some mark = ap (λ l. slice_get l number) noted.marks ∙ get_set old.marks.items number mark (subst (λ n. number < n) (sym waiting.queue_is.mark_count) low) in
        let same : mark ≡ b = some_same (sym there ∙ ap (slice_get new.marks.items) (sym e) ∙ marked) in
        subst (λ j. IsActorSettled net js earlier (actor_at net j) b) (sym e) (subst (IsActorSettled net js earlier (actor_at net number)) same settled))
    | inr differ ↦ waiting.settled i b differ (sym (ap (λ l. slice_get l i) noted.woken) ∙ off)
        (sym (ap (λ l. slice_get l i) noted.marks ∙ get_set_other old.marks.items number i mark differ) ∙ marked)
  ];
}

up_if : (queue : Queue) (i : ℕ) → slice_get queue.woken.items i ≡ Some false → slice_get queue.marks.items i ≡ Some false → IsUp queue i → ⊥
up_if queue i off unmarked (inl woken) = not_both queue.woken.items i woken off
up_if queue i off unmarked (inr marked) = not_both queue.marks.items i marked unmarked

get_some : (b : Bool) (xs : List Bool) (i : ℕ) → slice_get xs i ≡ Some b → (b ≡ true) ⊎ (slice_get xs i ≡ Some false)
get_some true xs i e = inl refl
get_some false xs i e = inr e

-- a flag is up or down
flag_down : (xs ys : List Bool) (i : ℕ) → length ys ≡ length xs → (slice_get xs i ≡ Some true → slice_get ys i ≡ Some true) → slice_get ys i ≡ Some false → slice_get xs i ≡ Some false
flag_down xs ys i same keeps off =
    let low : i < length xs = subst (λ n. i < n) same (slice_get_within ys i false off) in
    let is = slice_get-get_or xs i false low in
    elim (cases_Bool (get_or xs i false)) [
      | inl up ↦ absurd (not_both ys i (keeps (is ∙ ap (λ b. Some b) up)) off)
      | inr down ↦ is ∙ ap (λ b. Some b) down
    ]

-- an event was placed, and whom it touches was woken, with the actor whose entry it was
pub woken_on : (net : Topology) (js : RunJournals) (old new : Progress) (event : Event) (number : ℕ) (queue noted also after : Queue) → IsWithinRules net → IsProgress net js new → HasPlaced net event old.events.items new.events.items → number < actor_count net →
    slice_get queue.woken.items number ≡ Some false → IsWaiting net js (reverse old.events.items) (λ i. i ≡ number) queue → IsNoted number false queue noted → Wakes (λ i. i ≡ number) noted also →
    Wakes (AreTouched net js (reverse new.events.items) event) also after → IsQueue (actor_count net) after → IsWaiting net js (reverse new.events.items) NoOne after
woken_on net js old new event number queue noted also after rules progress placed low taken waiting is own others queue_is = record {
  queue_is = queue_is;
  settled = λ i b none off marked.
      (let marks : slice_get noted.marks.items i ≡ Some b = sym (ap (λ l. slice_get l i) (others.marks ∙ own.marks)) ∙ marked in
      let before : slice_get also.woken.items i ≡ Some false = flag_down also.woken.items after.woken.items i others.count (others.keeps i) off in
      let first : slice_get noted.woken.items i ≡ Some false = flag_down noted.woken.items also.woken.items i own.count (own.keeps i) before in
      let here : slice_get noted.marks.items number ≡ Some false = ap (λ l. slice_get l number) is.marks ∙ get_set queue.marks.items number false (subst (λ n. number < n) (sym waiting.queue_is.mark_count) low) in
      let differ : i ≢ number = λ e. up_if also i before
      (ap (λ l. slice_get l i) own.marks ∙ ap (slice_get noted.marks.items) e ∙ here) (own.wakes i e) in
      let was : slice_get queue.marks.items i ≡ Some b = sym (ap (λ l. slice_get l i) is.marks ∙ get_set_other queue.marks.items number i false differ) ∙ marks in
      let settled = waiting.settled i b differ (sym (ap (λ l. slice_get l i) is.woken) ∙ first) was in
      let low_i : i < actor_count net = subst (λ n. i < n) queue_is.woken_count (slice_get_within after.woken.items i false off) in
      let why : (b ≡ true) ⊎ (Touches net js (reverse new.events.items) event (actor_at net i) → ⊥) = elim (get_some b after.marks.items i marked) [
        | inl up ↦ inl up
        | inr unmarked ↦ inr (λ touched. up_if after i off unmarked (others.wakes i (low_i, touched)))
      ] in
      stays_settled net js old new event rules progress placed (actor_at net i) b (source_low net i) why settled);
}

pub noted_as : (number k : ℕ) (mark b : Bool) (old new : Queue) → new.ready.items ≡ old.ready.items → new.woken.items ≡ old.woken.items → new.marks.items ≡ set old.marks.items k b → k ≡ number → b ≡ mark → IsNoted number mark old new
noted_as number k mark b old new ready woken marks same is = record { ready = ready; woken = woken; marks = marks ∙ ap (λ j. set old.marks.items j b) same ∙ ap (set old.marks.items number) is }

pub noted_is : (n number : ℕ) (mark : Bool) (old new : Queue) → IsQueue n old → slice_get old.woken.items number ≡ Some false → IsNoted number mark old new → IsQueue (length new.woken.items) new
noted_is n number mark old new queue taken noted = sized n new (noted_queue n number mark old new queue taken noted)

-- what a look that places nothing has done
pub after_wait : (net : Topology) (js : RunJournals) (settled : List Event → Bool → Type 0) (old new : Progress) (look : Look) → ((event : Event) → look ≢ Placed event) → IsAfterLook net js settled old new look →
    IsProgress net js new × (new.events.items ≡ old.events.items) × (count new ≡ count old) × settled (reverse old.events.items) (is_mismatch look)
after_wait net js settled old new (Placed event) never h = absurd (never event refl)
after_wait net js settled old new Waits never h = h
after_wait net js settled old new Mismatches never h = h

pub waits_still : (net : Topology) (js : RunJournals) (but : ℕ → Type 0) (queue : Queue) (one other : List Event) → one ≡ other → IsWaiting net js (reverse one) but queue → IsWaiting net js (reverse other) but queue
waits_still net js but queue one other same is = subst (λ l. IsWaiting net js (reverse l) but queue) same is

-- in an empty queue no flag is up
empty_down : (net : Topology) (queue : Queue) → IsQueue (actor_count net) queue → queue.ready.items ≡ [] → (i : ℕ) → i < actor_count net → slice_get queue.woken.items i ≡ Some false
empty_down net queue is none i low =
    let at = slice_get-get_or queue.woken.items i false (subst (λ n. i < n) (sym is.woken_count) low) in
    elim (cases_Bool (get_or queue.woken.items i false)) [
      | inl up ↦ absurd (empty_none i (subst (λ l. Contains l i) none (is.listed i (at ∙ ap (λ b. Some b) up))))
      | inr off ↦ at ∙ ap (λ b. Some b) off
    ]
  where
    empty_none : (i : ℕ) → Contains {X = ℕ} [] i → ⊥
    empty_none i (k, low, is) = omega (arith, low)

-- an empty queue settles all
pub none_left : (net : Topology) (js : RunJournals) (earlier : List Event) (queue : Queue) → IsWaiting net js earlier NoOne queue → queue.ready.items ≡ [] → AreSettled net js earlier (actor_count net) queue.marks.items
none_left net js earlier queue waiting none = record {
  count_is = waiting.queue_is.mark_count;
  each = λ i b marked. waiting.settled i b (λ never. never) (empty_down net queue waiting.queue_is none i (subst (λ n. i < n) waiting.queue_is.mark_count (slice_get_within queue.marks.items i b marked))) marked;
}

-- the first is taken out
pub taken_on : (net : Topology) (js : RunJournals) (earlier : List Event) (old new : Queue) (number : ℕ) → IsWaiting net js earlier NoOne old → IsFirst old new number → IsWaiting net js earlier (λ i. i ≡ number) new × (number < actor_count net)
taken_on net js earlier old new number waiting first = (
  record {
    queue_is = subst (λ n. IsQueue n new) waiting.queue_is.woken_count first.queue_is;
    settled = λ i b differ off marked. waiting.settled i b (λ never. never) (sym (first.others i differ) ∙ off) (sym (ap (λ l. slice_get l i) first.marks) ∙ marked);
  },
  (let all : All (λ i. i < actor_count net) (number ∷ new.ready.items) = subst (All (λ i. i < actor_count net)) first.first waiting.queue_is.low in all 0 number (omega arith)),
)

pub empty_on : (net : Topology) (js : RunJournals) (earlier : List Event) (old new : Queue) → IsWaiting net js earlier NoOne old → IsEmpty old new → IsWaiting net js earlier NoOne new
empty_on net js earlier old new waiting empty = record {
  queue_is = record {
    woken_count = ap (λ l. length l) empty.woken ∙ waiting.queue_is.woken_count;
    mark_count = ap (λ l. length l) empty.marks ∙ waiting.queue_is.mark_count;
    low = subst (All (λ i. i < actor_count net)) (empty.was ∙ sym empty.none) waiting.queue_is.low;
    listed = λ i up. subst (λ l. Contains l i) (empty.was ∙ sym empty.none) (waiting.queue_is.listed i (sym (ap (λ l. slice_get l i) empty.woken) ∙ up));
    unmarked = λ i up. ap (λ l. slice_get l i) empty.marks ∙ waiting.queue_is.unmarked i (sym (ap (λ l. slice_get l i) empty.woken) ∙ up);
  };
  settled = λ i b never off marked. waiting.settled i b never (sym (ap (λ l. slice_get l i) empty.woken) ∙ off) (sym (ap (λ l. slice_get l i) empty.marks) ∙ marked);
}

-- all are to be looked at
pub all_waiting : (net : Topology) (js : RunJournals) (earlier : List Event) (queue : Queue) → AreAllReady (actor_count net) queue → IsWaiting net js earlier NoOne queue
all_waiting net js earlier queue all = record {
  queue_is = all.queue_is;
  settled = λ i b never off marked. absurd (not_both queue.woken.items i (all.all i (subst (λ n. i < n) all.queue_is.woken_count (slice_get_within queue.woken.items i false off))) off);
}
