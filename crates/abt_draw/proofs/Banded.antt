-- Bands that are held when a text has grown, and frames in which nothing of a band changes.
use Rattle.std.proofs.Common.{◌≡◌, ◌≤◌, ◌<◌, ◌+◌, ◌⊎◌, inl, inr, ℕ, List, [], ◌∷◌, zero, suc, arith, sym, subst, ap, ◌∙◌}
use Rattle.std.specs.Prelude.{◌≢◌, Option, Some, max, slice_get, sum, unwrap_or}
use Rattle.abt_chart.specs.declared.frame.Frame.{Frame}
use Rattle.abt_draw.specs.Bands.{block_in, HasBlock, HasStack, HasLevel, DrawsPort, DrawsSource, HasName, HasPortBand, HasSourceBand, HasPortBands, HasSourceBands, HasBands, stack_in, capacity_in, rate_in, least_in, most_at, most_of}
use Rattle.abt_draw.specs.Blocks.{AreBlocks}
use Rattle.abt_draw.specs.Within.{Grows}
use Rattle.abt_draw.specs.declared.actor.Actor.{Actor}
use Rattle.abt_draw.specs.declared.actor.Actor.TheVariants.{Port, Source}
use Rattle.abt_draw.specs.declared.block.Block.{Block}
use Rattle.abt_draw.specs.declared.sheet.Sheet.{Sheet}
use Rattle.abt_draw.proofs.Within.{holds_still}

pub block_still : (base c held : ℕ) (block : Block) (old new : List ℕ) → Grows old new → HasBlock base c held block old → HasBlock base c held block new
block_still base c held block old new grows has = record { x = has.x; width = has.width; rect = holds_still old new _ grows has.rect }

pub stack_still : (base most : ℕ) (stack old new : List ℕ) → Grows old new → HasStack base most stack old → HasStack base most stack new
stack_still base most stack old new grows has = record { each = λ c held is some. block_still base c held _ old new grows (has.each c held is some) }

pub level_still : (class what : List ℕ) (base most units : ℕ) (old new : List ℕ) → Grows old new → HasLevel class what base most units old
    → HasLevel class what base most units new
level_still class what base most units old new grows has = record { from = has.from; to = has.to; line = holds_still old new _ grows has.line }

pub port_still : (base most : ℕ) (stack : List ℕ) (capacity : ℕ) (old new : List ℕ) → Grows old new
    → DrawsPort base most stack capacity old → DrawsPort base most stack capacity new
port_still base most stack capacity old new grows drawn = record {
  stack = λ fits. stack_still base most stack old new grows (drawn.stack fits);
  capacity = level_still _ _ base most capacity old new grows drawn.capacity;
}

pub source_still : (base most rate least : ℕ) (old new : List ℕ) → Grows old new
    → DrawsSource base most rate least old → DrawsSource base most rate least new
source_still base most rate least old new grows drawn =
    record { rate = level_still _ _ base most rate old new grows drawn.rate; least = level_still _ _ base most least old new grows drawn.least }

pub name_still : (who : Actor) (old new : List ℕ) → Grows old new → HasName who old → HasName who new
name_still who old new grows has = record { place = has.place; name = holds_still old new _ grows has.name }

pub port_band_still : (sheet : Sheet) (port : ℕ) (old new : List ℕ) → Grows old new → HasPortBand sheet port old → HasPortBand sheet port new
port_band_still sheet port old new grows has = record {
  base = has.base;
  name = name_still _ old new grows has.name;
  each = λ k frame is. port_still has.base _ _ _ old new grows (has.each k frame is);
}

pub source_band_still : (sheet : Sheet) (c : ℕ) (old new : List ℕ) → Grows old new → HasSourceBand sheet c old → HasSourceBand sheet c new
source_band_still sheet c old new grows has = record {
  base = has.base;
  name = name_still _ old new grows has.name;
  each = λ k frame is. source_still has.base _ _ _ old new grows (has.each k frame is);
}

pub port_bands_still : (sheet : Sheet) (old new : List ℕ) → Grows old new → HasPortBands sheet old → HasPortBands sheet new
port_bands_still sheet old new grows has = λ column port is. port_band_still sheet port old new grows (has column port is)

pub source_bands_still : (sheet : Sheet) (old new : List ℕ) → Grows old new → HasSourceBands sheet old → HasSourceBands sheet new
source_bands_still sheet old new grows has = λ column c is. source_band_still sheet c old new grows (has column c is)

pub bands_still : (sheet : Sheet) (old new : List ℕ) → Grows old new → HasBands sheet old → HasBands sheet new
bands_still sheet old new grows has =
    record { ports = port_bands_still sheet old new grows has.ports; sources = source_bands_still sheet old new grows has.sources }

-- A value is at most the greatest of those that it is one of.
le_max : (a b : ℕ) → a ≤ max a b
le_max a b = grind arith

le_max_of : (a b c : ℕ) → a ≤ b → a ≤ max c b
le_max_of a b c low = grind (low, arith)

some_is : (one other : Frame) → Some one ≡ Some other → one ≡ other
some_is one other same = cc

pub capacity_at_most : (frames : List Frame) (port k : ℕ) (frame : Frame) → slice_get frames k ≡ Some frame → capacity_in frame port ≤ most_at frames port
capacity_at_most [] port k frame is = absurd cc
capacity_at_most (first ∷ frames) port zero frame is =
    subst (λ (it : Frame). capacity_in it port ≤ most_at (first ∷ frames) port) (some_is first frame is) (le_max (capacity_in first port) (most_at frames port))
capacity_at_most (first ∷ frames) port (suc k) frame is =
    le_max_of (capacity_in frame port) (most_at frames port) (capacity_in first port) (capacity_at_most frames port k frame is)

le_first : (a b c : ℕ) → a ≤ max (max a b) c
le_first a b c = grind arith

le_second : (a b c : ℕ) → b ≤ max (max a b) c
le_second a b c = grind arith

pub rate_at_most : (frames : List Frame) (c k : ℕ) (frame : Frame) → slice_get frames k ≡ Some frame → rate_in frame c ≤ most_of frames c
rate_at_most [] c k frame is = absurd cc
rate_at_most (first ∷ frames) c zero frame is =
    subst (λ (it : Frame). rate_in it c ≤ most_of (first ∷ frames) c) (some_is first frame is) (le_first (rate_in first c) (least_in first c) (most_of frames c))
rate_at_most (first ∷ frames) c (suc k) frame is =
    le_max_of (rate_in frame c) (most_of frames c) (max (rate_in first c) (least_in first c)) (rate_at_most frames c k frame is)

pub least_at_most : (frames : List Frame) (c k : ℕ) (frame : Frame) → slice_get frames k ≡ Some frame → least_in frame c ≤ most_of frames c
least_at_most [] c k frame is = absurd cc
least_at_most (first ∷ frames) c zero frame is =
    subst (λ (it : Frame). least_in it c ≤ most_of (first ∷ frames) c) (some_is first frame is) (le_second (rate_in first c) (least_in first c) (most_of frames c))
least_at_most (first ∷ frames) c (suc k) frame is =
    le_max_of (least_in frame c) (most_of frames c) (max (rate_in first c) (least_in first c)) (least_at_most frames c k frame is)

-- a line of a rate that is another's, by its words
pub level_at : (class what its_class its_what : List ℕ) (base most units its : ℕ) (text : List ℕ) → class ≡ its_class → what ≡ its_what → units ≡ its
    → HasLevel class what base most units text → HasLevel its_class its_what base most its text
level_at class what its_class its_what base most units its text class_is what_is is has = rw (class_is, what_is, is) at has

-- Frames in which a port, or a source, has the same.
pub record SamePort (port : ℕ) (one other : Frame) : Type 0 where
  pub stack : stack_in one port ≡ stack_in other port
  pub capacity : capacity_in one port ≡ capacity_in other port

pub record SameSource (c : ℕ) (one other : Frame) : Type 0 where
  pub rate : rate_in one c ≡ rate_in other c
  pub least : least_in one c ≡ least_in other c

-- From a place on up to another one all frames have what that one has.
abbrev pub SameTo : (Same : Frame → Frame → Type 0) → List Frame → (first place : ℕ) → Type 0
SameTo Same frames first place = (k : ℕ) (frame its : Frame) → first ≤ k → k ≤ place → slice_get frames k ≡ Some frame
    → slice_get frames place ≡ Some its → Same frame its

before_or_from : (k first : ℕ) → (k < first) ⊎ (first ≤ k)
before_or_from k first = grind arith

draws_port : (base most : ℕ) (held its : List ℕ) (limit most_here : ℕ) (text : List ℕ) → held ≡ its → limit ≡ most_here
    → DrawsPort base most its most_here text → DrawsPort base most held limit text
draws_port base most held its limit most_here text held_is limit_is drawn = rw (← held_is, ← limit_is) at drawn

pub draws_source : (base most rate its least its_least : ℕ) (text : List ℕ) → rate ≡ its → least ≡ its_least
    → DrawsSource base most its its_least text → DrawsSource base most rate least text
draws_source base most rate its least its_least text rate_is least_is drawn = rw (← rate_is, ← least_is) at drawn

-- all frames up to a place are drawn, if those before it are from which on nothing changed, and it is
pub ports_on : (frames : List Frame) (port base most first place : ℕ) (its : Frame) (old new : List ℕ) → SameTo (SamePort port) frames first place
    → ((k : ℕ) (frame : Frame) → k < first → slice_get frames k ≡ Some frame → DrawsPort base most (stack_in frame port) (capacity_in frame port) old)
    → Grows old new → slice_get frames place ≡ Some its → DrawsPort base most (stack_in its port) (capacity_in its port) new
    → (k : ℕ) (frame : Frame) → k < place + 1 → slice_get frames k ≡ Some frame → DrawsPort base most (stack_in frame port) (capacity_in frame port) new
ports_on frames port base most first place its old new same before grows its_is drawn k frame low is = elim (before_or_from k first) [
  | inl lower ↦ port_still base most (stack_in frame port) (capacity_in frame port) old new grows (before k frame lower is)
  | inr from ↦ (
      let alike = same k frame its from (omega (arith, low)) is its_is in
      draws_port base most (stack_in frame port) (stack_in its port) (capacity_in frame port) (capacity_in its port) new alike.stack alike.capacity drawn)
]

pub sources_on : (frames : List Frame) (c base most first place : ℕ) (its : Frame) (old new : List ℕ) → SameTo (SameSource c) frames first place
    → ((k : ℕ) (frame : Frame) → k < first → slice_get frames k ≡ Some frame → DrawsSource base most (rate_in frame c) (least_in frame c) old)
    → Grows old new → slice_get frames place ≡ Some its → DrawsSource base most (rate_in its c) (least_in its c) new
    → (k : ℕ) (frame : Frame) → k < place + 1 → slice_get frames k ≡ Some frame → DrawsSource base most (rate_in frame c) (least_in frame c) new
sources_on frames c base most first place its old new same before grows its_is drawn k frame low is = elim (before_or_from k first) [
  | inl lower ↦ source_still base most (rate_in frame c) (least_in frame c) old new grows (before k frame lower is)
  | inr from ↦ (
      let alike = same k frame its from (omega (arith, low)) is its_is in
      draws_source base most (rate_in frame c) (rate_in its c) (least_in frame c) (least_in its c) new alike.rate alike.least drawn)
]

up_to_or_next : (k place : ℕ) → k ≤ place + 1 → (k ≤ place) ⊎ (k ≡ place + 1)
up_to_or_next k place low = grind (low, arith)

same_place : (frames : List Frame) (k place : ℕ) (frame its : Frame) → k ≡ place → slice_get frames k ≡ Some frame → slice_get frames place ≡ Some its
    → frame ≡ its
same_place frames k place frame its k_is is its_is = some_is frame its (sym is ∙ ap (slice_get frames) k_is ∙ its_is)

-- nothing changed up to the next place either, if it has what this one has
pub port_goes_on : (frames : List Frame) (port first place : ℕ) (its next : Frame) → SameTo (SamePort port) frames first place
    → slice_get frames place ≡ Some its → slice_get frames (place + 1) ≡ Some next → SamePort port its next → SameTo (SamePort port) frames first (place + 1)
port_goes_on frames port first place its next same its_is next_is alike = λ k frame other from to is other_is.
    let last : next ≡ other = some_is next other (sym next_is ∙ other_is) in
    elim (up_to_or_next k place to) [
      | inl before ↦ (
          let own = same k frame its from before is its_is in
          record {
            stack = own.stack ∙ alike.stack ∙ ap (λ it. stack_in it port) last;
            capacity = own.capacity ∙ alike.capacity ∙ ap (λ it. capacity_in it port) last;
          })
      | inr behind ↦ (
          let whole = same_place frames k (place + 1) frame other behind is other_is in
          record { stack = ap (λ it. stack_in it port) whole; capacity = ap (λ it. capacity_in it port) whole })
    ]

pub source_goes_on : (frames : List Frame) (c first place : ℕ) (its next : Frame) → SameTo (SameSource c) frames first place
    → slice_get frames place ≡ Some its → slice_get frames (place + 1) ≡ Some next → SameSource c its next → SameTo (SameSource c) frames first (place + 1)
source_goes_on frames c first place its next same its_is next_is alike = λ k frame other from to is other_is.
    let last : next ≡ other = some_is next other (sym next_is ∙ other_is) in
    elim (up_to_or_next k place to) [
      | inl before ↦ (
          let own = same k frame its from before is its_is in
          record {
            rate = own.rate ∙ alike.rate ∙ ap (λ it. rate_in it c) last;
            least = own.least ∙ alike.least ∙ ap (λ it. least_in it c) last;
          })
      | inr behind ↦ (
          let whole = same_place frames k (place + 1) frame other behind is other_is in
          record { rate = ap (λ it. rate_in it c) whole; least = ap (λ it. least_in it c) whole })
    ]

only_at : (k place : ℕ) → place ≤ k → k ≤ place → k ≡ place
only_at k place from to = grind (from, to, arith)

-- a place alone has what it has
pub port_alone : (frames : List Frame) (port place : ℕ) → SameTo (SamePort port) frames place place
port_alone frames port place = λ k frame its from to is its_is.
    let whole = same_place frames k place frame its (only_at k place from to) is its_is in
    record { stack = ap (λ it. stack_in it port) whole; capacity = ap (λ it. capacity_in it port) whole }

pub source_alone : (frames : List Frame) (c place : ℕ) → SameTo (SameSource c) frames place place
source_alone frames c place = λ k frame its from to is its_is.
    let whole = same_place frames k place frame its (only_at k place from to) is its_is in
    record { rate = ap (λ it. rate_in it c) whole; least = ap (λ it. least_in it c) whole }

pub before_or_last : (a b : ℕ) → a < b + 1 → (a < b) ⊎ (a ≡ b)
before_or_last a b low = grind arith

block_same : (base c held : ℕ) (block its : Block) (text : List ℕ) → block.top ≡ its.top → block.bottom ≡ its.bottom → HasBlock base c held block text
    → HasBlock base c held its text
block_same base c held block its text top bottom has = record { x = has.x; width = has.width; rect = rw (top, bottom) at has.rect }

block_last : (base most k c held here : ℕ) (stack text : List ℕ) → k ≡ c → here ≡ held → HasBlock base c here (block_in stack most c) text
    → HasBlock base k held (block_in stack most k) text
block_last base most k c held here stack text is held_is has = rw (is, ← held_is) has

held_is : (stack : List ℕ) (c held here : ℕ) → here ≡ unwrap_or (slice_get stack c) 0 → slice_get stack c ≡ Some held → here ≡ held
held_is stack c held here is some = is ∙ ap (λ (it : Option ℕ). unwrap_or it 0) some

-- a connection more of a stack
pub blocks_on : (base most c here : ℕ) (stack : List ℕ) (blocks : List Block) (its : Block) (old new : List ℕ) → (sum stack ≤ most → AreBlocks stack most blocks)
    → slice_get blocks c ≡ Some its → here ≡ unwrap_or (slice_get stack c) 0 → Grows old new
    → ((k held : ℕ) → k < c → sum stack ≤ most → slice_get stack k ≡ Some held → held ≢ 0 → HasBlock base k held (block_in stack most k) old)
    → (here ≢ 0 → HasBlock base c here its new)
    → (k held : ℕ) → k < c + 1 → sum stack ≤ most → slice_get stack k ≡ Some held → held ≢ 0 → HasBlock base k held (block_in stack most k) new
blocks_on base most c here stack blocks its old new are its_is here_is grows before drawn k held low fits is some = elim (before_or_last k c low) [
  | inl lower ↦ block_still base k held _ old new grows (before k held lower fits is some)
  | inr last ↦ (
      let one = (are fits).each c its its_is in
      let own = held_is stack c held here here_is (rw last at is) in
      block_last base most k c held here stack new last own
      (block_same base c here its (block_in stack most c) new one.top one.bottom (drawn (rw own some))))
]

same_port : (one other : ℕ) → Port one ≡ Port other → one ≡ other
same_port one other same = cc

same_source : (one other : ℕ) → Source one ≡ Source other → one ≡ other
same_source one other same = cc

-- a band whose name stands there and whose frames are drawn
pub port_band : (sheet : Sheet) (who : Actor) (port its base most : ℕ) (frames : List Frame) (old new : List ℕ) → who ≡ Port its
    → frames ≡ sheet.chart.now.frames → most ≡ most_at frames its → HasName (Port its) old → Grows old new
    → ((k : ℕ) (frame : Frame) → slice_get sheet.chart.now.frames k ≡ Some frame → DrawsPort base most (stack_in frame its) (capacity_in frame its) new)
    → who ≡ Port port → HasPortBand sheet port new
port_band sheet who port its base most frames old new who_is frames_are most_is name grows drawn is =
    let same = same_port its port (sym who_is ∙ is) in
    record {
      base = base;
      name = subst (λ (n : ℕ). HasName (Port n) new) same (name_still (Port its) old new grows name);
      each = λ k frame some. rw (most_is, frames_are, same) at drawn k frame some;
    }

pub source_band : (sheet : Sheet) (who : Actor) (c its base most : ℕ) (frames : List Frame) (old new : List ℕ) → who ≡ Source its
    → frames ≡ sheet.chart.now.frames → most ≡ most_of frames its → HasName (Source its) old → Grows old new
    → ((k : ℕ) (frame : Frame) → slice_get sheet.chart.now.frames k ≡ Some frame → DrawsSource base most (rate_in frame its) (least_in frame its) new)
    → who ≡ Source c → HasSourceBand sheet c new
source_band sheet who c its base most frames old new who_is frames_are most_is name grows drawn is =
    let same = same_source its c (sym who_is ∙ is) in
    record {
      base = base;
      name = subst (λ (n : ℕ). HasName (Source n) new) same (name_still (Source its) old new grows name);
      each = λ k frame some. rw (most_is, frames_are, same) at drawn k frame some;
    }
