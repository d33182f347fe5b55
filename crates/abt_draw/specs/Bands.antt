-- The bands of a picture, below the chart of messages (docs/PICTURES.md, "Drawing"): what each port holds at each moment that is shown, under
-- its capacity, and at which rate each source shapes, under the least that its path holds for it. Where along the axis it stands isn't said.
use Rattle.std.specs.Prelude.{◌≡◌, ◌≢◌, ◌≤◌, ◌==◌, ℕ, ◌+◌, ◌-◌, ◌/◌, ◌%◌, if◌then◌else◌, max, List, [], ◌∷◌, sum, take, Some, unwrap_or, slice_get, codes}
use Rattle.abt_text.specs.Text.{Text, ◌⋅◌, decimal}
use Rattle.abt_chart.specs.declared.frame.Frame.{Frame}
use Rattle.abt_draw.specs.Blocks.{height_of}
use Rattle.abt_draw.specs.Elements.{told_line_text, told_rect_text, label_text}
use Rattle.abt_draw.specs.Lifelines.{kind_name, number_of}
use Rattle.abt_draw.specs.Within.{Holds}
use Rattle.abt_draw.specs.declared.actor.Actor.{Actor}
use Rattle.abt_draw.specs.declared.actor.Actor.TheVariants.{Source, Port}
use Rattle.abt_draw.specs.declared.block.Block.{Block}
use Rattle.abt_draw.specs.declared.point.Point.{Point}
use Rattle.abt_draw.specs.declared.sheet.Sheet.{Sheet}

-- what each connection holds on a port, and the port's capacity
abbrev pub stack_in : Frame → (port : ℕ) → List ℕ
stack_in frame port = unwrap_or (slice_get frame.stacks port) []

abbrev pub capacity_in : Frame → (port : ℕ) → ℕ
capacity_in frame port = unwrap_or (slice_get frame.capacities port) 0

-- the rate of a source, and the least that is held for it
abbrev pub rate_in : Frame → (c : ℕ) → ℕ
rate_in frame c = unwrap_or (slice_get frame.rates c) 0

abbrev pub least_in : Frame → (c : ℕ) → ℕ
least_in frame c = unwrap_or (slice_get frame.leasts c) 0

-- what a band has room for: the greatest capacity of a port, or the greatest rate that a source has or that is held for it
abbrev pub most_at : List Frame → (port : ℕ) → ℕ
most_at [] port = 0
most_at (frame ∷ frames) port = max (capacity_in frame port) (most_at frames port)

abbrev pub most_of : List Frame → (c : ℕ) → ℕ
most_of [] c = 0
most_of (frame ∷ frames) c = max (max (rate_in frame c) (least_in frame c)) (most_of frames c)

-- a rate in whole cells per second, with a sign behind it if more than that is meant; units are 1/512 cell/s
abbrev pub more_of : (units : ℕ) → Text
more_of units = if units % 512 == 0 then [] else codes "+"

abbrev pub short_rate : (units : ℕ) → Text
short_rate units = decimal (units / 512) ⋅ more_of units

-- what is told of a rate: what it is of, the rate, and its unit
abbrev pub told_rate : (what : Text) → (units : ℕ) → Text
told_rate what units = what ⋅ codes " " ⋅ short_rate units ⋅ codes " cells/s"

-- what is told of what a connection holds
abbrev pub told_hold : (c held : ℕ) → Text
told_hold c held = told_rate (codes "c" ⋅ decimal c ⋅ codes " holds") held

-- a connection's colour, one of six
abbrev pub class_of : (c : ℕ) → Text
class_of c = codes "hold h" ⋅ decimal (c % 6)

-- the block of a connection stands upon those of the connections before it
abbrev pub block_in : List ℕ → (most c : ℕ) → Block
block_in stack most c = record { bottom = height_of (sum (take c stack)) most; top = height_of (sum (take (c + 1) stack)) most }

-- A block in the colour of connection c stands somewhere above the base of a band, as high as it is, and tells what the connection holds.
pub record HasBlock (base c held : ℕ) (block : Block) (text : Text) : Type 0 where
  pub x : ℕ
  pub width : ℕ
  pub rect : Holds text (told_rect_text (class_of c) (record { x = x; y = base - block.top }) (record { width = width; height = block.top - block.bottom })
      (told_hold c held))

-- Each connection that holds something has its block.
pub record HasStack (base most : ℕ) (stack : List ℕ) (text : Text) : Type 0 where
  pub each : (c held : ℕ) → slice_get stack c ≡ Some held → held ≢ 0 → HasBlock base c held (block_in stack most c) text

-- A level line of this kind stands at the height of a rate above the base of a band, and tells the rate.
pub record HasLevel (class what : Text) (base most units : ℕ) (text : Text) : Type 0 where
  pub from : ℕ
  pub to : ℕ
  pub line : Holds text (told_line_text class (record { x = from; y = base - height_of units most }) (record { x = to; y = base - height_of units most })
      (told_rate what units))

-- What is held on a port has its blocks, if it is no more than the capacity, and the capacity has a line.
pub record DrawsPort (base most : ℕ) (held : List ℕ) (limit : ℕ) (text : Text) : Type 0 where
  pub stack : sum held ≤ limit → HasStack base most held text
  pub capacity : HasLevel (codes "capacity") (codes "capacity") base most limit text

-- The rate of a source, and the least that is held for it, have a line each.
pub record DrawsSource (base most shaped kept : ℕ) (text : Text) : Type 0 where
  pub rate : HasLevel (codes "rate") (codes "shapes at") base most shaped text
  pub least : HasLevel (codes "least") (codes "held along the path: at least") base most kept text

-- Somewhere stands whose a band is.
pub record HasName (who : Actor) (text : Text) : Type 0 where
  pub place : Point
  pub name : Holds text (label_text (codes "band") place (kind_name who ⋅ codes " " ⋅ decimal (number_of who)))

-- The band of a port: one base, over which each frame is drawn.
pub record HasPortBand (sheet : Sheet) (port : ℕ) (text : Text) : Type 0 where
  pub base : ℕ
  pub name : HasName (Port port) text
  pub each : (k : ℕ) (frame : Frame) → slice_get sheet.chart.now.frames k ≡ Some frame
      → DrawsPort base (most_at sheet.chart.now.frames port) (stack_in frame port) (capacity_in frame port) text

pub record HasSourceBand (sheet : Sheet) (c : ℕ) (text : Text) : Type 0 where
  pub base : ℕ
  pub name : HasName (Source c) text
  pub each : (k : ℕ) (frame : Frame) → slice_get sheet.chart.now.frames k ≡ Some frame
      → DrawsSource base (most_of sheet.chart.now.frames c) (rate_in frame c) (least_in frame c) text

-- Each port that has a column has a band, and each source.
abbrev pub HasPortBands : Sheet → (text : Text) → Type 0
HasPortBands sheet text = (column port : ℕ) → slice_get sheet.columns.now column ≡ Some (Port port) → HasPortBand sheet port text

abbrev pub HasSourceBands : Sheet → (text : Text) → Type 0
HasSourceBands sheet text = (column c : ℕ) → slice_get sheet.columns.now column ≡ Some (Source c) → HasSourceBand sheet c text

pub record HasBands (sheet : Sheet) (text : Text) : Type 0 where
  pub ports : HasPortBands sheet text
  pub sources : HasSourceBands sheet text
