-- What the state of a port with a table of its connections stands for (docs/RULES.md, "Node"; docs/C.md, "A port with a table").
use Rattle.std.specs.Prelude.{◌≡◌, ◌≢◌, ℕ, zero, suc, ◌+◌, ◌*◌, ◌/◌, ◌%◌, ◌^◌, ◌<◌, ◌≤◌, ◌==◌, List, take, sum_by, slice_index, slice_index_or, if◌then◌else◌}
use Rattle.abt_cell.specs.Channel.{Channel}
use Rattle.abt_c.specs.Ports.{IsPort, IsConnection, channel_in, held_in}
use Rattle.abt_c.specs.States.{no_policer}
use Rattle.abt_c.specs.declared.port_state.AbtConnection.{AbtConnection}
use Rattle.abt_c.specs.declared.state.AbtPolicing.{AbtPolicing}
use Rattle.abt_c.specs.declared.table_state.AbtTable.{AbtTable}
use Rattle.abt_c.specs.declared.table_state.Found.{Found}
use Rattle.abt_c.specs.declared.table_state.Found.TheVariants.{Row, Unknown, Damaged}

-- eight letters, "abt tabl"
abbrev pub table_kind : ℕ
table_kind = 0x616274207461626c

-- a table has so many rows and so many chains
abbrev pub places : ℕ
places = 1024

-- stands for no row
abbrev pub nowhere : ℕ
nowhere = 1024

-- what is read past the end of a list of rows
abbrev pub no_connection : AbtConnection
no_connection = record { kind = 0; newest = 0; is_open = 0; vpi = 0; vci = 0; floor = 0; ask = 0 }

abbrev pub row_of : List AbtConnection → ℕ → AbtConnection
row_of rows i = slice_index_or rows i no_connection

abbrev pub policer_of : List AbtPolicing → ℕ → AbtPolicing
policer_of policers i = slice_index_or policers i no_policer

abbrev pub channel_of : List AbtConnection → ℕ → Channel
channel_of rows i = channel_in (row_of rows i)

-- the chain of a channel: the ten topmost of 32 bits of its 28 bits times 2^32 over the golden ratio
unfoldable pub chain_of : Channel → ℕ
chain_of vc = (65536 * vc.vpi + vc.vci) * 2654435769 % 2 ^ 32 / 2 ^ 22

-- the last of the first n rows in a chain
unfoldable pub last_of : List AbtConnection → (chain n : ℕ) → ℕ
last_of rows chain zero = nowhere
last_of rows chain (suc n) = if chain_of (channel_of rows n) == chain then n else last_of rows chain n

-- The state begins as that of a port with a table.
abbrev pub HasHead : AbtTable → Type 0
HasHead t = (t.kind ≡ table_kind) × IsPort t.port × (t.count ≤ places)

-- a row is that of a connection
abbrev pub IsRowOf : AbtTable → Channel → ℕ → Type 0
IsRowOf t vc i = (i < t.count) × (channel_of t.rows i ≡ vc)

-- a row that is found is that of the connection
abbrev pub IsFound : AbtTable → Channel → Found → Type 0
IsFound t vc (Row i) = IsRowOf t vc i
IsFound t vc Unknown = Unit {0}
IsFound t vc Damaged = Unit {0}

-- some row is that of the connection
abbrev pub HasRow : AbtTable → Channel → Type 0
HasRow t vc = (i : ℕ) × IsRowOf t vc i

-- no row is that of a connection
abbrev pub IsUnknown : AbtTable → Channel → Type 0
IsUnknown t vc = (i : ℕ) → i < t.count → channel_of t.rows i ≢ vc

-- The state is one of a port whose table is in order.
pub record IsTable (t : AbtTable) : Type 0 where
  pub head : HasHead t
  -- each row is a connection, and no two have one channel
  pub rows : (i : ℕ) → i < t.count → IsConnection (row_of t.rows i)
  pub apart : (i j : ℕ) → i < t.count → j < t.count → channel_of t.rows i ≡ channel_of t.rows j → i ≡ j
  -- of each chain the last row is told, and of each row the one before it in its chain
  pub last : (chain : ℕ) → chain < places → slice_index t.last chain ≡ last_of t.rows chain t.count
  pub before : (i : ℕ) → i < t.count → slice_index t.before i ≡ last_of t.rows (chain_of (channel_of t.rows i)) i
  -- the port's sum is that of what the rows hold
  pub sum : t.port.total ≡ sum_by held_in (take t.count t.rows)

-- What a call for one connection leaves as it is.
pub record LeavesOthers (vc : Channel) (old new : AbtTable) : Type 0 where
  pub capacity : new.port.capacity ≡ old.port.capacity
  pub count : new.count ≡ old.count
  pub policers : new.policers ≡ old.policers
  pub channels : (i : ℕ) → i < old.count → channel_of new.rows i ≡ channel_of old.rows i
  pub rows : (i : ℕ) → i < old.count → channel_of old.rows i ≢ vc → row_of new.rows i ≡ row_of old.rows i

-- a row with its policer stands in another table too
abbrev pub HasAlso : AbtTable → (row : ℕ) → AbtTable → Type 0
HasAlso old i new =
    (j : ℕ) × (j < new.count) × (row_of new.rows j ≡ row_of old.rows i) × (policer_of new.policers j ≡ policer_of old.policers i)

-- A connection went, and all others are there still, with what they hold and their policers; and no more than these.
pub record KeepsOthers (vc : Channel) (old new : AbtTable) : Type 0 where
  pub port : new.port ≡ old.port
  pub count : new.count + 1 ≡ old.count
  pub kept : (i : ℕ) → i < old.count → channel_of old.rows i ≢ vc → HasAlso old i new
  pub only : (i : ℕ) → i < new.count → (channel_of new.rows i ≢ vc) × HasAlso new i old
