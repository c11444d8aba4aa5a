-- The table of the connections that a server has open.
use Rattle.std.specs.Prelude.{◌≡◌, ◌≢◌, ◌⊎◌, ℕ, ◌-◌, ◌≤◌, ◌^◌, Bool, false, List, Option, Some, None, IsSomeAnd, count_by, is_some, slice_index_or}
use Rattle.std.specs.declared.net.socket_addr.SocketAddr.{SocketAddr}
use Rattle.std.specs.declared.time.Instant.{Instant}
use Rattle.slab.specs.Slab.{Slab, get, slab_len}
use Rattle.sd_serve.specs.declared.connection_table.OpenConnection.{OpenConnection}
use Rattle.sd_serve.specs.declared.connection_table.Seat.{Seat}

-- how many may be open at once
abbrev pub most_open : ℕ
most_open = 320

-- the connection at each place, if there is one, and the number that was given last
pub record OpenTable : Type 0 where
  pub places : List (Option OpenConnection)
  pub last : ℕ

-- the connection at a place
abbrev pub open_at : OpenTable → ℕ → Option OpenConnection
open_at t place = slice_index_or t.places place None

-- how many are open
abbrev pub open_count : OpenTable → ℕ
open_count t = count_by is_some t.places

-- whether a connection is there and has a session
abbrev pub has_session : Option OpenConnection → Bool
has_session None = false
has_session (Some c) = is_some c.session

-- how many have a session
abbrev pub session_count : OpenTable → ℕ
session_count t = count_by has_session t.places

-- the connection is open
abbrev pub IsOpen : OpenTable → OpenConnection → Type 0
IsOpen t c = (place : ℕ) × (open_at t place ≡ Some c)

-- as many are open as may be, or there is no number left
abbrev pub IsFull : OpenTable → Type 0
IsFull t = (open_count t ≡ most_open) ⊎ (t.last ≡ 2 ^ 64 - 1)

-- the seat is that of an open connection
abbrev pub IsSeatOf : OpenTable → Seat → Type 0
IsSeatOf t seat = IsSomeAnd (open_at t seat.place) (λ c. c.talk ≡ seat.talk)

-- no other place changes
abbrev pub OthersStay : ℕ → OpenTable → OpenTable → Type 0
OthersStay place before after = (other : ℕ) → other ≢ place → open_at after other ≡ open_at before other

-- a connection that begins
abbrev pub begun : ℕ → SocketAddr → Option Instant → OpenConnection
begun talk peer since = record { talk = talk; peer = peer; since = since; session = None }

-- a connection with this session
abbrev pub in_session : Option ℕ → OpenConnection → OpenConnection
in_session session c = record c { session = session }

-- each connection's number was given, and no two have one
pub record AreNumbered (at : ℕ → Option OpenConnection) (last : ℕ) : Type 0 where
  pub given : (place : ℕ) (c : OpenConnection) → at place ≡ Some c → c.talk ≤ last
  pub once : (a b : ℕ) (c d : OpenConnection) → at a ≡ Some c → at b ≡ Some d → c.talk ≡ d.talk → a ≡ b

-- what the table keeps: it has room for all that may be open, and no more are; they are numbered
pub record IsKept (held : Slab OpenConnection) (last : ℕ) : Type 0 where
  pub within : slab_len held ≤ most_open
  pub room : most_open ≤ held.capacity
  pub numbered : AreNumbered (get held) last
