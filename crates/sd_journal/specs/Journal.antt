-- The journal of a drive: where its blocks lie, in the order in which that was noted, and which of them are synced.
use Rattle.std.specs.Prelude.{◌≡◌, ℕ, List, [], ◌∷◌, ◌++◌, length, map, filter, Bool, true, false, not, ◌&&◌, if◌then◌else◌, IsTrue}
use Rattle.std.specs.List.{count_by, list_any}
use Rattle.std.specs.Str.{bytes_eq}
use Rattle.sd_base.specs.Key.{is_key}
use Rattle.sd_base.specs.declared.number.SessionKey.{SessionKey}
use Rattle.sd_span.specs.Spans.{placements_of}
use Rattle.sd_span.specs.declared.placement.Placement.{Placement}
use Rattle.sd_span.specs.declared.progress.Progress.{Progress}
use Rattle.sd_journal.specs.declared.counts.Counts.{Counts}
use Rattle.sd_journal.specs.declared.mark.Mark.{Mark}
use Rattle.sd_journal.specs.declared.mark.Mark.TheVariants.{Unsynced, Synced, Lost, Purged}

-- a placement with its mark: whether its block is synced
pub record Entry : Type 0 where
  pub placement : Placement
  pub mark : Mark

-- all that clauses say of a journal
pub record JournalView : Type 0 where
  -- its entries, in the order in which they were noted
  pub entries : List Entry
  -- the sessions for whose next placement it has room
  pub ready : List SessionKey

-- the placements of entries, in order
abbrev pub placements : List Entry → List Placement
placements entries = map (λ e. e.placement) entries

-- the entry of a placement that is noted: it isn't synced yet
abbrev pub noted : Placement → Entry
noted p = record { placement = p; mark = Unsynced }

-- Room for placements.

-- the journal has room for the next placement of the session
abbrev pub IsReady : SessionKey → JournalView → Type 0
IsReady key view = IsTrue (list_any (is_key key) view.ready)

-- these sessions and this one
abbrev pub with_key : SessionKey → List SessionKey → List SessionKey
with_key key keys = if list_any (is_key key) keys then keys else keys ++ key ∷ []

-- these sessions without this one
abbrev pub without_key : SessionKey → List SessionKey → List SessionKey
without_key key keys = filter (λ k. not (is_key key k)) keys

-- Syncs.

-- a block isn't synced yet, and may be by the next sync
abbrev pub is_unsynced : Mark → Bool
is_unsynced Unsynced = true
is_unsynced mark = false

-- a block is synced
abbrev pub is_synced : Mark → Bool
is_synced Synced = true
is_synced mark = false

-- a sync of its volume failed while the block wasn't synced
abbrev pub is_lost : Mark → Bool
is_lost Lost = true
is_lost mark = false

-- the entry's block lies on the volume and isn't synced yet
abbrev pub awaits_sync : List ℕ → Entry → Bool
awaits_sync volume e = is_unsynced e.mark && bytes_eq e.placement.volume volume

-- some entry awaits a sync of the volume
abbrev pub any_awaits_sync : List ℕ → List Entry → Bool
any_awaits_sync volume entries = list_any (awaits_sync volume) entries

-- an entry that awaits a sync of the volume gets this mark, and any other stays as it is
abbrev pub settled_one : Mark → List ℕ → Entry → Entry
settled_one mark volume e = if awaits_sync volume e then record e { mark = mark } else e

-- the entries once a sync of the volume is over: each that awaited it has this mark
abbrev pub settled : Mark → List ℕ → List Entry → List Entry
settled mark volume entries = map (settled_one mark volume) entries

-- Purges.

-- the entry's volume was purged since: its block is gone
abbrev pub is_purged : Mark → Bool
is_purged Purged = true
is_purged mark = false

-- the block of an entry on the volume is gone, and any other entry stays as it is
abbrev pub purged_one : List ℕ → Entry → Entry
purged_one volume e = if bytes_eq e.placement.volume volume then record e { mark = Purged } else e

-- the entries once the volume was purged
abbrev pub purged : List ℕ → List Entry → List Entry
purged volume entries = map (purged_one volume) entries

-- some entry's block is gone
abbrev pub any_purged : List Entry → Bool
any_purged entries = list_any (λ e. is_purged e.mark) entries

-- the placements of the entries whose blocks are not gone, in order
abbrev pub live : List Entry → List Placement
live [] = []
live (e ∷ es) = if is_purged e.mark then live es else e.placement ∷ live es

-- What is asked of a session.

-- the entry is the session's, and its block is synced
abbrev pub is_synced_of : SessionKey → Entry → Bool
is_synced_of key e = is_key key e.placement.key && is_synced e.mark

-- the entry is the session's, and is lost
abbrev pub is_lost_of : SessionKey → Entry → Bool
is_lost_of key e = is_key key e.placement.key && is_lost e.mark

-- the entry is the session's, and its block is gone
abbrev pub is_purged_of : SessionKey → Entry → Bool
is_purged_of key e = is_key key e.placement.key && is_purged e.mark

-- how many blocks of the session were placed
abbrev pub placed_of : SessionKey → List Entry → ℕ
placed_of key entries = length (placements_of key (placements entries))

-- How many of them are synced. One that is gone isn't, whatever it was: so a session of which a block is gone has fewer
-- synced than placed for good, and is never told complete.
abbrev pub synced_of : SessionKey → List Entry → ℕ
synced_of key entries = count_by (is_synced_of key) entries

-- both counts
abbrev pub counts_of : SessionKey → List Entry → Counts
counts_of key entries = record { placed = placed_of key entries; synced = synced_of key entries }

-- the session fails: an entry of it is lost
abbrev pub fails : SessionKey → List Entry → Bool
fails key entries = list_any (is_lost_of key) entries

-- a block of the session is gone
abbrev pub has_purged : SessionKey → List Entry → Bool
has_purged key entries = list_any (is_purged_of key) entries

-- the session has an entry on the volume, gone or not
abbrev pub has_on : SessionKey → List ℕ → List Entry → Bool
has_on key volume entries = list_any (λ p. bytes_eq p.volume volume) (placements_of key (placements entries))

-- how far the session's blocks are
abbrev pub progress_of : SessionKey → List Entry → Progress
progress_of key entries =
    record { placed = placed_of key entries; synced = synced_of key entries; failed = fails key entries }

-- the session fails with the volume: an entry of it awaits a sync of it
abbrev pub fails_with : SessionKey → List ℕ → List Entry → Bool
fails_with key volume entries = list_any (λ e. is_key key e.placement.key && awaits_sync volume e) entries

-- What a journal follows.

-- what a placement has of the piece whose block it is: the session, the first and the last FileIndex, and the
-- length of the block, which is the body's and its header's
pub record Item : Type 0 where
  pub key : SessionKey
  pub first : ℕ
  pub last : ℕ
  pub length : ℕ

-- what this placement has of its piece
abbrev pub item_of : Placement → Item
item_of p = record { key = p.key; first = p.first; last = p.last; length = p.length }

-- what placements have of their pieces, in order
abbrev pub items_of : List Placement → List Item
items_of ps = map item_of ps

-- the journal follows pieces: its entries have, in order, each piece's session, first and last FileIndex, and length
abbrev pub Follows : List Entry → List Item → Type 0
Follows entries pieces = items_of (placements entries) ≡ pieces
