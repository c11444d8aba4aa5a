-- What the parts of a journal keep.
use Rattle.std.specs.Prelude.{◌≡◌, ℕ, ◌+◌, ◌<◌, ◌≤◌, List, [], ◌∷◌, ◌++◌, length, map, All, Bool, true, ◌&&◌, ◌||◌, IsTrue, if◌then◌else◌}
use Rattle.std.specs.List.{fold, list_any}
use Rattle.std.specs.Str.{bytes_eq}
use Rattle.sd_base.specs.Key.{is_key}
use Rattle.sd_base.specs.declared.number.SessionKey.{SessionKey}
use Rattle.sd_journal.specs.Cells.{CellsView}
use Rattle.sd_journal.specs.Journal.{Entry, placements, noted, is_unsynced, is_purged, fails_with, has_on}
use Rattle.sd_journal.specs.Names.{NamesView, name_at}
use Rattle.sd_journal.specs.Noted.{IsNamed, placement_of}
use Rattle.sd_journal.specs.Share.{share_of, HasRoom, AreSharesOf, lies}
use Rattle.sd_journal.specs.declared.lying.Lying.{Lying}
use Rattle.sd_journal.specs.declared.mark.Mark.{Mark}
use Rattle.sd_journal.specs.declared.shares.Shares.{Shares}
use Rattle.sd_journal.specs.declared.told.Told.{Told}
use Rattle.sd_journal.specs.declared.told.Told.TheVariants.{Noted, Marked}

-- Calls on a volume.

-- the entry takes that mark by a call on the volume: that of a purge wherever it lies on the volume, another if it
-- awaits a sync of it
abbrev pub takes : Mark → List ℕ → Entry → Bool
takes mark volume e = (is_purged mark || is_unsynced e.mark) && bytes_eq e.placement.volume volume

-- the entries after it
abbrev pub marked : Mark → List ℕ → List Entry → List Entry
marked mark volume entries = map (λ e. if takes mark volume e then record e { mark = mark } else e) entries

-- What was done.

-- the entries after one thing more
abbrev pub after_one : List Entry → Told → List Entry
after_one entries (Noted p) = entries ++ noted p ∷ []
after_one entries (Marked mark volume) = marked mark volume entries

-- the same of an item of the kit's log, of which only the first part is used
abbrev pub after : List Entry → Told × Unit {0} → List Entry
after entries item = after_one entries item.0

-- the entries that are there once this was done
abbrev pub replay : List (Told × Unit {0}) → List Entry
replay done = fold after [] done

-- there is a name at the place of the volume
abbrev pub LiesNamed : List (List ℕ) → Lying → Type 0
LiesNamed names l = l.volume < length names

-- What the parts keep: the entries, the names of their volumes, the blocks, the sessions that are ready, those that await a sync
-- of a volume and those that have blocks on one, each list with the number for which there is room, and the share of each
-- session.
pub record IsKept (entries : List Entry) (names : NamesView) (cells : CellsView) (ready : List SessionKey)
    (awaiting : List Lying) (awaiting_count awaiting_capacity : ℕ) (on : List Lying) (on_count on_capacity : ℕ) (sessions : Shares) : Type 0 where
  -- each block's volume has its name
  pub named : All (IsNamed names.names) cells.noted
  -- the blocks are those of the entries
  pub placed : map (placement_of names.names) cells.noted ≡ placements entries
  -- for each session that is ready there is room for a block, the name of its volume, a stretch of it, and that it awaits a sync
  pub room : length ready ≤ cells.room
  pub names_room : length ready ≤ names.room
  pub rooms : (key : SessionKey) → IsTrue (list_any (is_key key) ready) → HasRoom (share_of sessions key)
  pub awaiting_room : awaiting_count + length ready ≤ awaiting_capacity
  pub on_room : on_count + length ready ≤ on_capacity
  pub shares : AreSharesOf names.names cells.noted entries sessions
  pub awaiting_named : All (LiesNamed names.names) awaiting
  -- just those sessions await a sync of a volume that have an unsynced entry there
  pub awaits : (key : SessionKey) (volume : ℕ) → volume < length names.names
      → lies key volume awaiting ≡ fails_with key (name_at names.names volume) entries
  -- and those that have an entry there are among those that have blocks on it
  pub lie : (key : SessionKey) (volume : ℕ) → volume < length names.names
      → has_on key (name_at names.names volume) entries ≡ true → lies key volume on ≡ true
