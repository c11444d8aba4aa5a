-- What holds of entries, whatever journal has them.
use Rattle.std.specs.Prelude.{◌≡◌, ◌≢◌, ◌↔◌, ℕ, ◌+◌, ◌≤◌, List, [], ◌∷◌, ◌++◌, All, true, false, ◌||◌, if◌then◌else◌, IsTrue}
use Rattle.sd_base.specs.Key.{is_key}
use Rattle.sd_base.specs.declared.number.SessionKey.{SessionKey}
use Rattle.sd_span.specs.declared.placement.Placement.{Placement}
use Rattle.sd_journal.specs.declared.mark.Mark.{Mark}
use Rattle.sd_journal.specs.declared.mark.Mark.TheVariants.{Unsynced, Synced, Lost}
use Rattle.sd_journal.specs.Journal.{Entry, Item, placements, noted, settled, purged, any_awaits_sync, placed_of, synced_of, counts_of, fails, fails_with, has_purged, has_on, item_of, Follows}

-- what a placement that is noted changes
pub record NotingAppends (entries : List Entry) (p : Placement) : Type 0 where
  -- it is the last
  pub placements : placements (entries ++ noted p ∷ []) ≡ placements entries ++ p ∷ []
  -- if the journal followed pieces, it follows them and the piece of this one
  pub follows : (pieces : List Item) → Follows entries pieces → Follows (entries ++ noted p ∷ []) (pieces ++ item_of p ∷ [])
  -- its session has one block more
  pub placed : (key : SessionKey)
      → placed_of key (entries ++ noted p ∷ []) ≡ placed_of key entries + (if is_key key p.key then 1 else 0)
  -- no session has more that are synced, and none fails
  pub synced : (key : SessionKey) → synced_of key (entries ++ noted p ∷ []) ≡ synced_of key entries
  pub fails : (key : SessionKey) → fails key (entries ++ noted p ∷ []) ≡ fails key entries

-- what the end of a sync changes, whichever it is
pub record SettlingMarks (mark : Mark) (volume : List ℕ) (entries : List Entry) : Type 0 where
  -- marks alone
  pub placements : placements (settled mark volume entries) ≡ placements entries
  -- no entry awaits a sync of the volume any more
  pub none_awaits : mark ≢ Unsynced → any_awaits_sync volume (settled mark volume entries) ≡ false

-- who fails by a sync: none if it succeeds; if it fails, just those that fail with the volume
pub record SyncsFail (volume : List ℕ) (entries : List Entry) : Type 0 where
  pub synced : (key : SessionKey) → fails key (settled Synced volume entries) ≡ fails key entries
  pub failed : (key : SessionKey)
      → fails key (settled Lost volume entries) ≡ (fails key entries || fails_with key volume entries)

-- what purging a volume changes
pub record PurgingMarks (volume : List ℕ) (entries : List Entry) : Type 0 where
  -- marks alone
  pub placements : placements (purged volume entries) ≡ placements entries
  -- no entry awaits a sync of the volume any more
  pub none_awaits : any_awaits_sync volume (purged volume entries) ≡ false
  -- of just those sessions is a block gone of which one was before, or which have an entry on the volume
  pub gone : (key : SessionKey)
      → has_purged key (purged volume entries) ≡ (has_purged key entries || has_on key volume entries)
  -- a session without an entry on it has its counts, and fails as before
  pub counts : (key : SessionKey) → has_on key volume entries ≡ false
      → counts_of key (purged volume entries) ≡ counts_of key entries
  pub fails : (key : SessionKey) → has_on key volume entries ≡ false
      → fails key (purged volume entries) ≡ fails key entries

-- No session has more synced than placed, and as many exactly if each entry of it is synced: so one of which a block is
-- gone has fewer.
pub record SyncedWithinPlaced (key : SessionKey) (entries : List Entry) : Type 0 where
  pub within : synced_of key entries ≤ placed_of key entries
  pub whole : synced_of key entries ≡ placed_of key entries
      ↔ All (λ e. IsTrue (is_key key e.placement.key) → e.mark ≡ Synced) entries
  pub gone : has_purged key entries ≡ true → synced_of key entries + 1 ≤ placed_of key entries
