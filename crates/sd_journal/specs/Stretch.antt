-- A stretch of a session on one volume: where its blocks lie, and how many of them are synced. Of its volume it has the place
-- among the journal's names.
use Rattle.std.specs.Prelude.{ℕ, ◌+◌, ◌<◌, List, [], ◌∷◌, length, Bool, ◌==◌, if◌then◌else◌}
use Rattle.sd_base.specs.FileIndex.{first_nonzero}
use Rattle.sd_span.specs.declared.span.Span.{Span}
use Rattle.sd_journal.specs.Names.{name_at}
use Rattle.sd_journal.specs.declared.mark.Mark.{Mark}
use Rattle.sd_journal.specs.declared.mark.Mark.TheVariants.{Unsynced, Synced, Lost, Purged}
use Rattle.sd_journal.specs.declared.noted.Noted.{Noted}
use Rattle.sd_journal.specs.declared.stretch.Stretch.{Stretch}

-- there is a name at the place of its volume
abbrev pub HasName : List (List ℕ) → Stretch → Type 0
HasName names s = s.volume < length names

-- the span that it is, not numbered yet
abbrev pub span_of : List (List ℕ) → Stretch → Span
span_of names s =
    record { volume = name_at names s.volume; vol_index = 0; first = s.first; last = s.last; start = s.start; end = s.end }

-- it is on the volume at this place
abbrev pub is_on : ℕ → Stretch → Bool
is_on volume s = volume == s.volume

-- how many of its blocks are unsynced, synced or lost
abbrev pub counted : Stretch → ℕ
counted s = s.unsynced + s.synced + s.lost

-- the stretch of one block, which isn't synced yet
abbrev pub begun_by : Noted → Stretch
begun_by n = record {
  volume = n.volume;
  first = n.first;
  last = n.last;
  start = n.start;
  end = n.start + n.length;
  unsynced = 1;
  synced = 0;
  lost = 0;
}

-- a stretch up to the end of one block more, which isn't synced yet
abbrev pub longer_by : Stretch → Noted → Stretch
longer_by s n = record s {
  first = first_nonzero s.first n.first;
  last = first_nonzero n.last s.last;
  end = n.start + n.length;
  unsynced = s.unsynced + 1;
}

-- stretches with one block more: it ends the last of them if that is on its volume, else it begins one
abbrev pub grown_by : List Stretch → Noted → List Stretch
grown_by [] n = begun_by n ∷ []
grown_by (s ∷ []) n = if n.volume == s.volume then longer_by s n ∷ [] else s ∷ begun_by n ∷ []
grown_by (s ∷ t ∷ ss) n = s ∷ grown_by (t ∷ ss) n

-- Marks.

-- its blocks that are unsynced have this mark now; by a purge all of them are gone
abbrev pub with_mark : Mark → Stretch → Stretch
with_mark Unsynced s = s
with_mark Synced s = record s { unsynced = 0; synced = s.synced + s.unsynced }
with_mark Lost s = record s { unsynced = 0; lost = s.lost + s.unsynced }
with_mark Purged s = record s { unsynced = 0; synced = 0; lost = 0 }

-- so if it is on the volume at this place
abbrev pub marked_at : Mark → ℕ → Stretch → Stretch
marked_at mark volume s = if volume == s.volume then with_mark mark s else s
