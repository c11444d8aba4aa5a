-- What a journal keeps of each session, so that no question about a session looks at other sessions' blocks.
use Rattle.std.specs.Prelude.{◌≡◌, ℕ, ◌+◌, List, [], map, All, Bool, true, false, ◌&&◌, ◌==◌, if◌then◌else◌, Option, None, Some, IsTrue}
use Rattle.std.specs.HashMap.{get_by}
use Rattle.std.specs.List.{list_any, sum_by, count_by}
use Rattle.std.specs.Option.{MatchOption, IsSomeAnd}
use Rattle.sd_base.specs.FileIndex.{first_nonzero}
use Rattle.sd_base.specs.Key.{is_key}
use Rattle.sd_base.specs.declared.number.SessionKey.{SessionKey}
use Rattle.sd_span.specs.Spans.{placements_of, stretches}
use Rattle.sd_journal.specs.declared.lying.Lying.{Lying}
use Rattle.sd_journal.specs.declared.mark.Mark.{Mark}
use Rattle.sd_journal.specs.declared.noted.Noted.{Noted}
use Rattle.sd_journal.specs.declared.shares.Shares.{Shares}
use Rattle.sd_journal.specs.declared.stretch.Stretch.{Stretch}
use Rattle.sd_journal.specs.Journal.{Entry, placements, is_unsynced, is_synced, is_lost, placed_of}
use Rattle.sd_journal.specs.Names.{name_at}
use Rattle.sd_journal.specs.Noted.{last_index}
use Rattle.sd_journal.specs.ShareView.{ShareView}
use Rattle.sd_journal.specs.Stretch.{HasName, span_of, grown_by, marked_at}

-- what is kept of the session, if anything is
abbrev pub share_of : Shares → SessionKey → Option ShareView
share_of shares key = get_by (is_key key) shares.sessions

-- just what is kept of this session changes
abbrev pub ChangesAt : SessionKey → (Option ShareView → Option ShareView) → Shares → Shares → Type 0
ChangesAt key change old new =
    (other : SessionKey) → share_of new other ≡ (if is_key key other then change (share_of old other) else share_of old other)

-- what is kept is as before, of every session
abbrev pub SameShares : Shares → Shares → Type 0
SameShares old new = (key : SessionKey) → share_of new key ≡ share_of old key

-- with room for one stretch more
abbrev pub readied : Option ShareView → Option ShareView
readied None = Some (record { stretches = []; placed = 0; last = 0; ready = true })
readied (Some s) = Some (record s { ready = true })

-- with one block more
abbrev pub with_noted : Noted → Option ShareView → Option ShareView
with_noted n None = None
with_noted n (Some s) = Some (record {
  stretches = grown_by s.stretches n;
  placed = s.placed + 1;
  last = first_nonzero n.last s.last;
  ready = false;
})

-- after a call on the volume at this place, by which blocks there get that mark
abbrev pub with_marks : Mark → ℕ → Option ShareView → Option ShareView
with_marks mark volume None = None
with_marks mark volume (Some s) = Some (record s { stretches = map (marked_at mark volume) s.stretches })

-- there is room for one stretch more of the session
abbrev pub HasRoom : Option ShareView → Type 0
HasRoom share = IsSomeAnd share (λ s. IsTrue s.ready)

-- among these, which lie on volumes, is the session on the volume at this place
abbrev pub lies : SessionKey → ℕ → List Lying → Bool
lies key volume ls = list_any (λ l. (volume == l.volume) && is_key key l.key) ls

-- What is kept of a session, beside what the entries say of it.

-- how many of its entries have a mark of a kind, on the volumes for which a test holds
abbrev pub marks_on : SessionKey → (List ℕ → Bool) → (Mark → Bool) → List Entry → ℕ
marks_on key test kind entries =
    count_by (λ e. is_key key e.placement.key && (test e.placement.volume && kind e.mark)) entries

-- how many that are by its stretches there
abbrev pub count_on : List (List ℕ) → (List ℕ → Bool) → (Stretch → ℕ) → List Stretch → ℕ
count_on names test count ss = sum_by (λ s. if test (name_at names s.volume) then count s else 0) ss

-- what is kept of a session is what the entries say of it
pub record IsShareOf (names : List (List ℕ)) (ns : List Noted) (entries : List Entry) (key : SessionKey) (s : ShareView) : Type 0 where
  pub named : All (HasName names) s.stretches
  pub spans : map (span_of names) s.stretches ≡ stretches (placements_of key (placements entries))
  pub placed : s.placed ≡ placed_of key entries
  pub last : s.last ≡ last_index key ns
  pub unsynced : (test : List ℕ → Bool) → count_on names test (λ s. s.unsynced) s.stretches ≡ marks_on key test is_unsynced entries
  pub synced : (test : List ℕ → Bool) → count_on names test (λ s. s.synced) s.stretches ≡ marks_on key test is_synced entries
  pub lost : (test : List ℕ → Bool) → count_on names test (λ s. s.lost) s.stretches ≡ marks_on key test is_lost entries

-- so it is of every session; of one that has no entry nothing need be kept
abbrev pub AreSharesOf : List (List ℕ) → List Noted → List Entry → Shares → Type 0
AreSharesOf names ns entries shares =
    (key : SessionKey) → MatchOption (share_of shares key) (placed_of key entries ≡ 0) (IsShareOf names ns entries key)
