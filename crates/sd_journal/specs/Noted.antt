-- A block as a journal keeps it. Of its volume that has a place among the journal's names, so each definition that speaks of
-- the placement takes these names.
use Rattle.std.specs.Prelude.{ℕ, ◌<◌, List, [], ◌∷◌, length, if◌then◌else◌}
use Rattle.std.specs.List.{fold}
use Rattle.sd_base.specs.FileIndex.{first_nonzero}
use Rattle.sd_base.specs.Key.{is_key}
use Rattle.sd_base.specs.declared.number.SessionKey.{SessionKey}
use Rattle.sd_span.specs.declared.placement.Placement.{Placement}
use Rattle.sd_journal.specs.Names.{name_at}
use Rattle.sd_journal.specs.declared.noted.Noted.{Noted}

-- there is a name at the place of the block's volume
abbrev pub IsNamed : List (List ℕ) → Noted → Type 0
IsNamed names n = n.volume < length names

-- the placement that is kept so
abbrev pub placement_of : List (List ℕ) → Noted → Placement
placement_of names n =
    record { key = n.key; volume = name_at names n.volume; start = n.start; length = n.length; first = n.first; last = n.last }

-- the session's last FileIndex that is not 0, once a block more is there
abbrev pub index_after : SessionKey → ℕ → Noted → ℕ
index_after key index n = if is_key key n.key then first_nonzero n.last index else index

-- the last FileIndex of a session that is not 0, 0 if none
abbrev pub last_index : SessionKey → List Noted → ℕ
last_index key ns = fold (index_after key) 0 ns

-- the session's own blocks, in order
abbrev pub own_of : SessionKey → List Noted → List Noted
own_of key [] = []
own_of key (n ∷ ns) = if is_key key n.key then n ∷ own_of key ns else own_of key ns
