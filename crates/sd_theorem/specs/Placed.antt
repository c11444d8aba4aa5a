-- What a scan finds on the volumes of a drive, beside what the drive's journal says of them.
use Rattle.std.specs.Prelude.{◌≡◌, ℕ, ◌+◌, List, [], ◌∷◌, ◌++◌, length, All, Some}
use Rattle.sd_base.specs.Limits.{block_header}
use Rattle.sd_base.specs.declared.number.SessionKey.{SessionKey}
use Rattle.sd_drive.specs.Shelf.{IsLaidOut, block_at, blocks_on, placements_on}
use Rattle.sd_driver.specs.Shelf.{Held, Shelf}
use Rattle.sd_scan.specs.Found.{ArePlacements, Found, blocks_in, bodies_of}
use Rattle.sd_pack.specs.Body.{first_file_index, last_file_index}
use Rattle.sd_record.specs.Fragment.{FitTogether, Fragment, fragments_bytes}
use Rattle.sd_scan.specs.Volume.{FindsOn}
use Rattle.sd_span.specs.Spans.{placements_of, spans_of}
use Rattle.sd_span.specs.declared.placement.Placement.{Placement}
use Rattle.sd_volume.specs.Volume.{VolumeView}
use Rattle.sd_volume.specs.declared.volume.VolumeStatus.TheVariants.{Append}

-- the block is of the placement's session, and lies on its volume, at its start, as long as it says
pub record LiesAt (f : Found) (p : Placement) : Type 0 where
  pub key_is : p.key ≡ f.block.key
  pub volume_is : p.volume ≡ f.volume
  pub start_is : p.start ≡ f.start
  pub length_is : p.length ≡ block_header + length f.block.body

-- so does each block at the placement that is its own, in order
abbrev pub LieAt : List Found → List Placement → Type 0
LieAt [] [] = Unit {0}
LieAt [] (p ∷ ps) = ⊥
LieAt (f ∷ fs) [] = ⊥
LieAt (f ∷ fs) (p ∷ ps) = LiesAt f p × LieAt fs ps

-- What is found on a volume are blocks that it had when it came to the drive; then those of the placements on it, where
-- these say and in their order; and after them, only if the volume takes no more, what a failed call may have left
-- whole.
pub record FindsPlaced (shelf : Shelf) (ps : List Placement) (v : VolumeView) (found : List Found) : Type 0 where
  pub earlier : List Found
  pub own : List Found
  pub behind : List Found
  pub found_is : found ≡ earlier ++ (own ++ behind)
  pub blocks_are : blocks_in own ≡ blocks_on shelf v.name ps
  pub lie : LieAt own (placements_on v.name ps)
  pub none_behind : v.status ≡ Append → behind ≡ []

-- so it is on each volume that lies on a shelf as a drive's journal says
abbrev pub PlacedBlocksAreFound : Type 0
PlacedBlocksAreFound = (shelf : Shelf) (ps : List Placement) (v : VolumeView) (held : Held) (found : List Found) (end : ℕ)
    → IsLaidOut shelf ps v → shelf.volume v.name ≡ Some held → FindsOn v.name held.bytes found end → FindsPlaced shelf ps v found

-- ---- the spans of a session

-- the body is whole fragments, of which the placement says the first and the last FileIndex
pub record SaysIndexes (body : List ℕ) (p : Placement) : Type 0 where
  pub fragments : List Fragment
  pub fit : FitTogether fragments
  pub body_is : body ≡ fragments_bytes fragments
  pub first_is : p.first ≡ first_file_index fragments
  pub last_is : p.last ≡ last_file_index fragments

-- so does each placement of the session, of the body there
abbrev pub SayIndexes : SessionKey → Shelf → List Placement → Type 0
SayIndexes key shelf ps = All (λ (p : Placement). SaysIndexes (block_at shelf p).body p) (placements_of key ps)

-- what is found on a volume has no block of the session but those that the drive placed there
pub record FindsOwn (key : SessionKey) (shelf : Shelf) (ps : List Placement) (v : VolumeView) (found : List Found) : Type 0 where
  pub finds : FindsPlaced shelf ps v found
  pub none_earlier : bodies_of key finds.earlier ≡ []
  pub none_behind : bodies_of key finds.behind ≡ []

-- so it is on each of these volumes, on which all these blocks are found, one volume after another
abbrev pub FindOwn : SessionKey → Shelf → List Placement → List VolumeView → List Found → Type 0
FindOwn key shelf ps [] found = found ≡ []
FindOwn key shelf ps (v ∷ vs) found =
    (one rest : List Found) × (found ≡ one ++ rest) × FindsOwn key shelf ps v one × FindOwn key shelf ps vs rest

-- the placements of a session on volumes, one volume after another
abbrev pub placements_over : SessionKey → List Placement → List VolumeView → List Placement
placements_over key ps [] = []
placements_over key ps (v ∷ vs) = placements_of key (placements_on v.name ps) ++ placements_over key ps vs

-- If the volumes come in the order in which the session's blocks were placed on them, and its placements say the
-- FileIndexes of their bodies, the spans that a scan tells of it are those of the placements.
abbrev pub ScanTellsSpans : Type 0
ScanTellsSpans = (key : SessionKey) (shelf : Shelf) (ps qs : List Placement) (vs : List VolumeView) (found : List Found)
    → FindOwn key shelf ps vs found → SayIndexes key shelf ps → placements_over key ps vs ≡ placements_of key ps → ArePlacements found qs
    → spans_of key qs ≡ spans_of key ps
