-- Blocks that were found on volumes, one after another, and what they say of the session that they are of.
use Rattle.std.specs.Prelude.{◌≡◌, ◌≢◌, ℕ, ◌+◌, ℤ, pos, ◌*ℤ◌, List, [], ◌∷◌, ◌++◌, map, length, Option, Some, None}
use Rattle.jiff.specs.Words.{IsTimestampNanos, civil_nanos}
use Rattle.jiff_core.specs.declared.civil.datetime.DateTime.{DateTime}
use Rattle.sd_base.specs.Limits.{block_header}
use Rattle.sd_base.specs.declared.number.SessionKey.{SessionKey}
use Rattle.sd_label.specs.Cutting.{IsStart}
use Rattle.sd_label.specs.Label.{session_label_bytes}
use Rattle.sd_label.specs.declared.label.SessionLabel.{SessionLabel}
use Rattle.sd_pack.specs.Body.{first_file_index, last_file_index}
use Rattle.sd_readback.specs.Reading.{blocks_of}
use Rattle.sd_record.specs.Fragment.{Fragment, fragments_bytes, FitTogether}
use Rattle.sd_span.specs.declared.placement.Placement.{Placement}
use Rattle.sd_volume.specs.Image.{Block}

-- a block that was found: its volume, where its image starts there, and whose it is with which body
pub record Found : Type 0 where
  pub volume : List ℕ
  pub start : ℕ
  pub block : Block

-- the blocks alone
abbrev pub blocks_in : List Found → List Block
blocks_in found = map (λ f. f.block) found

-- the bodies of one session among them, in order
abbrev pub bodies_of : SessionKey → List Found → List (List ℕ)
bodies_of key found = blocks_of key (blocks_in found)

-- if the body is whole fragments, these are the first and the last FileIndex among them
abbrev pub HasIndexes : List ℕ → ℕ → ℕ → Type 0
HasIndexes body first last =
    (fs : List Fragment) → FitTogether fs → body ≡ fragments_bytes fs
    → (first ≡ first_file_index fs) × (last ≡ last_file_index fs)

-- the block lies there: the placement has its session, its volume, its start and its length, and the FileIndexes of its body
pub record IsPlacementOf (f : Found) (p : Placement) : Type 0 where
  pub key_is : p.key ≡ f.block.key
  pub volume_is : p.volume ≡ f.volume
  pub start_is : p.start ≡ f.start
  pub length_is : p.length ≡ block_header + length f.block.body
  pub indexes : HasIndexes f.block.body p.first p.last

-- the placements are those of the blocks, one for each, in order
abbrev pub ArePlacements : List Found → List Placement → Type 0
ArePlacements [] [] = Unit {0}
ArePlacements [] (p ∷ ps) = ⊥
ArePlacements (f ∷ fs) [] = ⊥
ArePlacements (f ∷ fs) (p ∷ ps) = IsPlacementOf f p × ArePlacements fs ps

-- what a clock of UTC shows at a moment, in microseconds since 1970; nothing, if no date has it
abbrev pub IsShownAt : ℤ → Option DateTime → Type 0
IsShownAt moment None = ¬ IsTimestampNanos (moment *ℤ pos 1_000)
IsShownAt moment (Some shown) = civil_nanos shown ≡ moment *ℤ pos 1_000

-- the body begins with this start label
pub record BeginsWithStart (body : List ℕ) (label : SessionLabel) : Type 0 where
  pub behind : List ℕ
  pub start_is : IsStart label
  pub begins : body ≡ session_label_bytes label ++ behind
