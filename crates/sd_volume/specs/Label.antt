-- What labelling leaves of an honest device.
use Rattle.std.specs.Prelude.{◌≡◌, ◌≢◌, ◌⊎◌, List, ℕ, [], length, None, Some}
use Rattle.sd_driver.specs.Shelf.{Shelf, Lasts}
use Rattle.sd_label.specs.declared.label.VolumeLabel.{VolumeLabel}
use Rattle.sd_volume.specs.declared.volume.VolumeStatus.TheVariants.{Append}
use Rattle.sd_volume.specs.Image.{label_block}
use Rattle.sd_volume.specs.Volume.{VolumeView, StandsOn}

-- a volume that has just been labelled
abbrev pub new_volume : VolumeLabel → VolumeView
new_volume label =
    record {
      name = label.name;
      pool = label.pool;
      media = label.media;
      status = Append;
      end = length (label_block label);
      next_number = 1;
      first = length (label_block label);
      last = 0;
    }

-- a volume of these bytes under a name that the shelf lacked, which lasts from now on; all others stay
pub record Stores (name bytes : List ℕ) (old new : Shelf) : Type 0 where
  pub absent : old.volume name ≡ None
  pub made : new.volume name ≡ Some (record { bytes = bytes; stable = length bytes })
  pub lasts : Lasts new.moment name bytes new
  pub others : (other : List ℕ) → other ≢ name → new.volume other ≡ old.volume other

-- a name that the shelf lacked is a volume with this label now, no block and no tail; its label block lasts, others stay
pub record Labels (label : VolumeLabel) (old new : Shelf) : Type 0 where
  pub absent : old.volume label.name ≡ None
  pub stands : StandsOn (new_volume label) new label [] []
  pub lasts : Lasts new.moment label.name (label_block label) new
  pub others : (other : List ℕ) → other ≢ label.name → new.volume other ≡ old.volume other

-- nothing changes, but that a name which the shelf lacked may be there now, with no byte
pub record MayCreateEmpty (name : List ℕ) (old new : Shelf) : Type 0 where
  pub here : (new.volume name ≡ old.volume name)
      ⊎ ((old.volume name ≡ None) × (new.volume name ≡ Some (record { bytes = []; stable = 0 })))
  pub others : (other : List ℕ) → other ≢ name → new.volume other ≡ old.volume other
