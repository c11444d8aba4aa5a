-- What is known of a device while spans on it are read, and of a volume reader that reads from one.
use Rattle.std.specs.Prelude.{◌≡◌, ℕ, ◌-◌, ◌≤◌, List, length, take, drop, Some}
use Rattle.sd_base.specs.Limits.{most_block}
use Rattle.sd_block.specs.Head.{IsHeadOf}
use Rattle.sd_block.specs.declared.head.Head.{Head}
use Rattle.sd_driver.specs.Meaning.{Meaning, IsHonest}
use Rattle.sd_volume.specs.Reader.{ReaderView, Shows}
use Rattle.sd_readback.specs.Reading.{Volumes, volumes_on}

-- the device is honest, and these are the volumes on its shelf
pub record HasVolumes (meaning : Meaning) (volumes : Volumes) : Type 0 where
  pub honest : IsHonest meaning
  pub volumes_are : (name : List ℕ) → volumes_on meaning.shelf name ≡ volumes name

-- the device is honest and has these bytes under the reader's name, at least so many; what the reader holds
-- is there
pub record IsReading (meaning : Meaning) (reader : ReaderView) (least : ℕ) (bytes : List ℕ) : Type 0 where
  pub honest : IsHonest meaning
  pub there : volumes_on meaning.shelf reader.name ≡ Some bytes
  pub shows : Shows reader meaning.shelf
  pub long : least ≤ length bytes

-- the bytes from one place to another
abbrev pub stretch : ℕ → ℕ → List ℕ → List ℕ
stretch from to bytes = take (to - from) (drop from bytes)

-- the bytes begin with the header of a block of which no byte is missing, and so many of them are shown
pub record ShowsBlock (bytes shown : List ℕ) : Type 0 where
  pub head : Head
  pub head_is : IsHeadOf most_block bytes head
  pub within : head.size ≤ length bytes
  pub shown_is : shown ≡ take head.size bytes
