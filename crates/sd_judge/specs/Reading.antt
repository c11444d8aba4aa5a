-- A reader at a volume.
use Rattle.std.specs.Prelude.{◌≡◌, Some}
use Rattle.sd_driver.specs.Meaning.{Meaning, IsHonest}
use Rattle.sd_driver.specs.Shelf.{Held}
use Rattle.sd_volume.specs.Reader.{ReaderView, Shows}

-- the reader is at this volume of an honest device, and what it holds is the volume's
pub record IsAt (held : Held) (reader : ReaderView) (device : Meaning) : Type 0 where
  pub honest : IsHonest device
  pub shows : Shows reader device.shelf
  pub there : device.shelf.volume reader.name ≡ Some held
