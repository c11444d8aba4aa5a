-- What an error of the system is to a folder.
use Rattle.std.specs.Prelude.{◌≡◌, ◌⊎◌}
use Rattle.std.specs.declared.io.ErrorKind.{ErrorKind}
use Rattle.std.specs.declared.io.ErrorKind.TheVariants.{StorageFull, QuotaExceeded, FileTooLarge}

-- the folder is full: its space, its owner's share of it, or the greatest size of a file
abbrev pub IsFull : ErrorKind → Type 0
IsFull kind = (kind ≡ StorageFull) ⊎ (kind ≡ QuotaExceeded) ⊎ (kind ≡ FileTooLarge)
