-- The names of volumes that are claimed at the desk before any thread comes to it.
use Rattle.std.specs.Prelude.{◌≡◌, ◌≢◌, ℕ, List}
use Rattle.sd_base.specs.declared.refusal.Refusal.{Refusal}
use Rattle.sd_base.specs.declared.refusal.Refusal.TheVariants.{AlreadyLabelled, Memory}
use Rattle.sd_board.specs.Names.{NamesIs, NamePlaced, NamesStay, place_of}
use Rattle.sd_board.specs.declared.names.VolumePlace.TheVariants.{Nowhere, At}

-- the name was nowhere, and is at this drive; each other is where it was
abbrev pub ClaimsName : List ℕ → ℕ → NamesIs → NamesIs → Type 0
ClaimsName name drive old new = (place_of name old ≡ Nowhere) × NamePlaced name (At drive) old new

-- each name is where it was: this one was somewhere, or there was no memory
abbrev pub ClaimsNoName : Refusal → List ℕ → NamesIs → NamesIs → Type 0
ClaimsNoName AlreadyLabelled name old new = (place_of name old ≢ Nowhere) × (new ≡ old)
ClaimsNoName Memory name old new = (place_of name old ≡ Nowhere) × NamesStay old new
ClaimsNoName why name old new = ⊥
