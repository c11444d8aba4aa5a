-- The names of volumes at the desk. A name that is being claimed is no claim yet.
use Rattle.std.specs.Prelude.{◌≡◌, ◌≢◌, ℕ, Bool, true, false, List, Option, None, Some}
use Rattle.sd_desk.specs.Desk.{DeskView, claimed_by}
use Rattle.sd_board.specs.declared.names.VolumePlace.{VolumePlace}
use Rattle.sd_board.specs.declared.names.VolumePlace.TheVariants.{Nowhere, Coming, At}
use Rattle.sd_board.specs.declared.names.Claiming.{Claiming}
use Rattle.sd_board.specs.declared.names.Claiming.TheVariants.{Begun, Taken, UnderWay, Memory}

-- The desk; and beside it the names that are being claimed, each with its drive. The desk has these too.
pub record NamesIs : Type 0 where
  pub desk : DeskView
  pub coming : DeskView

-- each name that is being claimed is at the desk, for the same drive
abbrev pub KeepsNames : NamesIs → Type 0
KeepsNames n = (name : List ℕ) (drive : ℕ) → claimed_by n.coming name ≡ Some drive → claimed_by n.desk name ≡ Some drive

-- somebody is claiming the name
abbrev pub IsComing : List ℕ → NamesIs → Type 0
IsComing name n = claimed_by n.coming name ≢ None

-- where it is, by the drive for which it is being claimed, and by that for which the desk has it
abbrev pub place_by : Option ℕ → Option ℕ → VolumePlace
place_by (Some drive) claimed = Coming drive
place_by None (Some drive) = At drive
place_by None None = Nowhere

-- where the volume of a name is: a claim counts from the moment on at which the claiming has ended
abbrev pub place_of : List ℕ → NamesIs → VolumePlace
place_of name n = place_by (claimed_by n.coming name) (claimed_by n.desk name)

-- each name but this one is where it was
abbrev pub OthersStay : List ℕ → NamesIs → NamesIs → Type 0
OthersStay name old new = (other : List ℕ) → other ≢ name → place_of other new ≡ place_of other old

-- each name is where it was, and no request comes or goes
pub record NamesStay (old new : NamesIs) : Type 0 where
  pub places : (name : List ℕ) → place_of name new ≡ place_of name old
  pub requests : new.desk.requests ≡ old.desk.requests

-- this name is there now; each other is where it was, and no request comes or goes
pub record NamePlaced (name : List ℕ) (place : VolumePlace) (old new : NamesIs) : Type 0 where
  pub placed : place_of name new ≡ place
  pub others : OthersStay name old new
  pub requests : new.desk.requests ≡ old.desk.requests

-- What beginning to claim a name comes to: it is begun exactly if the name is nowhere, and there is memory.
abbrev pub BeginsClaim : Claiming → List ℕ → ℕ → NamesIs → NamesIs → Type 0
BeginsClaim Begun name drive old new = (place_of name old ≡ Nowhere) × NamePlaced name (Coming drive) old new
BeginsClaim Taken name drive old new = ((at : ℕ) × (place_of name old ≡ At at)) × (new ≡ old)
BeginsClaim UnderWay name drive old new = ((at : ℕ) × (place_of name old ≡ Coming at)) × (new ≡ old)
BeginsClaim Memory name drive old new = (place_of name old ≡ Nowhere) × NamesStay old new

-- What ending it comes to: of a name that was being claimed for a drive the volume is there from now on, or nowhere.
pub record EndsClaim (kept : Bool) (name : List ℕ) (old new : NamesIs) : Type 0 where
  pub kept_there : (drive : ℕ) → place_of name old ≡ Coming drive → kept ≡ true → NamePlaced name (At drive) old new
  pub let_go : (drive : ℕ) → place_of name old ≡ Coming drive → kept ≡ false → NamePlaced name Nowhere old new
  pub not_coming : (IsComing name old → ⊥) → new ≡ old
