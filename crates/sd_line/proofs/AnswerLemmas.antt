-- What a drive answers if there is no desk.
use Rattle.std.proofs.Common.{◌≡◌, ◌≢◌, ◌⊎◌, ℕ, Bool, true, false, Option, None, Some, Ok, Err, List, refl, sym, ◌∙◌, inl, inr}
use Rattle.std.specs.Prelude.{IsErrOf}
use Rattle.std.specs.Str.{bytes_eq}
use Rattle.std.proofs.lemmas.Slice.Eq.{bytes_eq-Decides}
use Rattle.sd_base.specs.declared.refusal.Refusal.{Refusal}
use Rattle.sd_base.specs.declared.refusal.Refusal.TheVariants.{DeviceFault, OtherPoolOrMedia, InUse, AlreadyLabelled}
use Rattle.sd_driver.specs.Meaning.{Meaning}
use Rattle.sd_driver.specs.Shelf.{StillLasts}
use Rattle.sd_drive.specs.Moves.{label_due, adopt_due, index_of}
use Rattle.sd_drive.specs.Shelf.{KeepsPieces}
use Rattle.sd_drive.specs.View.{DriveIs}
use Rattle.sd_volume.specs.Device.{Counted}
use Rattle.sd_world.specs.Stations.{Calls}
use Rattle.sd_world.proofs.CallLemmas.{counted_well, counted_refused}

-- a refusal is due, or none is
pub due_or : (o : Option Refusal) → (o ≡ None) ⊎ ((f : Refusal) × (o ≡ Some f))
due_or None = inl refl
due_or (Some f) = inr (f, refl)

-- Which refusal of a label is due, and why.
pub data LabelDue {D : Type 0} (d : DriveIs D) (name media : List ℕ) : Type 0 where
  other : media ≢ d.media → label_due d name media ≡ Some OtherPoolOrMedia → LabelDue d name media
  loaded : media ≡ d.media → d.loaded ≢ None → label_due d name media ≡ Some InUse → LabelDue d name media
  there : media ≡ d.media → d.loaded ≡ None → (at : ℕ) → index_of d.volumes name ≡ Some at → label_due d name media ≡ Some AlreadyLabelled
      → LabelDue d name media
  none : media ≡ d.media → d.loaded ≡ None → index_of d.volumes name ≡ None → label_due d name media ≡ None → LabelDue d name media

pub label_dues : {D : Type 0} (d : DriveIs D) (name media : List ℕ) → LabelDue d name media
label_dues d name media = by_media (bytes_eq d.media media) refl
  where
    by_name : media ≡ d.media → bytes_eq d.media media ≡ true → d.loaded ≡ None → (o : Option ℕ) → index_of d.volumes name ≡ o → LabelDue d name media
    by_name same is out None found = none same out found (rw (is, out, found) refl)
    by_name same is out (Some at) found = there same out at found (rw (is, out, found) refl)

    by_loaded : media ≡ d.media → bytes_eq d.media media ≡ true → (o : Option ℕ) → d.loaded ≡ o → LabelDue d name media
    by_loaded same is None out = by_name same is out (index_of d.volumes name) refl
    by_loaded same is (Some at) in_ = loaded same (λ out. cc (sym in_ ∙ out)) (rw (is, in_) refl)

    by_media : (b : Bool) → bytes_eq d.media media ≡ b → LabelDue d name media
    by_media true is = by_loaded (sym ((bytes_eq-Decides d.media media).0 is)) is d.loaded refl
    by_media false is = other (λ same. (let t = (bytes_eq-Decides d.media media).1 (sym same) in cc (t, is))) (rw is refl)

-- Which refusal of an adoption is due, and why.
pub data AdoptDue {D : Type 0} (d : DriveIs D) (name : List ℕ) : Type 0 where
  there : (at : ℕ) → index_of d.volumes name ≡ Some at → adopt_due d name ≡ Some AlreadyLabelled → AdoptDue d name
  loaded : index_of d.volumes name ≡ None → d.loaded ≢ None → adopt_due d name ≡ Some InUse → AdoptDue d name
  none : index_of d.volumes name ≡ None → d.loaded ≡ None → adopt_due d name ≡ None → AdoptDue d name

pub adopt_dues : {D : Type 0} (d : DriveIs D) (name : List ℕ) → AdoptDue d name
adopt_dues d name = by_name (index_of d.volumes name) refl
  where
    by_loaded : index_of d.volumes name ≡ None → (o : Option ℕ) → d.loaded ≡ o → AdoptDue d name
    by_loaded found None out = none found out (rw (found, out) refl)
    by_loaded found (Some at) in_ = loaded found (λ out. cc (sym in_ ∙ out)) (rw (found, in_) refl)

    by_name : (o : Option ℕ) → index_of d.volumes name ≡ o → AdoptDue d name
    by_name None found = by_loaded found d.loaded refl
    by_name (Some at) found = there at found (rw found refl)

-- what a call leaves of a device that answers no fault
pub called_well : {D T : Type 0} (meaning : D → Meaning) (d after : DriveIs D) (done : T)
    → Counted (IsErrOf {T = T} {E = Refusal} (Ok done) DeviceFault) ⊥ (meaning d.device) (meaning after.device)
    → KeepsPieces (meaning d.device) (meaning after.device) d.journal after.journal d.hand after.hand
    → StillLasts (meaning d.device).shelf (meaning after.device).shelf → Calls meaning ⊥ ⊥ d after
called_well meaning d after done counted keeps later = record { counted = counted_well _ _ done counted; keeps = keeps; later = later }

-- and of one that is answered why
pub called_refused : {D T : Type 0} (meaning : D → Meaning) (why : Refusal) (d after : DriveIs D)
    → Counted (IsErrOf {T = T} {E = Refusal} (Err why) DeviceFault) ⊥ (meaning d.device) (meaning after.device)
    → KeepsPieces (meaning d.device) (meaning after.device) d.journal after.journal d.hand after.hand
    → StillLasts (meaning d.device).shelf (meaning after.device).shelf → Calls meaning (why ≡ DeviceFault) ⊥ d after
called_refused {D} {T} meaning why d after counted keeps later = record { counted = counted_refused {T = T} _ _ why counted; keeps = keeps; later = later }
