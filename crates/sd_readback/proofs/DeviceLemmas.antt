-- An honest device while it is read: its volumes stay, and so does what a volume reader holds.
use Rattle.std.proofs.Common.{◌≡◌, ◌≢◌, ◌≤◌, ℕ, refl, sym, ap, subst, ◌∙◌, arith, List, take, drop, Option, Some, None, Ok, Err}
use Rattle.std.specs.Prelude.{IsTrue, IsErrOf}
use Rattle.sd_driver.specs.declared.driver.DriverFault.{DriverFault}
use Rattle.sd_driver.specs.declared.driver.DriverFault.TheVariants as driver
use Rattle.sd_driver.specs.Shelf.{Shelf, Held}
use Rattle.sd_driver.specs.Meaning.{Meaning, IsHonest, TellsLength}
use Rattle.sd_driver.proofs.Lasting.{StillLasts-refl}
use Rattle.sd_volume.specs.Device.{OnlyReads}
use Rattle.sd_volume.proofs.DeviceLemmas.{OnlyReads-as, OnlyReads-trans, err_is}
use Rattle.sd_volume.specs.Reader.{ReaderView, Shows, ShowsPart}
use Rattle.sd_readback.specs.declared.fault.ReadFault.{ReadFault}
use Rattle.sd_readback.specs.declared.fault.ReadFault.TheVariants.{Device}
use Rattle.sd_readback.specs.Device.{HasVolumes, IsReading}
use Rattle.sd_readback.specs.Faults.{IsOfSpans, device_fault_of}
use Rattle.sd_readback.specs.Reading.{Volumes, bytes_of, volumes_on}

-- the volume whose bytes they are
pub held_of : (there : Option Held) (bytes : List ℕ) → bytes_of there ≡ Some bytes → (held : Held) × (there ≡ Some held) × (held.bytes ≡ bytes)
held_of None bytes e = absurd cc
held_of (Some held) bytes e = (held, refl, cc)

pub absent_bytes : (there : Option Held) (bytes : List ℕ) → bytes_of there ≡ Some bytes → there ≡ None → ⊥
absent_bytes None bytes e none = absurd cc
absent_bytes (Some held) bytes e none = absurd cc

pub own_volumes : (meaning : Meaning) → IsHonest meaning → HasVolumes meaning (volumes_on meaning.shelf)
own_volumes meaning honest = record { honest = honest; volumes_are = λ name. refl }

pub volumes_still : (fault : Type 0) (old new : Meaning) (volumes : Volumes) → OnlyReads fault old new → HasVolumes old volumes → HasVolumes new volumes
volumes_still fault old new volumes reads h = record {
  honest = subst IsTrue (sym reads.counted.honest) h.honest;
  volumes_are = λ name. ap bytes_of (reads.same h.honest name) ∙ h.volumes_are name;
}

pub reading_still : (fault : Type 0) (old new : Meaning) (reader after : ReaderView) (least : ℕ) (bytes : List ℕ) → OnlyReads fault old new → after.name ≡ reader.name
    → (IsHonest old → Shows reader old.shelf → Shows after new.shelf) → IsReading old reader least bytes → IsReading new after least bytes
reading_still fault old new reader after least bytes reads name shows is = record {
  honest = subst IsTrue (sym reads.counted.honest) is.honest;
  there = ap (volumes_on new.shelf) name ∙ ap bytes_of (reads.same is.honest reader.name) ∙ is.there;
  shows = shows is.honest is.shows;
  long = is.long;
}

-- what a reader shows of bytes that it reads
pub shown_there : (meaning : Meaning) (reader : ReaderView) (at count least : ℕ) (bytes : List ℕ) → IsReading meaning reader least bytes → ShowsPart at count reader meaning.shelf
    → reader.shown ≡ take count (drop at bytes)
shown_there meaning reader at count least bytes is part =
    let held = held_of (meaning.shelf.volume reader.name) bytes is.there in
    part held.0 held.1 ∙ ap (λ (l : List ℕ). take count (drop at l)) held.2

-- an answer of a device that isn't for want of the volume is no fault of the spans
pub not_of_spans : (answer : DriverFault) → (answer ≢ driver.NotThere) → IsOfSpans (device_fault_of answer) → ⊥
not_of_spans driver.NotThere there of = there refl
not_of_spans driver.Exists there of = of.0 refl
not_of_spans driver.NoRoom there of = of.0 refl
not_of_spans driver.Device there of = of.0 refl
not_of_spans driver.Memory there of = of.1 refl

-- what one who reads takes for a fault of the device is one
reading_device : (fault : DriverFault) → fault ≢ driver.Exists → fault ≢ driver.NoRoom → device_fault_of fault ≡ Device → fault ≡ driver.Device
reading_device driver.NotThere a b e = cc
reading_device driver.Exists a b e = absurd (a refl)
reading_device driver.NoRoom a b e = absurd (b refl)
reading_device driver.Device a b e = refl
reading_device driver.Memory a b e = cc

pub OnlyReads-reading : {T U : Type 0} (fault : DriverFault) (old new : Meaning) → (fault ≢ driver.Exists) × (fault ≢ driver.NoRoom) → OnlyReads (IsErrOf {T = T} (Err fault) driver.Device) old new
    → OnlyReads (IsErrOf {T = U} (Err (device_fault_of fault)) Device) old new
OnlyReads-reading {T} fault old new others reads =
    OnlyReads-as _ _ old new (λ f. ap (λ a. Err (device_fault_of a)) (err_is f)) (λ f. ap Err (reading_device fault others.0 others.1 (err_is f))) reads

-- calls that were answered, and then a fault that isn't the device's
pub OnlyReads-refused : {T U : Type 0} (value : U) (fault : ReadFault) (a b c : Meaning) → fault ≢ Device → OnlyReads ⊥ a b → OnlyReads (IsErrOf {T = U} (Ok value) Device) b c
    → OnlyReads (IsErrOf {T = T} (Err fault) Device) a c
OnlyReads-refused {T} value fault a b c other first then =
    OnlyReads-trans ⊥ _ a b c (λ n. n) first (OnlyReads-as _ _ b c (λ f. cc) (λ f. absurd (other (err_is f))) then)

-- and calls that were answered
pub OnlyReads-answered : {U : Type 0} (value : U) (a b c : Meaning) → OnlyReads ⊥ a b → OnlyReads (IsErrOf {T = U} {E = ReadFault} (Ok value) Device) b c → OnlyReads ⊥ a c
OnlyReads-answered value a b c first then = OnlyReads-trans ⊥ _ a b c (λ n. n) first (OnlyReads-as _ _ b c (λ f. cc) (λ n. absurd n) then)

-- no call at all
pub OnlyReads-refl : (meaning : Meaning) → OnlyReads ⊥ meaning meaning
OnlyReads-refl meaning = record {
  counted = record {
    honest = refl;
    moment = omega arith;
    failures = omega arith;
    failed = λ n. absurd n;
    no_failure = λ never. refl;
    told = λ n. absurd n;
    not_told = λ never. refl;
  };
  loaded = refl;
  lasts = StillLasts-refl meaning.shelf;
  same = λ honest name. refl;
}

-- a reader of a volume whose length was told
pub record Reading (old new : Meaning) (reader : ReaderView) (volumes : Volumes) (name : List ℕ) (end : ℕ) : Type 0 where
  pub bytes : List ℕ
  pub there : volumes name ≡ Some bytes
  pub reading : IsReading new reader end bytes

pub length_told : (old new : Meaning) (reader : ReaderView) (volumes : Volumes) (name : List ℕ) (size end : ℕ) (fault : Type 0) → HasVolumes old volumes → OnlyReads fault old new
    → TellsLength name size old.shelf → reader.name ≡ name → ((shelf : Shelf) → Shows reader shelf) → end ≤ size → Reading old new reader volumes name end
length_told old new reader volumes name size end fault has reads told same shows long =
    let there : volumes name ≡ Some told.held.bytes = sym (has.volumes_are name) ∙ ap bytes_of told.there in
    let still = volumes_still fault old new volumes reads has in
    record {
      bytes = told.held.bytes;
      there = there;
      reading = record {
        honest = still.honest;
        there = ap (volumes_on new.shelf) same ∙ still.volumes_are name ∙ there;
        shows = shows new.shelf;
        long = omega (arith, told.length_is);
      };
    }
