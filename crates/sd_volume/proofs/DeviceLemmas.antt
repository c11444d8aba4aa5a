-- What several calls of a device leave of it, one after another.
use Rattle.std.proofs.Common.{◌≡◌, ℕ, suc, ◌-◌, ◌^◌, ◌≤◌, ◌⊎◌, inl, inr, ◌≢◌, refl, sym, ap, ◌∙◌, subst, arith, List, length, take, Option, Some, Result, Ok, Err}
use Rattle.std.specs.Prelude.{IsErrOf, IsTrue}
use Rattle.std.proofs.lemmas.List.{take_at}
use Rattle.std.proofs.lemmas.Bool.{cases_lt}
use Rattle.sd_driver.specs.declared.driver.DriverFault.{DriverFault}
use Rattle.sd_driver.specs.declared.driver.DriverFault.TheVariants.{NotThere, Exists, NoRoom, Device, Memory}
use Rattle.sd_driver.specs.Shelf.{Shelf, Held, stable_bytes, SameShelf, OtherShelf, Passes, KeepsStable, Creates, Appends, Syncs, MaySync, Truncates, MayTruncate}
use Rattle.sd_base.specs.Count.{Rose}
use Rattle.sd_driver.specs.Meaning.{Meaning, IsHonest, CountsFailures, SameCounts, told_after}
use Rattle.sd_driver.proofs.Lasting.{still_lasts, StillLasts-trans, Lasts-begin, BeginsWith-same, Passes-later}
use Rattle.sd_volume.specs.Device.{Counted, CallsAtMost, OnlyReads, Writes, CutsLoaded, KeepsLoaded}
use Rattle.sd_volume.specs.Fault.{adopt_fault_of}
use Rattle.sd_volume.specs.declared.fault.AdoptFault.TheVariants as adopt
use Rattle.sd_volume.specs.Label.{Stores}
use Rattle.std.proofs.Math.Seq.{take-length}

-- counts that didn't rise are as they were
not_rose : (old new : ℕ) → old ≤ new → (Rose old new → ⊥) → new ≡ old
not_rose old new le never = elim (cases_lt old new) [ inl lt ↦ absurd (never (inl lt)) | inr ge ↦ omega arith ]

told_same : {T : Type 0} (result : Result T DriverFault) (told : ℕ) → (result ≢ Err NoRoom) → told_after result told ≡ told
told_same (Ok value) told never = refl
told_same (Err NotThere) told never = refl
told_same (Err Exists) told never = refl
told_same (Err NoRoom) told never = absurd (never refl)
told_same (Err Device) told never = refl
told_same (Err Memory) told never = refl

told_rose : {T : Type 0} (result : Result T DriverFault) (old new : ℕ) → result ≡ Err NoRoom → new ≡ told_after result old → Rose old new
told_rose (Ok value) old new e is = absurd cc
told_rose (Err NotThere) old new e is = absurd cc
told_rose (Err Exists) old new e is = absurd cc
told_rose (Err NoRoom) old new e is = elim (cases_lt old (2 ^ 64 - 1)) [ inl lt ↦ inl (omega arith) | inr ge ↦ inr (omega arith) ]
told_rose (Err Device) old new e is = absurd cc
told_rose (Err Memory) old new e is = absurd cc

-- one call
pub counted_call : {T : Type 0} (result : Result T DriverFault) (old new : Meaning) → CountsFailures result old new → Passes old.shelf new.shelf → Counted (IsErrOf result Device) (IsErrOf result NoRoom) old new
counted_call result old new counts passes = record {
  honest = counts.honest;
  moment = Passes-later old.shelf new.shelf passes;
  failures = counts.failures.later;
  failed = counts.failures.rose.0;
  no_failure = λ none. not_rose old.failures new.failures counts.failures.later (λ rose. none (counts.failures.rose.1 rose));
  told = λ e. told_rose result old.told new.told e counts.told;
  not_told = λ none. counts.told ∙ told_same result old.told none;
}

-- what was counted, said of other answers
pub Counted-as : (fault fault' no_room no_room' : Type 0) (old new : Meaning) → (fault → fault') → (fault' → fault) → (no_room → no_room') → (no_room' → no_room)
    → Counted fault no_room old new → Counted fault' no_room' old new
Counted-as fault fault' no_room no_room' old new to from full_to full_from counted = record {
  honest = counted.honest;
  moment = counted.moment;
  failures = counted.failures;
  failed = λ f. counted.failed (from f);
  no_failure = λ none. counted.no_failure (λ f. none (to f));
  told = λ n. counted.told (full_from n);
  not_told = λ none. counted.not_told (λ n. none (full_to n));
}

-- a call that was answered neither way counted nothing
pub SameCounts-of : (fault no_room : Type 0) (old new : Meaning) → ¬ fault → ¬ no_room → Counted fault no_room old new → SameCounts old new
SameCounts-of fault no_room old new no_fault not_full counted = record {
  honest = counted.honest;
  failures = counted.no_failure no_fault;
  told = counted.not_told not_full;
}

-- a call after others that counted nothing
pub Counted-behind : (fault no_room : Type 0) (a b c : Meaning) → SameCounts a b → a.shelf.moment ≤ b.shelf.moment → Counted fault no_room b c → Counted fault no_room a c
Counted-behind fault no_room a b c first moment then = record {
  honest = then.honest ∙ first.honest;
  moment = omega (arith, moment, then.moment);
  failures = omega (arith, first.failures, then.failures);
  failed = λ f. subst (λ n. Rose n c.failures) first.failures (then.failed f);
  no_failure = λ none. then.no_failure none ∙ first.failures;
  told = λ n. subst (λ t. Rose t c.told) first.told (then.told n);
  not_told = λ none. then.not_told none ∙ first.told;
}

-- one call changes volumes once at most
pub one_call : (old new : Meaning) → Passes old.shelf new.shelf → CallsAtMost 1 old new
one_call old new passes = of passes.moments
  where
    of : (SameShelf old.shelf new.shelf × (new.shelf.moment ≡ old.shelf.moment)) ⊎ (OtherShelf old.shelf new.shelf × (new.shelf.moment ≡ suc old.shelf.moment)) → CallsAtMost 1 old new
    of (inl same) = omega (arith, same.1)
    of (inr more) = omega (arith, more.1)

-- Reading.

-- one call that reads
pub only_reads_call : {T : Type 0} (result : Result T DriverFault) (old new : Meaning) → CountsFailures result old new → (result ≢ Err NoRoom)
    → Passes old.shelf new.shelf → KeepsStable old.shelf new.shelf → new.loaded ≡ old.loaded → (IsHonest old → SameShelf old.shelf new.shelf)
    → OnlyReads (IsErrOf result Device) old new
only_reads_call result old new counts room passes stable loaded same = record {
  counted = Counted-as _ _ _ ⊥ old new (λ f. f) (λ f. f) room (λ n. absurd n) (counted_call result old new counts passes);
  loaded = loaded;
  lasts = still_lasts old.shelf new.shelf passes stable;
  same = same;
}

pub OnlyReads-as : (fault fault' : Type 0) (old new : Meaning) → (fault → fault') → (fault' → fault) → OnlyReads fault old new → OnlyReads fault' old new
OnlyReads-as fault fault' old new to from reads = record {
  counted = Counted-as fault fault' ⊥ ⊥ old new to from (λ n. n) (λ n. n) reads.counted;
  loaded = reads.loaded;
  lasts = reads.lasts;
  same = reads.same;
}

-- a call after one that was answered
pub OnlyReads-trans : (first fault : Type 0) (a b c : Meaning) → ¬ first → OnlyReads first a b → OnlyReads fault b c → OnlyReads fault a c
OnlyReads-trans first fault a b c answered one then = record {
  counted = Counted-behind fault ⊥ a b c (SameCounts-of first ⊥ a b answered (λ n. n) one.counted) one.counted.moment then.counted;
  loaded = then.loaded ∙ one.loaded;
  lasts = StillLasts-trans a.shelf b.shelf c.shelf one.lasts then.lasts;
  same = λ honest name. then.same (subst IsTrue (sym one.counted.honest) honest) name ∙ one.same honest name;
}

-- an answer is one of the two
pub err_or_ok : {T E : Type 0} {error : E} {value : T} {P : Type 0} → ◌≡◌ {A = Result T E} (Err error) (Ok value) → P
err_or_ok e = absurd cc

-- Writing.

-- an append and a sync
pub writes_of : (more : List ℕ) (loaded still : Option (List ℕ)) (a b c : Shelf) → still ≡ loaded → Appends more loaded a b → Syncs still b c → Writes more loaded a c
writes_of more loaded still a b c same appends syncs = record {
  here = λ name held is there. (
      let one = appends.here name held is there in
      let two = syncs.here name one.0 (same ∙ is) one.2 in
      (two.0, two.1 ∙ ap (λ (h : Held). record { bytes = h.bytes; stable = length h.bytes }) one.1, two.2)
      );
  others = λ name other. syncs.others name (λ e. other (sym same ∙ e)) ∙ appends.others name other;
}

-- a new volume, written and unloaded
pub stores_of : (name bytes : List ℕ) (loaded : Option (List ℕ)) (a b c d : Shelf) → loaded ≡ Some name → Creates name a b → Writes bytes loaded b c → SameShelf c d → Passes c d
    → Stores name bytes a d
stores_of name bytes loaded a b c d is creates writes same passes =
    let written = writes.here name _ is creates.made in
    let made : d.volume name ≡ Some (record { bytes = bytes; stable = length bytes }) = same name ∙ written.2 ∙ ap Some written.1 in
    record {
      absent = creates.absent;
      made = made;
      lasts = Lasts-begin name bytes c d passes (BeginsWith-same _ bytes (ap stable_bytes made ∙ take-length bytes));
      others = λ other o. same other ∙ (writes.others other (λ e. o (some_is (sym e ∙ is))) ∙ creates.others other o);
    }
  where
    some_is : {x y : List ℕ} → Some x ≡ Some y → x ≡ y
    some_is e = cc

-- an answer that is none of the others is a fault of the device
pub device_fault : (fault : DriverFault) → fault ≢ NotThere → fault ≢ Exists → fault ≢ NoRoom → fault ≢ Memory → fault ≡ Device
device_fault NotThere a b c d = absurd (a refl)
device_fault Exists a b c d = absurd (b refl)
device_fault NoRoom a b c d = absurd (c refl)
device_fault Device a b c d = refl
device_fault Memory a b c d = absurd (d refl)

pub ok_is : {T E : Type 0} {a b : T} → ◌≡◌ {A = Result T E} (Ok a) (Ok b) → a ≡ b
ok_is e = cc

-- what one who adopts takes for a fault of the device is one
pub adopt_device : (fault : DriverFault) → fault ≢ Exists → fault ≢ NoRoom → adopt_fault_of fault ≡ adopt.Device → fault ≡ Device
adopt_device NotThere a b e = cc
adopt_device Exists a b e = absurd (a refl)
adopt_device NoRoom a b e = absurd (b refl)
adopt_device Device a b e = refl
adopt_device Memory a b e = cc

pub err_is : {T E : Type 0} {a b : E} → ◌≡◌ {A = Result T E} (Err a) (Err b) → a ≡ b
err_is e = cc

pub OnlyReads-adopting : {T U : Type 0} (fault : DriverFault) (old new : Meaning) → (fault ≢ Exists) × (fault ≢ NoRoom) → OnlyReads (IsErrOf {T = T} (Err fault) Device) old new
    → OnlyReads (IsErrOf {T = U} (Err (adopt_fault_of fault)) adopt.Device) old new
OnlyReads-adopting {T} fault old new others reads =
    OnlyReads-as _ _ old new (λ f. ap (λ a. Err (adopt_fault_of a)) (err_is f)) (λ f. ap Err (adopt_device fault others.0 others.1 (err_is f))) reads

-- Cutting.

pub cuts_of : (to : ℕ) (loaded still : Option (List ℕ)) (a b c : Shelf) → still ≡ loaded → Truncates to loaded a b → Syncs still b c → CutsLoaded to loaded a c
cuts_of to loaded still a b c same cuts syncs = record {
  here = λ name held is there. (
      let one = cuts.here name held is there in
      let two = syncs.here name one.0 (same ∙ is) one.2 in
      (two.0, two.1 ∙ ap (λ (h : Held). record { bytes = h.bytes; stable = length h.bytes }) one.1, two.2)
      );
  others = λ name other. syncs.others name (λ e. other (sym same ∙ e)) ∙ cuts.others name other;
}

pub cut_keeps : (to : ℕ) (loaded : Option (List ℕ)) (a c : Shelf) → CutsLoaded to loaded a c → KeepsLoaded to loaded a c
cut_keeps to loaded a c cuts = record {
  here = λ name held is there. (let one = cuts.here name held is there in (one.0, BeginsWith-same _ _ (ap (λ (h : Held). h.bytes) one.1), one.2));
  others = cuts.others;
}

pub failed_cut_keeps : (to : ℕ) (loaded : Option (List ℕ)) (a b : Shelf) → MayTruncate to loaded a b → KeepsLoaded to loaded a b
failed_cut_keeps to loaded a b cuts = record {
  here = λ name held is there. (
      let one = cuts.here name held is there in
      let front = take to held.bytes in
      (one.0, ap (take (length front)) one.1.1 ∙ take_at front one.1.0 (length front) refl, one.2)
      );
  others = cuts.others;
}

pub failed_sync_keeps : (to : ℕ) (loaded still : Option (List ℕ)) (a b c : Shelf) → still ≡ loaded → Truncates to loaded a b → MaySync still b c → KeepsLoaded to loaded a c
failed_sync_keeps to loaded still a b c same cuts syncs = record {
  here = λ name held is there. (
      let one = cuts.here name held is there in
      let two = syncs.here name one.0 (same ∙ is) one.2 in
      (two.0, BeginsWith-same _ _ (two.1.0 ∙ ap (λ (h : Held). h.bytes) one.1), two.2)
      );
  others = λ name other. syncs.others name (λ e. other (sym same ∙ e)) ∙ cuts.others name other;
}
