-- How a device that was to put bytes after a volume is left.
use Rattle.std.proofs.Common.{◌≡◌, ◌≢◌, ℕ, suc, ◌≤◌, inl, inr, refl, sym, ap, ◌∙◌, subst, arith, List, [], append-nil, Option, Some, None, Result, Ok, Err}
use Rattle.std.specs.Prelude.{IsErrOf, IsTrue, IsSome, IfErr, OnOk, OnErr}
use Rattle.sd_driver.specs.declared.driver.DriverFault.{DriverFault}
use Rattle.sd_driver.specs.declared.driver.DriverFault.TheVariants.{NotThere, Exists, NoRoom, Device, Memory}
use Rattle.sd_driver.specs.Shelf.{Shelf, Held, SameShelf, Passes, Changes, Appends, MayAppend}
use Rattle.sd_driver.specs.Meaning.{Meaning, IsHonest, CountsFailures, SameCounts, Unchanged}
use Rattle.sd_driver.proofs.Lasting.{Passes-later}
use Rattle.sd_volume.proofs.DeviceLemmas.{counted_call, Counted-behind, SameCounts-of}
use Rattle.sd_tool.specs.Tail.{LeavesBehind, PutsBehind}

-- the shelf of an honest device is as it was, and no call was counted that changed it
pub record Looks (old new : Meaning) : Type 0 where
  pub counts : SameCounts old new
  pub moment : old.shelf.moment ≤ new.shelf.moment
  pub same : IsHonest old → SameShelf old.shelf new.shelf
  pub still : IsHonest old → new.shelf.moment ≡ old.shelf.moment

honest_still : (old new : Meaning) → new.honest ≡ old.honest → IsHonest old → IsHonest new
honest_still old new e honest = subst IsTrue (sym e) honest

-- if nothing changed, no call was counted
moment_same : (old new : Shelf) → Passes old new → SameShelf old new → new.moment ≡ old.moment
moment_same old new passes same = elim passes.moments [ inl s ↦ s.1 | inr o ↦ absurd (o.0.1 (same o.0.0)) ]

-- a call counts once at most
moment_once : (old new : Shelf) → Passes old new → new.moment ≤ suc old.moment
moment_once old new passes = elim passes.moments [ inl s ↦ omega (arith, s.1) | inr o ↦ omega (arith, o.1) ]

same_trans : (a b c : Shelf) → SameShelf a b → SameShelf b c → SameShelf a c
same_trans a b c one two name = two name ∙ one name

-- a step of a volume from a shelf on which all stayed
changes_behind : (step : Held → Held → Type 0) (name : List ℕ) (loaded : Option (List ℕ)) (a b c : Shelf) → loaded ≡ Some name → SameShelf a b → Changes step loaded b c → Changes step (Some name) a c
changes_behind step name loaded a b c is same changes = record {
  here = λ n held e there. changes.here n held (is ∙ e) (same n ∙ there);
  others = λ n other. changes.others n (λ e. other (sym is ∙ e)) ∙ same n;
}

may_append_same : (name : List ℕ) (a b : Shelf) → SameShelf a b → MayAppend (Some name) a b
may_append_same name a b same = record {
  here = λ n held e there. (held, ([], ap (λ (x : List ℕ). record { bytes = x; stable = held.stable }) (sym (append-nil held.bytes))), same n ∙ there);
  others = λ n other. same n;
}

-- a device that was unloaded
pub unloads : (old new : Meaning) → SameCounts old new → Passes old.shelf new.shelf → (IsHonest old → SameShelf old.shelf new.shelf) → Looks old new
unloads old new counts passes same = record {
  counts = counts;
  moment = Passes-later old.shelf new.shelf passes;
  same = same;
  still = λ honest. moment_same old.shelf new.shelf passes (same honest);
}

-- it loaded a volume then
pub loads : {T : Type 0} (value : T) (old mid new : Meaning) → Looks old mid → CountsFailures {T = T} (Ok value) mid new → Passes mid.shelf new.shelf
    → (IsHonest mid → SameShelf mid.shelf new.shelf) → Looks old new
loads value old mid new looks counts passes same =
    let one = counted_call (Ok value) mid new counts passes in
    let both = Counted-behind _ _ old mid new looks.counts looks.moment one in
    let still = λ (honest : IsHonest old). same (honest_still old mid looks.counts.honest honest) in
    record {
      counts = SameCounts-of _ _ old new (λ e. absurd cc) (λ e. absurd cc) both;
      moment = both.moment;
      same = λ honest. same_trans old.shelf mid.shelf new.shelf (looks.same honest) (still honest);
      still = λ honest. moment_same mid.shelf new.shelf passes (still honest) ∙ looks.still honest;
    }

-- it didn't load it, and that is the answer
pub not_loaded : {T S : Type 0} (name bytes : List ℕ) (fault : DriverFault) (old mid new : Meaning) → Looks old mid → CountsFailures {T = S} (Err fault) mid new
    → (fault ≢ Exists) × (fault ≢ NoRoom) → Passes mid.shelf new.shelf
    → (IsHonest mid → fault ≡ NotThere → mid.shelf.volume name ≡ None) → (IsHonest mid → SameShelf mid.shelf new.shelf)
    → PutsBehind {T = T} name bytes (Err fault) old new
not_loaded {T} {S} name bytes fault old mid new looks counts faults passes not_there same =
    let one = counted_call {T = S} (Err fault) mid new counts passes in
    let both = Counted-behind _ _ old mid new looks.counts looks.moment one in
    let on = λ (honest : IsHonest old). honest_still old mid looks.counts.honest honest in
    let stays = λ (honest : IsHonest old). same_trans old.shelf mid.shelf new.shelf (looks.same honest) (same (on honest)) in
    record {
      counted = record {
        honest = both.honest;
        moment = both.moment;
        failures = both.failures;
        failed = λ e. both.failed (cc);
        no_failure = λ none. both.no_failure (λ e. none (cc));
        told = λ e. both.told (cc);
        not_told = λ none. both.not_told (λ e. none (cc));
      };
      fault = faults.0;
      once = λ honest. (let k = moment_same mid.shelf new.shelf passes (same (on honest)) in let l = looks.still honest in omega arith);
      shelf = λ honest. leaves fault faults (λ e. sym (looks.same honest name) ∙ not_there (on honest) e) (stays honest);
    }
  where
    leaves : (f : DriverFault) → (f ≢ Exists) × (f ≢ NoRoom) → (f ≡ NotThere → old.shelf.volume name ≡ None) → SameShelf old.shelf new.shelf → LeavesBehind {T = T} name bytes (Err f) old.shelf new.shelf
    leaves NotThere other none same = (none refl, same)
    leaves Exists other none same = other.0 refl
    leaves NoRoom other none same = absurd (other.1 refl)
    leaves Device other none same = may_append_same name old.shelf new.shelf same
    leaves Memory other none same = same

-- it loaded it, and was asked for the bytes
pub asks : {T : Type 0} (name bytes : List ℕ) (result : Result T DriverFault) (old mid new : Meaning) → Looks old mid → (IsHonest old → IsSome (old.shelf.volume name)) → mid.loaded ≡ Some name
    → CountsFailures result mid new → IfErr result (λ fault. (fault ≢ NotThere) × (fault ≢ Exists)) → Passes mid.shelf new.shelf
    → (IsErrOf result Memory → Unchanged mid new)
    → (IsHonest mid → OnOk result (Appends bytes mid.loaded mid.shelf new.shelf)) → (IsHonest mid → OnErr result (MayAppend mid.loaded mid.shelf new.shelf))
    → PutsBehind name bytes result old new
asks {T} name bytes result old mid new looks there loaded counts faults passes memory ok err =
    let one = counted_call result mid new counts passes in
    let both = Counted-behind _ _ old mid new looks.counts looks.moment one in
    let on = λ (honest : IsHonest old). honest_still old mid looks.counts.honest honest in
    record {
      counted = both;
      fault = not_exists result faults;
      once = λ honest. (let k = moment_once mid.shelf new.shelf passes in let l = looks.still honest in omega arith);
      shelf = λ honest. leaves result faults (there honest) (looks.same honest) (λ e. (memory e).shelf) (ok (on honest)) (err (on honest));
    }
  where
    not_exists : (r : Result T DriverFault) → IfErr r (λ fault. (fault ≢ NotThere) × (fault ≢ Exists)) → IfErr r (λ fault. fault ≢ Exists)
    not_exists (Ok value) f = tt
    not_exists (Err fault) f = f.1

    leaves : (r : Result T DriverFault) → IfErr r (λ fault. (fault ≢ NotThere) × (fault ≢ Exists)) → IsSome (old.shelf.volume name) → SameShelf old.shelf mid.shelf
        → (IsErrOf r Memory → SameShelf mid.shelf new.shelf) → OnOk r (Appends bytes mid.loaded mid.shelf new.shelf) → OnErr r (MayAppend mid.loaded mid.shelf new.shelf)
        → LeavesBehind name bytes r old.shelf new.shelf
    leaves (Ok value) f there same memory ok err = (there, changes_behind _ name mid.loaded old.shelf mid.shelf new.shelf loaded same ok)
    leaves (Err NotThere) f there same memory ok err = absurd (f.0 refl)
    leaves (Err Exists) f there same memory ok err = f.1 refl
    leaves (Err NoRoom) f there same memory ok err = (there, changes_behind _ name mid.loaded old.shelf mid.shelf new.shelf loaded same err)
    leaves (Err Device) f there same memory ok err = changes_behind _ name mid.loaded old.shelf mid.shelf new.shelf loaded same err
    leaves (Err Memory) f there same memory ok err = same_trans old.shelf mid.shelf new.shelf same (memory refl)
