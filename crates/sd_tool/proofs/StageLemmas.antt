-- The drives of a script's world: online while none was retired.
use Rattle.std.proofs.Common.{cond, ◌≡◌, ℕ, zero, suc, Bool, true, false, Option, None, Some, List, [], ◌∷◌, Vec, map, replicate, length, refl, sym, ap, subst, inl, inr, arith}
use Rattle.std.specs.Prelude.{is_some, nat_lt, Result, Ok, Err, IfOk, OnErr}
use Rattle.std.proofs.lemmas.Bool.{cases_lt, lt-ltb}
use Rattle.std.proofs.lemmas.List.{length-append}
use Rattle.sd_base.specs.declared.refusal.Refusal.{Refusal}
use Rattle.sd_base.specs.declared.refusal.Refusal.TheVariants.{DriveOffline, NoSuchDrive}
use Rattle.sd_driver.specs.Meaning.{Meaning}
use Rattle.sd_drive.specs.View.{DriveIs}
use Rattle.sd_drive.specs.declared.limits.Limits.{Limits}
use Rattle.sd_lane.specs.Queue.{LanesView}
use Rattle.sd_machine.specs.declared.event.Event.{Event}
use Rattle.sd_machine.specs.declared.reply.Reply.{Reply}
use Rattle.sd_machine.specs.declared.reply.Reply.TheVariants.{Retired}
use Rattle.sd_world.specs.Moves.{Moves}
use Rattle.sd_world.specs.World.{WorldView, BayView}
use Rattle.sd_world.proofs.MoveLeaves.{leaves}
use Rattle.sd_core.proofs.Online.{DrivesStay, drives_same, moves_stay, online_still}
use Rattle.sd_core.proofs.RoundParts.{rounds_stay}
use Rattle.sd_core.specs.Rounds.{Drains, PlaysMoving, online_flags}
use Rattle.sd_script.specs.declared.line.Tail.{Tail}
use Rattle.sd_spool.specs.Meaning.{Meaning as StoreMeaning}
use Rattle.sd_core.specs.Fresh.{AreNewDrives, new_bays}
use Rattle.sd_world.specs.Deeds.{IsRead}
use Rattle.sd_world.specs.Reading.{ReadsWorld}
use Rattle.sd_core.specs.View.{device_of, devices_of}
use Rattle.sd_tool.specs.Restart.{HandsOn, IsThere, RestartsAs, RestartsBy, StartsAnew, unfit}
use Rattle.sd_tool.specs.Settings.{ValuesView, capacity_for, drive_count}
use Rattle.sd_tool.specs.ScriptStage.{StageView, retired_after}
use Rattle.sd_tool.specs.declared.restart.Restart.{Restart}

-- Steps and readings.

-- whatever a step answers, the limits stay
pub moves_limits : {D : Type 0} (meaning : D → Meaning) (w w' : WorldView D) (event : Event) (reply : Reply) → Moves meaning w event reply w' → w'.limits ≡ w.limits
moves_limits meaning w w' event reply m = (leaves meaning w w' event reply m).limits

-- if it is no retirement, the drives stay as they are
pub moves_online : {D : Type 0} (meaning : D → Meaning) (w w' : WorldView D) (event : Event) (reply : Reply) → (reply ≡ Retired → ⊥) → Moves meaning w event reply w'
    → online_flags w' ≡ online_flags w
moves_online meaning w w' event Retired other m = absurd (other refl)
moves_online meaning w w' event reply other m = (moves_stay meaning w w' event reply tt m).flags

-- and whether one was retired stays
pub retired_other : (reply : Reply) (before : Bool) → (reply ≡ Retired → ⊥) → before ≡ retired_after reply before
retired_other Retired before other = absurd (other refl)
retired_other reply before other = refl

-- a reading leaves them
reading_stays : {D : Type 0} (meaning : D → Meaning) (key : _) (spans : List _) (got got' : List _) (result : _) (w w' : WorldView D)
    → ReadsWorld meaning key spans got got' result w w' → DrivesStay w w'
reading_stays meaning key spans got got' result w w' (inl m) = drives_same w w' m.4
reading_stays meaning key spans got got' result w w' (inr m) = online_still w w' m.1 m.2 m.3 _ m.4 m.6 refl (ap (λ v. v.limits) m.8) (ap (λ v. v.bays) m.8)

pub reads_stay : {D : Type 0} (meaning : D → Meaning) (key : _) (spans : List _) (got got' : List _) (result : _) (w w' : WorldView D)
    → IsRead meaning key spans got got' result w w' → DrivesStay w w'
reads_stay meaning key spans got got' result w w' read = reading_stays meaning key spans got got' result w w' read.reads

-- rounds leave them, whether memory lasted or not
pub drain_stays : {D E : Type 0} (meaning : D → Meaning) (result : Result ℕ E) (w w' : WorldView D) → IfOk result (λ placed. Drains meaning w placed w')
    → OnErr result (PlaysMoving meaning w w') → DrivesStay w w'
drain_stays meaning (Ok placed) w w' drains stops = rounds_stay meaning w w' drains.rounds drains.plays
drain_stays meaning (Err e) w w' drains stops = rounds_stay meaning w w' stops.0 stops.1

-- Devices.

one_device : {D : Type 0} (o : Option (DriveIs D)) → is_some o ≡ true → length (device_of o) ≡ 1
one_device None on = absurd (cc on)
one_device (Some d) on = refl

-- as many devices as drives that are online
pub devices_long : {D : Type 0} (bays : List (BayView D)) (count : ℕ) → map (λ (b : BayView D). is_some b.drive) bays ≡ replicate count true → length (devices_of bays) ≡ count
devices_long [] zero on = refl
devices_long [] (suc n) on = absurd (cc on)
devices_long (b ∷ bs) zero on = absurd (cc on)
devices_long (b ∷ bs) (suc n) on =
    let first : is_some b.drive ≡ true = cc on in
    let rest : map (λ x. is_some x.drive) bs ≡ replicate n true = cc on in
    let here = length-append (device_of b.drive) (devices_of bs) in
    let one = one_device b.drive first in
    let more = devices_long bs n rest in
    omega (arith, here, one, more)

-- A new world.

-- all drives of a new world are online
pub new_online : {D Q S Z : Type 0} (meaning : D → Meaning) (queue : Q → LanesView) (store : S → StoreMeaning) (limits : Limits) (medias : List (List ℕ × ℕ))
    (devices : List D) (ds : List (DriveIs D)) (qs : List Q) (ss : List (Vec S Z)) → AreNewDrives meaning limits medias devices ds
    → length devices ≡ length medias → length qs ≡ length medias → length ss ≡ length medias
    → map (λ (b : BayView D). is_some b.drive) (new_bays queue store ds qs ss) ≡ replicate (length medias) true
new_online meaning queue store limits [] [] [] qs ss made many many_q many_s = refl
new_online meaning queue store limits (m ∷ ms) [] [] qs ss made many many_q many_s = absurd (omega (arith, many))
new_online meaning queue store limits medias [] (d ∷ ds) qs ss made many many_q many_s = absurd made
new_online meaning queue store limits medias (x ∷ xs) [] qs ss made many many_q many_s = absurd made
new_online meaning queue store limits [] (x ∷ xs) (d ∷ ds) qs ss made many many_q many_s = absurd made
new_online meaning queue store limits (m ∷ ms) (x ∷ xs) (d ∷ ds) [] ss made many many_q many_s = absurd (omega (arith, many_q))
new_online meaning queue store limits (m ∷ ms) (x ∷ xs) (d ∷ ds) (q ∷ qs) [] made many many_q many_s = absurd (omega (arith, many_s))
new_online meaning queue store limits (m ∷ ms) (x ∷ xs) (d ∷ ds) (q ∷ qs) (s ∷ ss) made many many_q many_s =
    ap (λ l. true ∷ l) (new_online meaning queue store limits ms xs ds qs ss made.1 (omega (arith, many)) (omega (arith, many_q)) (omega (arith, many_s)))

-- A new run.

forbids : (b : Bool) (result : Option Refusal) → result ≡ cond b (Some NoSuchDrive) (Some DriveOffline) → ((why : Refusal) → result ≡ Some why → ⊥) → ⊥
forbids true result is none = none NoSuchDrive is
forbids false result is none = none DriveOffline is

-- if nothing forbids a new world, no drive was retired
pub unfit_none : (count : ℕ) (retired : Bool) (tail : Option Tail) (result : Option Refusal) → result ≡ unfit count retired tail
    → ((why : Refusal) → result ≡ Some why → ⊥) → retired ≡ false
unfit_none count false tail result is none = refl
unfit_none count true None result is none = absurd (none DriveOffline is)
unfit_none count true (Some tail) result is none = absurd (forbids (nat_lt count tail.drive) result is none)

-- A new world's devices.

-- each drive of a new world is in its bay
pub new_drives : {D Q S Z : Type 0} (queue : Q → LanesView) (store : S → StoreMeaning) (ds : List (DriveIs D)) (qs : List Q) (ss : List (Vec S Z)) → length qs ≡ length ds → length ss ≡ length ds
    → map (λ (b : BayView D). b.drive) (new_bays queue store ds qs ss) ≡ map Some ds
new_drives queue store [] qs ss many_q many_s = refl
new_drives queue store (d ∷ ds) [] ss many_q many_s = absurd (omega (arith, many_q))
new_drives queue store (d ∷ ds) (q ∷ qs) [] many_q many_s = absurd (omega (arith, many_s))
new_drives queue store (d ∷ ds) (q ∷ qs) (s ∷ ss) many_q many_s = ap (λ l. Some d ∷ l) (new_drives queue store ds qs ss (omega (arith, many_q)) (omega (arith, many_s)))

-- there is a drive for each device
pub drives_long : {D : Type 0} (meaning : D → Meaning) (limits : Limits) (medias : List (List ℕ × ℕ)) (devices : List D) (ds : List (DriveIs D)) → AreNewDrives meaning limits medias devices ds → length ds ≡ length devices
drives_long meaning limits medias [] [] made = refl
drives_long meaning limits medias [] (d ∷ ds) made = absurd made
drives_long meaning limits medias (x ∷ xs) [] made = absurd made
drives_long meaning limits [] (x ∷ xs) (d ∷ ds) made = absurd made
drives_long meaning limits (m ∷ ms) (x ∷ xs) (d ∷ ds) made = ap suc (drives_long meaning limits ms xs ds made.1)

-- as many devices are handed on
pub hands_on_long : {D : Type 0} (meaning : D → Meaning) (room : ℕ → ℕ) (tail : Option Tail) (refused : Option Refusal) (old new : List D) → HandsOn meaning room tail refused old new → length new ≡ length old
hands_on_long meaning room None refused old new handed = ap length handed.0
hands_on_long meaning room (Some tail) refused old new handed = handed.length_is

-- they are the devices of that world, and the settings those
pub handed_as : {D : Type 0} (meaning : D → Meaning) (v w : ValuesView) (tail : Option Tail) (refused : Option Refusal) (old mid new : List D) → v ≡ w → mid ≡ old
    → HandsOn meaning (capacity_for v) tail refused mid new → HandsOn meaning (capacity_for w) tail refused old new
handed_as {D} meaning v w tail refused old mid new values devices handed =
    subst (λ (ds : List D). HandsOn meaning (capacity_for w) tail refused ds new) devices
    (subst (λ (x : ValuesView). HandsOn meaning (capacity_for x) tail refused mid new) values handed)

-- if nothing forbids a new world, the drive of the tail is there
pub tail_there : (count : ℕ) (retired : Bool) (tail : Option Tail) → unfit count retired tail ≡ None → IsThere count tail
tail_there count retired None none = tt
tail_there count retired (Some tail) none = elim (cases_lt count tail.drive) [
  | inl past ↦ absurd (let e : nat_lt count tail.drive ≡ true = lt-ltb count tail.drive past in let other = rw e at none in cc)
  | inr there ↦ there
]

-- nothing forbids a new run
pub restarts_anew : {D : Type 0} (meaning : D → Meaning) (old : StageView D) (restart : Restart) (new : StageView D) (refused : Option Refusal) → unfit (drive_count old.values) old.retired restart.tail ≡ None
    → StartsAnew meaning restart.tail refused old restart.time new → RestartsAs meaning old restart new refused
restarts_anew meaning old restart new refused none anew = subst (λ o. RestartsBy meaning o restart.tail old restart.time new refused) (sym none) (inr anew)
