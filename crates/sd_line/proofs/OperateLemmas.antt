-- What an event leaves of the drive of a line.
use Rattle.std.proofs.Common.{None, Option, ◌⊎◌, slice_get, ◌≡◌, ◌≢◌, ℕ, Some, List, [], refl, sym, ap, subst, ◌∙◌, arith, inl, inr}
use Rattle.sd_base.specs.declared.refusal.Refusal.TheVariants.{BadCommand}
use Rattle.sd_base.specs.declared.refusal.Refusal.{Refusal}
use Rattle.sd_desk.specs.Desk.{claimed_by}
use Rattle.sd_driver.specs.Meaning.{Meaning}
use Rattle.sd_driver.specs.Shelf.{StillLasts, StillLastsBelow}
use Rattle.sd_drive.specs.Moves.{index_of}
use Rattle.sd_drive.specs.View.{DriveIs}
use Rattle.sd_drive.proofs.FindLemmas.{place_none}
use Rattle.sd_drive.proofs.Places.{some_is, get_map}
use Rattle.sd_lane.specs.Queue.{LanesView}
use Rattle.sd_line.specs.Operates.{Operates, AnswersAlone, OwnLast, desk_of, operated_at}
use Rattle.sd_line.proofs.ClaimLemmas.{is_claimed}
use Rattle.sd_line.proofs.TurnLemmas.{Stays, rests}
use Rattle.sd_machine.specs.declared.event.Event.{Event}
use Rattle.sd_machine.specs.declared.event.Event.TheVariants.{Take, Place, Sync, Label, Adopt, Mount, Unmount, Seek}
use Rattle.sd_machine.specs.declared.reply.Reply.{Reply}
use Rattle.sd_machine.specs.declared.reply.Reply.TheVariants.{Refused, Synced, Labelled, Adopted, Mounted, Unmounted, Requested, NoNeed}
use Rattle.sd_volume.specs.Volume.{VolumeView}
use Rattle.sd_world.proofs.DriveSteps.{fails_to_sync}
use Rattle.sd_world.proofs.GrowLemmas.{device_goes_on}
use Rattle.sd_world.proofs.StationShapes as shape
use Rattle.sd_world.proofs.StationShapes.{DeviceStays, StationShape, station_shape, called}
use Rattle.sd_world.specs.Devices.{GoesOn}
use Rattle.sd_world.specs.DriveMoves.{DriveMoves}
use Rattle.sd_world.specs.Drives.{IsOfDrive}
use Rattle.sd_world.specs.Operators.{StaysKnowing, LabelRefused, AdoptRefused, MountFails}
use Rattle.sd_world.specs.Stations.{Station, Outcome, stays}

-- an event that is the drive's own, by its number
pub here : {D : Type 0} (meaning : D → Meaning) (own number : ℕ) (named : ℕ → Event) (event : Event) (reply : Reply) (d after : DriveIs D)
    → event ≡ named number → operated_at (named number) ≡ Some number → operated_at event ≡ Some own
    → ((n : ℕ) → AnswersAlone meaning n (named n) reply d after) → Operates meaning own event reply d after
here meaning own number named event reply d after is told at all =
    let same : number ≡ own = some_is (sym told ∙ ap operated_at (sym is) ∙ at) in
    inl (at, subst (λ e. AnswersAlone meaning own e reply d after) (sym (is ∙ ap named same)) (all own))

-- an event that isn't is a bad command
pub elsewhere : {D : Type 0} (meaning : D → Meaning) (own : ℕ) (event : Event) (reply : Reply) (d after : DriveIs D)
    → Operates meaning own event reply d after → operated_at event ≢ Some own → reply ≡ Refused BadCommand
elsewhere meaning own event reply d after (inl p) other = absurd (other p.0)
elsewhere meaning own event reply d after (inr p) other = p.1

of_drive : (own : ℕ) (event : Event) → operated_at event ≡ Some own → IsOfDrive event own
of_drive own (Sync drive) is = some_is is
of_drive own (Label drive name pool media moment) is = some_is is
of_drive own (Adopt drive name) is = some_is is
of_drive own (Mount drive name) is = some_is is
of_drive own (Unmount drive) is = some_is is
of_drive own (Seek drive) is = some_is is
of_drive own event is = absurd (cc is)

-- the drive keeps its pieces and limits, and its device stays
pub record Leaves {D : Type 0} (meaning : D → Meaning) (d after : DriveIs D) : Type 0 where
  pub stays : Stays meaning d after
  pub device : DeviceStays (meaning d.device) (meaning after.device)

unmoved : {D : Type 0} (meaning : D → Meaning) (d after : DriveIs D) → after ≡ d → Leaves meaning d after
unmoved meaning d after same = subst (Leaves meaning d) (sym same) (record {
  stays = rests meaning d;
  device = record { honest = refl; moment = omega arith; lasts = inl (λ since name bytes lasts. lasts) };
})

-- so it is whatever shape the event has, if no piece was before the drive
shaped : {D : Type 0} (meaning : D → Meaning) (own : ℕ) (event : Event) (reply : Reply) (s : Station D) (o : Outcome D) → s.queue.held ≡ []
    → StationShape meaning own event reply s o → Leaves meaning s.drive o.drive
shaped {D} meaning own event reply s o none (shape.rests is) = unmoved meaning s.drive o.drive (ap (λ (x : Outcome D). x.drive) is)
shaped meaning own event reply s o none (shape.takes ticket seq t) = absurd (let held = t.held_is in cc (none, held))
shaped meaning own event reply s o none (shape.goes g) =
    record { stays = record { limits = g.goes.stays.limits_are; gone = g.goes.gone; keeps = g.keeps }; device = g.device }
shaped meaning own event reply s o none (shape.gets g) =
    record { stays = record { limits = g.adds.stays.limits_are; gone = g.adds.gone; keeps = g.keeps }; device = g.device }
shaped {D} meaning own event reply s o none (shape.loses of_sync fault l) = record {
  stays = record {
    limits = ap (λ (x : DriveIs D). x.limits) l.fails.becomes;
    gone = (fails_to_sync s.drive o.drive l.fails).gone;
    keeps = l.calls.keeps;
  };
  device = called meaning _ _ s.drive o.drive l.calls;
}
shaped {D} meaning own event reply s o none (shape.knows claims is) = unmoved meaning s.drive o.drive (ap (λ (x : Outcome D). x.drive) is)

-- the queue before a drive that holds nothing
abbrev no_queue : LanesView
no_queue = record { lanes = 0; capacity = 0; held = [] }

pub operated : {D : Type 0} (meaning : D → Meaning) (own : ℕ) (event : Event) (reply : Reply) (d after : DriveIs D) → Operates meaning own event reply d after
    → Leaves meaning d after
operated {D} meaning own event reply d after (inl p) =
    let m = p.1 no_queue [] in
    let s : Station D = record { drive = d; queue = no_queue; desk = desk_of own d [] } in
    let o : Outcome D = record { drive = after; queue = no_queue; desk = m.0; lost = m.1 } in
    shaped meaning own event reply s o refl (station_shape meaning own event reply s o (of_drive own event p.0) m.2)
operated meaning own event reply d after (inr p) = unmoved meaning d after p.2

pub operated_goes_on : {D : Type 0} (keeps : List ℕ → Type 0) (meaning : D → Meaning) (d after : DriveIs D) → Leaves meaning d after
    → GoesOn keeps (meaning d.device) (meaning after.device)
operated_goes_on keeps meaning d after l = device_goes_on keeps _ _ l.device

-- What lasts on the drive's volumes.

-- what lasted lasts; or a volume was adopted, whose name is in no table, and what lasted elsewhere does
abbrev LastsBut : {D : Type 0} → (D → Meaning) → Station D → Outcome D → Type 0
LastsBut meaning s o = StillLasts (meaning s.drive.device).shelf (meaning o.drive.device).shelf
    ⊎ ((name : List ℕ) × (claimed_by s.desk name ≡ None) × StillLastsBelow 0 name (meaning s.drive.device).shelf (meaning o.drive.device).shelf)

same_last : {D : Type 0} (meaning : D → Meaning) (s : Station D) (o : Outcome D) → o.drive.device ≡ s.drive.device → LastsBut meaning s o
same_last {D} meaning s o same =
    inl (subst (λ (x : D). StillLasts (meaning s.drive.device).shelf (meaning x).shelf) (sym same) (λ since name bytes lasts. lasts))

stays_last : {D : Type 0} (meaning : D → Meaning) (s : Station D) (o : Outcome D) → o ≡ stays s → LastsBut meaning s o
stays_last {D} meaning s o same = same_last meaning s o (ap (λ (x : Outcome D). x.drive.device) same)

knows_last : {D : Type 0} (meaning : D → Meaning) (s : Station D) (o : Outcome D) → StaysKnowing s o → LastsBut meaning s o
knows_last {D} meaning s o m = same_last meaning s o (ap (λ (x : Outcome D). x.drive.device) m.1)

label_last : {D : Type 0} (meaning : D → Meaning) (name media : List ℕ) (why : Refusal) (s : Station D) (o : Outcome D) → LabelRefused meaning name media why s o
    → LastsBut meaning s o
label_last meaning name media why s o (inl m) = stays_last meaning s o m.2
label_last meaning name media why s o (inr (inl m)) = stays_last meaning s o m.3
label_last meaning name media why s o (inr (inr (inl m))) = stays_last meaning s o m.4
label_last meaning name media why s o (inr (inr (inr (inl m)))) = knows_last meaning s o m.4
label_last meaning name media why s o (inr (inr (inr (inr m)))) = inl m.calls.later

adopt_last : {D : Type 0} (meaning : D → Meaning) (name : List ℕ) (why : Refusal) (s : Station D) (o : Outcome D) → AdoptRefused meaning name why s o → LastsBut meaning s o
adopt_last meaning name why s o (inl m) = stays_last meaning s o m.2
adopt_last meaning name why s o (inr (inl m)) = stays_last meaning s o m.3
adopt_last meaning name why s o (inr (inr (inl m))) = knows_last meaning s o m.3
adopt_last meaning name why s o (inr (inr (inr m))) = inr (name, m.unclaimed, m.calls.others)

mount_last : {D : Type 0} (meaning : D → Meaning) (name : List ℕ) (why : Refusal) (s : Station D) (o : Outcome D) → MountFails meaning name why s o → LastsBut meaning s o
mount_last meaning name why s o (inl m) = inl m.2.calls.later
mount_last meaning name why s o (inr m) = inl m.3.1.later

moves_last : {D : Type 0} (meaning : D → Meaning) (own : ℕ) (event : Event) (reply : Reply) (s : Station D) (o : Outcome D) → operated_at event ≡ Some own
    → DriveMoves meaning own event reply s o → LastsBut meaning s o
moves_last meaning own (Sync drive) Synced s o is m = inl m.1.later
moves_last meaning own (Sync drive) (Refused why) s o is m = inl m.1.calls.later
moves_last meaning own (Label drive name pool media moment) Labelled s o is m = inl m.calls.later
moves_last meaning own (Label drive name pool media moment) (Refused why) s o is m = label_last meaning name media why s o m
moves_last meaning own (Adopt drive name) (Adopted end next) s o is m = inr (name, m.claims.unclaimed, m.calls.others)
moves_last meaning own (Adopt drive name) (Refused why) s o is m = adopt_last meaning name why s o m
moves_last meaning own (Mount drive name) (Mounted mounted) s o is m = inl m.1.calls.later
moves_last meaning own (Mount drive name) (Refused why) s o is (inl m) = stays_last meaning s o m.1
moves_last meaning own (Mount drive name) (Refused why) s o is (inr m) = mount_last meaning name why s o m
moves_last meaning own (Unmount drive) Unmounted s o is m = inl m.1.later
moves_last meaning own (Unmount drive) (Refused why) s o is m = inl m.1.calls.later
moves_last meaning own (Seek drive) (Mounted name) s o is m = inl m.1.calls.later
moves_last {D} meaning own (Seek drive) Requested s o is m = same_last meaning s o (ap (λ (x : Outcome D). x.drive.device) m.is)
moves_last meaning own (Seek drive) NoNeed s o is m = stays_last meaning s o m.1
moves_last meaning own (Seek drive) (Refused why) s o is (inl m) = knows_last meaning s o m.3
moves_last meaning own (Seek drive) (Refused why) s o is (inr m) = mount_last meaning m.0 why s o m.2
moves_last meaning own (Take drive) reply s o is m = absurd (cc is)
moves_last meaning own (Place drive) reply s o is m = absurd (cc is)
moves_last meaning own event reply s o is m = absurd m

-- a volume of the drive is claimed at its desk
has_place : {D : Type 0} (own : ℕ) (d : DriveIs D) (at : ℕ) (v : VolumeView) → slice_get d.volumes at ≡ Some v → claimed_by (desk_of own d []) v.name ≢ None
has_place own d at v there = from (index_of d.volumes v.name) refl
  where
    from : (o : Option ℕ) → index_of d.volumes v.name ≡ o → claimed_by (desk_of own d []) v.name ≢ None
    from None none = absurd (place_none d.volumes v.name none at (get_map (λ (x : VolumeView). x.name) d.volumes at v there))
    from (Some k) is = is_claimed own d [] v.name k is

pub own_last : {D : Type 0} (meaning : D → Meaning) (own : ℕ) (event : Event) (reply : Reply) (d after : DriveIs D) → Operates meaning own event reply d after
    → OwnLast d (meaning d.device).shelf (meaning after.device).shelf
own_last {D} meaning own event reply d after (inr p) =
    subst (λ (x : DriveIs D). OwnLast d (meaning d.device).shelf (meaning x.device).shelf) (sym p.2) (λ at v there since bytes lasts. lasts)
own_last {D} meaning own event reply d after (inl p) = λ at v there since bytes lasts.
    let m = p.1 no_queue [] in
    let s : Station D = record { drive = d; queue = no_queue; desk = desk_of own d [] } in
    let o : Outcome D = record { drive = after; queue = no_queue; desk = m.0; lost = m.1 } in
    elim (moves_last meaning own event reply s o p.0 m.2) [
      | inl all ↦ all since v.name bytes lasts
      | inr but ↦ but.2.others since v.name bytes (λ same. has_place own d at v there (ap (claimed_by s.desk) same ∙ but.1)) lasts
    ]
