-- A volume of a drive is emptied, and the sessions that had a block on it are purged.
use Rattle.std.proofs.Common.{◌≡◌, ◌≢◌, ◌⊎◌, ℕ, ◌<◌, ◌==◌, ◌&&◌, Bool, true, false, true≢false, refl, sym, ap, subst, ◌∙◌, ap₂, arith, inl, inr, Option, Some, None, All, List, [], ◌∷◌, ◌++◌, length, take, drop, map, get_or, slice_get, slice_set, Err, cond}
use Rattle.std.specs.Prelude.{IsErrOf, if◌then◌else◌}
use Rattle.std.specs.List.{list_any}
use Rattle.std.specs.Str.{bytes_eq}
use Rattle.std.proofs.lemmas.Bool.{eqb-true}
use Rattle.std.proofs.lemmas.List.{length-take, length-map, get_or_at, drop_more}
use Rattle.std.proofs.lemmas.Option.{slice_get-get_or}
use Rattle.std.specs.Option.{option_or}
use Rattle.sd_base.specs.declared.refusal.Refusal.{Refusal}
use Rattle.sd_base.specs.declared.refusal.Refusal.TheVariants.{InUse, DeviceFault, VolumeNotOnShelf, Memory}
use Rattle.sd_desk.specs.Desk.{DeskView}
use Rattle.sd_driver.specs.Meaning.{Meaning, IsHonest}
use Rattle.sd_driver.specs.Shelf.{SameShelf, StillLasts}
use Rattle.sd_drive.specs.Moves.{PurgesAt, KeepsPurging, AddsNone, index_of}
use Rattle.sd_drive.specs.Shelf.{KeepsPieces}
use Rattle.sd_drive.specs.View.{DriveIs}
use Rattle.sd_journal.specs.Journal.{Entry, purged, has_on}
use Rattle.sd_journal.proofs.EntryLemmas.{purged_placements}
use Rattle.sd_span.specs.Spans.{placements_of}
use Rattle.sd_span.specs.declared.placement.Placement.{Placement}
use Rattle.sd_machine.specs.declared.event.Event.TheVariants.{Purge}
use Rattle.sd_machine.specs.declared.reply.Reply.{Reply}
use Rattle.sd_machine.specs.declared.reply.Reply.TheVariants.{Refused}
use Rattle.sd_session.specs.declared.status.Status.TheVariants as session
use Rattle.sd_volume.specs.Device.{Counted}
use Rattle.sd_volume.specs.declared.volume.VolumeStatus.{VolumeStatus}
use Rattle.sd_world.specs.Drives.{PurgesNamed, PurgesNone, PurgesVolume, is_on, purge_due_in, purged_sessions}
use Rattle.sd_world.specs.Moves.{Moves}
use Rattle.sd_world.specs.Operators.{NotesPurge}
use Rattle.sd_world.specs.Rules.{IsWorld}
use Rattle.sd_world.specs.World.{WorldView, WorldSession, BayView, IsOnline, with_drive}
use Rattle.sd_world.proofs.LaneSteps.{running_keeps}
use Rattle.sd_world.proofs.Lookups.{found_by_number}
use Rattle.sd_world.proofs.PurgeSteps.{on_done}
use Rattle.sd_volume.proofs.DeviceLemmas.{Counted-as}
use Rattle.sd_events.specs.Purging.{Empties, NoneGoesOn, is_emptied}

-- The drive.

module _ {D T : Type 0} (meaning : D → Meaning) (name : List ℕ) (at : ℕ) (why : Refusal) (d after : DriveIs D)
    (on_shelf : IsHonest (meaning d.device) → why ≢ VolumeNotOnShelf)
    (placed : index_of d.volumes name ≡ Some at)
    (p : PurgesAt {D = D} {T = T} name at (Err why) (meaning d.device) (meaning after.device) d after)
    (counted : Counted (IsErrOf {T = T} {E = Refusal} (Err why) DeviceFault) ⊥ (meaning d.device) (meaning after.device))
    (keeps : KeepsPurging {T = T} (Err why) name (meaning d.device) (meaning after.device) d.journal d.hand)
    (last : why ≢ DeviceFault → StillLasts (meaning d.device).shelf (meaning after.device).shelf)
    (same : IsHonest (meaning d.device) → why ≢ DeviceFault → SameShelf (meaning d.device).shelf (meaning after.device).shelf) where
  abbrev keeps_by : Refusal → Type 0
  keeps_by r = KeepsPurging {T = T} (Err r) name (meaning d.device) (meaning after.device) d.journal d.hand

  -- if it isn't the device that failed, the drive stays as it was
  stays : (why ≡ VolumeNotOnShelf) ⊎ (why ≡ Memory) → AddsNone d after → PurgesNone meaning why d after
  stays cause adds = record {
    why_is = cause;
    on_shelf = on_shelf;
    adds_none = adds;
    calls = record {
      counted = Counted-as _ _ _ _ _ _ (λ x. other (cc x)) (λ x. absurd x) (λ x. x) (λ x. x) counted;
      keeps = subst (λ (x : DriveIs D). KeepsPieces (meaning d.device) (meaning after.device) d.journal x.journal d.hand x.hand) (sym adds) kept;
      later = last other;
    };
    same = λ honest. same honest other;
  }
    where
      other : why ≢ DeviceFault
      other is = elim cause [
        | inl c ↦ cc (c, is)
        | inr c ↦ cc (c, is)
      ]

      kept : KeepsPieces (meaning d.device) (meaning after.device) d.journal d.journal d.hand d.hand
      kept = elim cause [
        | inl c ↦ subst keeps_by c keeps
        | inr c ↦ subst keeps_by c keeps
      ]

  -- what comes of it if the drive refuses it
  pub refuses : Empties meaning name (Refused why) d after
  refuses = elim p.purges [
    | inl q ↦ inr (inl (
      ap Refused q.0,
      record {
        place = at;
        volume = p.volume;
        place_is = placed;
        there = p.there;
        name_is = p.name_is;
        empties = q.1;
        counted = Counted-as _ _ _ _ _ _ (λ x. tt) (λ x. ap Err q.0) (λ x. x) (λ x. x) counted;
        keeps = subst keeps_by q.0 keeps;
        below = p.below;
        cuts = λ never. absurd (never tt);
      },
    ))
    | inr q ↦ inr (inr (why, refl, stays q.0 q.1))
  ]

-- The sessions.

-- the one that is looked at is as it was
pub read_still : {X : Type 0} (f : X → X) (xs ys : List X) (i : ℕ) (x : X) → i < length xs → ys ≡ map f (take i xs) ++ drop i xs → x ≡ get_or ys i x
    → x ≡ get_or xs i x
read_still f xs ys i x below becomes is =
    let front = map f (take i xs) in
    let long : length front ≡ i = length-map (take i xs) f ∙ omega (arith, length-take i xs) in
    is ∙ ap (λ l. get_or l i x) (becomes ∙ ap (λ l. front ++ l) (drop_more xs i x below)) ∙ get_or_at front _ _ x i long

-- none of those that are purged goes on
pub none_goes_on : {D : Type 0} (w : WorldView D) (drive : ℕ) (d : DriveIs D) (name : List ℕ) → IsWorld w
    → purge_due_in w.sessions drive d name ≡ None → All (NoneGoesOn drive name d.journal) w.sessions
none_goes_on {D} w drive d name world due = λ i other below is running. (
    let e = get_or w.sessions i other in
    let there : slice_get w.sessions i ≡ Some e = slice_get-get_or w.sessions i other below in
    let found = found_by_number w.limits.time 1 w.next w.sessions i e world.numbers there in
    let parts = both (e.drive == drive) (has_on e.session.key name d.journal) is in
    let done = on_done w.sessions drive d name e.session.key.id e due found (eqb-true e.drive drive parts.0) parts.1 in
    true≢false (sym done ∙ running_keeps e.session.status _ running)
    )
  where
    both : (a b : Bool) → (a && b) ≡ true → (a ≡ true) × (b ≡ true)
    both true b is = (refl, is)
    both false b is = absurd (true≢false (sym is))

-- the refusal that is due, as it was read
pub due_there : {D : Type 0} (w : WorldView D) (drive at : ℕ) (bay : BayView D) (d : DriveIs D) (name : List ℕ) (sessions : List WorldSession) (due : Option Refusal)
    → IsOnline w drive at bay d → sessions ≡ w.sessions → purge_due_in sessions drive d name ≡ due
    → purge_due_in w.sessions drive d name ≡ due
due_there w drive at bay d name sessions due on had is =
    ap (λ (es : List WorldSession). purge_due_in es drive d name) (sym had) ∙ is

-- the drive's own is due before any
pub own_due : (o : Option Refusal) (kept : Bool) → option_or o (cond kept (Some InUse) None) ≡ None → o ≡ None
own_due None kept is = refl
own_due (Some why) kept is = absurd (cc is)

-- a drive that was purged noted the same placements
on_still : (drive : ℕ) (name volume : List ℕ) (journal : List Entry) (e : WorldSession) → is_on drive name (purged volume journal) e ≡ is_on drive name journal e
on_still drive name volume journal e =
    ap (λ (ps : List Placement). (e.drive == drive) && list_any (λ p. bytes_eq p.volume name) (placements_of e.session.key ps)) (purged_placements volume journal)

-- The world.

module _ {D : Type 0} (meaning : D → Meaning) (w : WorldView D) (drive at : ℕ) (bay : BayView D) (d after : DriveIs D) (name : List ℕ) (reply : Reply)
    (on : IsOnline w drive at bay d) (due : purge_due_in w.sessions drive d name ≡ None) (empties : Empties meaning name reply d after) where
  -- who is on the volume, by the journal as it is now
  same_on : is_emptied reply ≡ true → (e : WorldSession) → is_on drive name after.journal e ≡ is_on drive name d.journal e
  same_on told e = elim empties [
    | inl p ↦ named p.1.volume.name (ap (λ (x : DriveIs D). x.journal) p.1.empties)
    | inr (inl p) ↦ named p.1.volume.name (ap (λ (x : DriveIs D). x.journal) p.1.empties)
    | inr (inr p) ↦ ap (λ (x : DriveIs D). is_on drive name x.journal e) p.2.adds_none
  ]
    where
      named : (volume : List ℕ) → after.journal ≡ purged volume d.journal → is_on drive name after.journal e ≡ is_on drive name d.journal e
      named volume is = ap (λ journal. is_on drive name journal e) is ∙ on_still drive name volume d.journal e

  pub none_goes_on_there : IsWorld w → is_emptied reply ≡ true → All (NoneGoesOn drive name after.journal) w.sessions
  none_goes_on_there world told = λ i other below is. none_goes_on w drive d name world due i other below (sym (same_on told (get_or w.sessions i other)) ∙ is)

  same_sessions : is_emptied reply ≡ true → (es : List WorldSession) → purged_sessions drive name after.journal es ≡ purged_sessions drive name d.journal es
  same_sessions told [] = refl
  same_sessions told (e ∷ es) = ap₂ (λ (x : WorldSession) xs. x ∷ xs)
      (ap (λ b. if b then record e { session = record e.session { status = session.Purged } } else e) (same_on told e)) (same_sessions told es)

  -- the volume has no block any more
  pub purges : (sessions : List WorldSession) (desk : DeskView) (w' : WorldView D) → is_emptied reply ≡ true → NotesPurge name w.desk desk
      → sessions ≡ purged_sessions drive name after.journal w.sessions
      → w' ≡ record w { sessions = sessions; bays = slice_set w.bays at (record bay { drive = Some after }); desk = desk }
      → Moves meaning w (Purge drive name) reply w'
  purges sessions desk w' told notes are is = elim empties [
    | inl p ↦ subst (λ r. Moves meaning w (Purge drive name) r w') (sym p.0) (becomes p.1)
    | inr (inl p) ↦ subst (λ r. Moves meaning w (Purge drive name) r w') (sym p.0) (inr (inr (inr (refl, becomes p.1))))
    | inr (inr p) ↦ absurd (elim p.2.why_is [
      | inl c ↦ true≢false (sym told ∙ ap is_emptied p.1 ∙ ap (λ r. is_emptied (Refused r)) c)
      | inr c ↦ true≢false (sym told ∙ ap is_emptied p.1 ∙ ap (λ r. is_emptied (Refused r)) c)
    ])
  ]
    where
      becomes : {fault : Type 0} {now : VolumeStatus} → PurgesNamed meaning fault now name d after → PurgesVolume meaning fault now w drive name w'
      becomes m = record {
        at = at;
        bay = bay;
        d = d;
        online = on;
        due = due;
        after = after;
        purges = m;
        desk = desk;
        notes = notes;
        new_is = is ∙ ap (λ es. record w { sessions = es; bays = slice_set w.bays at (record bay { drive = Some after }); desk = desk }) (are ∙ same_sessions told w.sessions);
      }

  -- it has what it had
  pub leaves : (w' : WorldView D) → is_emptied reply ≡ false → w' ≡ with_drive at bay after w → Moves meaning w (Purge drive name) reply w'
  leaves w' told is = elim empties [
    | inl p ↦ absurd (true≢false (sym (ap is_emptied p.0) ∙ told))
    | inr (inl p) ↦ absurd (true≢false (sym (ap is_emptied p.0) ∙ told))
    | inr (inr p) ↦ subst (λ r. Moves meaning w (Purge drive name) r w') (sym p.1)
        (inr (inr (inl (record { at = at; bay = bay; d = d; online = on; due = due; after = after; none = p.2; new_is = is }))))
  ]
