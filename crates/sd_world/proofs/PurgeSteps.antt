-- A volume of a drive is purged: what becomes of the drive, of each session, and that the world keeps its rules.
use Rattle.std.proofs.Common.{◌≡◌, ◌≢◌, ◌⊎◌, ℕ, ◌+◌, ◌≤◌, ◌==◌, cond, refl, sym, ap, subst, ◌∙◌, arith, inl, inr, true, false, true≢false, Bool, not, Option, Some, None, is_some, List, [], ◌∷◌, slice_get, slice_set}
use Rattle.std.specs.Prelude.{◌||◌, ◌&&◌}
use Rattle.std.specs.List.{list_any}
use Rattle.std.proofs.lemmas.Bool.{eqb-true, eq-eqb, and_parts}
use Rattle.sd_base.specs.declared.number.SessionKey.{SessionKey}
use Rattle.sd_base.specs.declared.refusal.Refusal.{Refusal}
use Rattle.sd_base.specs.declared.refusal.Refusal.TheVariants.{InUse, VolumeNotOnShelf, VolumeNotFull}
use Rattle.sd_desk.specs.Desk.{DeskView}
use Rattle.sd_driver.specs.Meaning.{Meaning}
use Rattle.sd_driver.specs.Shelf.{StillLastsBelow}
use Rattle.sd_drive.specs.Moves.{EmptiesVolume, is_full, index_of, purge_due, purge_due_at}
use Rattle.sd_drive.specs.Shelf.{KeepsPieces}
use Rattle.sd_drive.specs.View.{DriveIs}
use Rattle.sd_journal.specs.Journal.{Entry, purged, has_on, placed_of}
use Rattle.sd_session.specs.declared.status.Status.TheVariants.{Purged}
use Rattle.sd_volume.specs.Volume.{VolumeView}
use Rattle.sd_volume.specs.declared.volume.VolumeStatus.{VolumeStatus}
use Rattle.std.specs.Option.{option_and_then, option_map_or, option_or}
use Rattle.sd_world.specs.World.{WorldView, WorldSession, BayView, LaneView, IsOnline, session_at, is_done}
use Rattle.sd_world.specs.Drives.{PurgesVolume, keeps_volume, is_kept, purge_due_in, is_on, purged_if_on, purged_sessions}
use Rattle.sd_world.specs.Operators.{NotesPurge}
use Rattle.sd_world.specs.Rules.{NumbersRise, IsWorld}
use Rattle.sd_world.proofs.DriveMoves.{noted_claims}
use Rattle.sd_world.proofs.DriveSteps.{DrivePurges, empties}
use Rattle.sd_world.proofs.LaneSteps.{Lodges, lodges_same, lanes_lodge, all_placed}
use Rattle.sd_world.proofs.Pairs.{PairOf, PairAt, pair_before}
use Rattle.sd_world.proofs.Seats.{Sits, WorldStays, sits_drive, seated_with, bay_drive}
use Rattle.sd_world.proofs.Views.{purged_not_running}
use Rattle.sd_world.proofs.Worlds.{claimed_on, world_with}

-- A volume of a drive is emptied, and exactly the sessions are purged that have a block on it; whether its device failed or not.
pub record PurgesIn {D : Type 0} (meaning : D → Meaning) (old : WorldView D) (drive : ℕ) (name : List ℕ) (new : WorldView D) : Type 0 where
  pub at : ℕ
  pub bay : BayView D
  pub d : DriveIs D
  pub after : DriveIs D
  pub desk : DeskView
  pub online : IsOnline old drive at bay d
  pub due : purge_due_in old.sessions drive d name ≡ None
  pub place : ℕ
  pub volume : VolumeView
  pub status : VolumeStatus
  pub there : slice_get d.volumes place ≡ Some volume
  pub name_is : volume.name ≡ name
  pub empties : EmptiesVolume place volume status d after
  pub honest : (meaning after.device).honest ≡ (meaning d.device).honest
  pub moment : (meaning d.device).shelf.moment ≤ (meaning after.device).shelf.moment
  pub keeps : KeepsPieces (meaning d.device) (meaning after.device) (purged name d.journal) (purged name d.journal) d.hand d.hand
  pub below : StillLastsBelow volume.first name (meaning d.device).shelf (meaning after.device).shelf
  pub notes : NotesPurge name old.desk desk
  pub new_is : new ≡ record old {
    sessions = purged_sessions drive name d.journal old.sessions;
    bays = slice_set old.bays at (record bay { drive = Some after });
    desk = desk;
  }

pub purges_in : {D : Type 0} {meaning : D
    → Meaning} {fault : Type 0} {status : VolumeStatus} {w w' : WorldView D} {drive : ℕ} {name : List ℕ}
    → PurgesVolume meaning fault status w drive name w' → PurgesIn meaning w drive name w'
purges_in {D} {meaning} {fault} {status} m = record {
  at = m.at;
  bay = m.bay;
  d = m.d;
  after = m.after;
  desk = m.desk;
  online = m.online;
  due = m.due;
  place = m.purges.place;
  volume = m.purges.volume;
  status = status;
  there = m.purges.there;
  name_is = m.purges.name_is;
  empties = m.purges.empties;
  honest = m.purges.counted.honest;
  moment = m.purges.counted.moment;
  keeps = m.purges.keeps;
  below = m.purges.below;
  notes = m.notes;
  new_is = m.new_is;
}

-- what becomes of the drive
pub drive_purges : {D : Type 0} {meaning : D → Meaning} {w w' : WorldView D} {drive : ℕ} {name : List ℕ}
    → (m : PurgesIn meaning w drive name w') → DrivePurges name m.d m.after
drive_purges m = subst (λ n. DrivePurges n m.d m.after) m.name_is (empties m.place m.volume m.status m.d m.after m.there m.empties)

-- Refusals.

-- a purge is refused so before the device is asked
abbrev pub RefusesPurge : Refusal → Type 0
RefusesPurge why = (why ≡ VolumeNotOnShelf) ⊎ (why ≡ VolumeNotFull) ⊎ (why ≡ InUse)

due_of : (loaded : Option ℕ) (o : Option VolumeView) (why : Refusal) → option_map_or (purge_due_at loaded) o (Some VolumeNotOnShelf) ≡ Some why → RefusesPurge why
due_of loaded None why is = inl (cc is)
due_of loaded (Some v) why is = from (is_full v.status) (is_some loaded) is
  where
    from : (full used : Bool) → cond full (cond used (Some InUse) None) (Some VolumeNotFull) ≡ Some why → RefusesPurge why
    from true true is = inr (inr (cc is))
    from true false is = absurd (cc is)
    from false used is = inr (inl (cc is))

due_kept : (o : Option Refusal) (kept : Bool) (why : Refusal) → option_or o (cond kept (Some InUse) None) ≡ Some why → (o ≡ Some why) ⊎ (why ≡ InUse)
due_kept None true why is = inr (cc is)
due_kept None false why is = absurd (cc is)
due_kept (Some other) kept why is = inl is

pub refuses_purge : {D : Type 0} (sessions : List WorldSession) (drive : ℕ) (d : DriveIs D) (name : List ℕ) (why : Refusal)
    → purge_due_in sessions drive d name ≡ Some why → RefusesPurge why
refuses_purge sessions drive d name why is = elim (due_kept (purge_due d name) (is_kept drive name d.journal sessions) why is) [
  | inl own ↦ due_of d.loaded (option_and_then (slice_get d.volumes) (index_of d.volumes name)) why own
  | inr used ↦ inr (inr used)
]

-- Who keeps a lane.

none_due : (o : Option Refusal) (kept : Bool) → option_or o (cond kept (Some InUse) None) ≡ None → kept ≡ false
none_due None true is = absurd (cc is)
none_due None false is = refl
none_due (Some why) kept is = absurd (cc is)

or_none : (a b : Bool) → (a || b) ≡ false → (a ≡ false) × (b ≡ false)
or_none true b is = absurd (true≢false is)
or_none false b is = (refl, is)

none_at : (p : WorldSession → Bool) (es : List WorldSession) (ticket : ℕ) (e : WorldSession) → list_any p es ≡ false
    → session_at ticket es ≡ Some e → p e ≡ false
none_at p [] ticket e none at = absurd (cc at)
none_at p (x ∷ es) ticket e none at =
    let parts = or_none (p x) (list_any p es) none in
    from (x.session.key.id == ticket) parts.0 (λ rest. none_at p es ticket e parts.1 rest) at
  where
    from : (own : Bool) → p x ≡ false → (session_at ticket es ≡ Some e → p e ≡ false) → cond own (Some x) (session_at ticket es) ≡ Some e → p e ≡ false
    from true here later is = let same : x ≡ e = cc is in ap p (sym same) ∙ here
    from false here later is = later is

not_kept : (here on done : Bool) → ((here && on) && not done) ≡ false → here ≡ true → on ≡ true → done ≡ true
not_kept true true true none is at = refl
not_kept true true false none is at = absurd (true≢false none)
not_kept true false done none is at = absurd (true≢false (sym at))
not_kept false on done none is at = absurd (true≢false (sym is))

-- if a purge isn't refused, a session of the drive that has a block on the volume is done
pub on_done : {D : Type 0} (sessions : List WorldSession) (drive : ℕ) (d : DriveIs D) (name : List ℕ) (ticket : ℕ) (e : WorldSession)
    → purge_due_in sessions drive d name ≡ None → session_at ticket sessions ≡ Some e → e.drive ≡ drive
    → has_on e.session.key name d.journal ≡ true → is_done d.journal e.session ≡ true
on_done sessions drive d name ticket e due at here on =
    let none = none_at (keeps_volume drive name d.journal) sessions ticket e
    (none_due (purge_due d name) (is_kept drive name d.journal sessions) due) at in
    not_kept (e.drive == drive) (has_on e.session.key name d.journal) (is_done d.journal e.session) none (eq-eqb e.drive drive here) on

-- Sessions.

-- the session once it was purged
abbrev pub purged_session : WorldSession → WorldSession
purged_session e = record e { session = record e.session { status = Purged } }

-- the session is of the drive, has a block on the volume, and is purged; or it hasn't, and stays
abbrev pub PurgedOrStays : ℕ → List ℕ → List Entry → WorldSession → WorldSession → Type 0
PurgedOrStays drive name journal x y =
    ((x.drive ≡ drive) × (has_on x.session.key name journal ≡ true) × (y ≡ purged_session x))
    ⊎ ((x.drive ≡ drive → has_on x.session.key name journal ≡ false) × (y ≡ x))

pub purged_one : (drive : ℕ) (name : List ℕ) (journal : List Entry) (x : WorldSession)
    → PurgedOrStays drive name journal x (purged_if_on drive name journal x)
purged_one drive name journal x = from (is_on drive name journal x) refl
  where
    apart : (a b : Bool) → (a && b) ≡ false → a ≡ true → b ≡ false
    apart true b none is = none
    apart false b none is = absurd (true≢false (sym is))

    from : (b : Bool) → is_on drive name journal x ≡ b → PurgedOrStays drive name journal x (cond b (purged_session x) x)
    from true is = inl (eqb-true x.drive drive (and_parts _ _ is).0, (and_parts (x.drive == drive) _ is).1, refl)
    from false is = inr (λ here. apart (x.drive == drive) (has_on x.session.key name journal) is (eq-eqb x.drive drive here), refl)

purged_key : (drive : ℕ) (name : List ℕ) (journal : List Entry) (x y : WorldSession) → PurgedOrStays drive name journal x y
    → y.session.key ≡ x.session.key
purged_key drive name journal x y (inl p) = ap (λ (z : WorldSession). z.session.key) p.2
purged_key drive name journal x y (inr p) = ap (λ (z : WorldSession). z.session.key) p.1

pub purged_pairs : (drive : ℕ) (name : List ℕ) (journal : List Entry) (es : List WorldSession) (ticket : ℕ)
    → PairAt (PurgedOrStays drive name journal) es (purged_sessions drive name journal es) ticket
purged_pairs drive name journal [] ticket = inl (refl, refl)
purged_pairs drive name journal (x ∷ es) ticket =
    let R = PurgedOrStays drive name journal in
    let y = purged_if_on drive name journal x in
    let one = purged_one drive name journal x in
    let es' = purged_sessions drive name journal es in
    subst (λ (id : ℕ). PairOf R (cond (x.session.key.id == ticket) (Some x) (session_at ticket es)) (cond (id == ticket) (Some y) (session_at ticket es')))
    (sym (ap (λ (k : SessionKey). k.id) (purged_key drive name journal x y one)))
    (elim (x.session.key.id == ticket) as (λ b. PairOf R (cond b (Some x) (session_at ticket es)) (cond b (Some y) (session_at ticket es'))) [
      | true ↦ inr (x, y, refl, refl, one)
      | false ↦ purged_pairs drive name journal es ticket
    ])

numbers_purged : (drive : ℕ) (name : List ℕ) (journal : List Entry) (time least next : ℕ) (es : List WorldSession)
    → NumbersRise time least next es → NumbersRise time least next (purged_sessions drive name journal es)
numbers_purged drive name journal time least next [] rise = rise
numbers_purged drive name journal time least next (x ∷ es) rise =
    let same = purged_key drive name journal x (purged_if_on drive name journal x) (purged_one drive name journal x) in
    let id = ap (λ (k : SessionKey). k.id) same in (
      ap (λ (k : SessionKey). k.time) same ∙ rise.0,
      subst (λ n. least ≤ n) (sym id) rise.1,
      subst (λ n. NumbersRise time (n + 1) next (purged_sessions drive name journal es)) (sym id)
          (numbers_purged drive name journal time (x.session.key.id + 1) next es rise.2),
    )

-- it lodges where it did
pub purged_lodges : (drive : ℕ) (name : List ℕ) (journal : List Entry) (x y : WorldSession)
    → PurgedOrStays drive name journal x y → Lodges x y
purged_lodges drive name journal x y (inl p) = subst (Lodges x) (sym p.2) (refl, refl, λ some. some)
purged_lodges drive name journal x y (inr p) = lodges_same x y p.1

-- a session of which each piece is placed, is purged
sits_purged : {D : Type 0} (x : WorldSession) (bay : BayView D) (d : DriveIs D) (lane : LaneView) → bay.drive ≡ Some d
    → placed_of x.session.key d.journal ≡ x.session.sent
    → Sits x bay lane → Sits (purged_session x) bay lane
sits_purged {D} x bay d lane on placed h = record {
  sent_is = h.sent_is;
  holds = λ r. absurd (purged_not_running r);
  online = λ r. absurd (purged_not_running r);
  lost_none = λ r. absurd (purged_not_running r);
  closed = λ c. absurd (cc c);
  some_sent = λ c. absurd (cc c);
  purged = λ c z is. let one : d ≡ z = cc (sym on ∙ is) in subst (λ (y : DriveIs D). placed_of x.session.key y.journal ≡ x.session.sent) one placed;
  none_gone = λ n. absurd (n refl);
}

-- what a session sits by, at the drive
sits_here : {D : Type 0} (drive : ℕ) (name : List ℕ) (x y : WorldSession) (bay : BayView D) (d after : DriveIs D) (lane : LaneView) → bay.drive ≡ Some d → x.drive ≡ drive → DrivePurges name d after
    → (has_on x.session.key name d.journal ≡ true → placed_of x.session.key d.journal ≡ x.session.sent)
    → PurgedOrStays drive name d.journal x y → Sits x bay lane → Sits y (record bay { drive = Some after }) lane
sits_here {D} drive name x y bay d after lane on own purges placed (inl p) sits =
    subst (λ z. Sits z (record bay { drive = Some after }) lane) (sym p.2)
    (sits_drive (purged_session x) bay d after lane on purges.stays (λ r. absurd (purged_not_running r)) (λ n. absurd (n refl))
    (sits_purged x bay d lane on (placed p.1) sits))
sits_here {D} drive name x y bay d after lane on own purges placed (inr p) sits =
    subst (λ z. Sits z (record bay { drive = Some after }) lane) (sym p.1)
    (sits_drive x bay d after lane on purges.stays (λ r. purges.fails x.session.key (p.0 own)) (λ n. purges.gone x.session.key (p.0 own)) sits)

-- and elsewhere
sits_there : {D : Type 0} (drive : ℕ) (name : List ℕ) (journal : List Entry) (x y : WorldSession) (bay : BayView D) (lane : LaneView) → x.drive ≢ drive
    → PurgedOrStays drive name journal x y → Sits x bay lane → Sits y bay lane
sits_there drive name journal x y bay lane other (inl p) sits = absurd (other p.0)
sits_there drive name journal x y bay lane other (inr p) sits = subst (λ z. Sits z bay lane) (sym p.1) sits

-- The world.

pub purges_world : {D : Type 0} (meaning : D → Meaning) (w w' : WorldView D) (drive : ℕ) (name : List ℕ) → IsWorld w
    → PurgesIn meaning w drive name w' → IsWorld w'
purges_world {D} meaning w w' drive name h m =
    let d = m.d in
    let after = m.after in
    let there = m.online.there in
    let on = m.online.online in
    let R = PurgedOrStays drive name d.journal in
    let es' = purged_sessions drive name d.journal w.sessions in
    let bay' : BayView D = record m.bay { drive = Some after } in
    let v : WorldView D = record w { sessions = es'; bays = slice_set w.bays m.at bay'; desk = m.desk } in
    let purges = drive_purges m in
    let claims = noted_claims name w.desk m.desk m.notes in
    let stays : WorldStays w v = record { limits_are = refl; queue_is = refl; next_up = omega arith; claims = claims } in
    let pairs = purged_pairs drive name d.journal w.sessions in
    let lodge = purged_lodges drive name d.journal in
    let old = h.bays m.at m.bay there in
    subst IsWorld (sym m.new_is)
    (world_with w v m.at bay' h stays h.next_most (numbers_purged drive name d.journal w.limits.time 1 w.next w.sessions h.numbers) refl
    (λ ticket y found.
    let p = pair_before R (session_at ticket w.sessions) (session_at ticket es') y (pairs ticket) found in
    let x = p.0 in
    let l = lodge x y p.2 in
    seated_with w v m.at m.bay bay' x y (h.seated ticket x p.1) there refl l.0 l.1
    (λ place lane here in_lane stands sits. (
      lane,
      stands,
      sits_here drive name x y m.bay d after lane on (here ∙ sym m.online.number) purges
          (λ own. all_placed x m.bay d lane on sits (on_done w.sessions drive d name ticket x m.due p.1 (here ∙ sym m.online.number) own)) p.2 sits,
    ))
    (λ b lane elsewhere sits. sits_there drive name d.journal x y b lane (λ here. elsewhere (here ∙ m.online.number)) p.2 sits))
    (bay_drive w v m.at m.bay d after stays old on purges.stays (claimed_on w m.at m.bay d after m.desk h there on purges.names claims)
    (lanes_lodge R w.sessions es' (m.at + 1) m.bay.lanes pairs lodge old.lanes))
    (λ other b apart found. lanes_lodge R w.sessions es' (other + 1) b.lanes pairs lodge (h.bays other b found).lanes))
