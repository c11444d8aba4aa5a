-- An event of a drive, in the world around it.
use Rattle.std.proofs.Common.{◌≡◌, ◌≢◌, ℕ, ℤ, ◌≤◌, ◌&&◌, Option, Some, List, [], ◌∷◌, ◌++◌, map, slice_set, refl, sym, ap, ◌∙◌, subst, arith, inl, inr}
use Rattle.std.specs.List.{AllByRecursion}
use Rattle.sd_base.specs.Limits.{most_volume}
use Rattle.sd_base.specs.declared.refusal.Refusal.{Refusal}
use Rattle.sd_base.specs.declared.refusal.Refusal.TheVariants.{DeviceFault}
use Rattle.sd_desk.specs.Desk.{DeskView}
use Rattle.sd_driver.specs.Meaning.{Meaning}
use Rattle.sd_drive.specs.View.{DriveIs, items, item_of_piece}
use Rattle.sd_drive.specs.declared.limits.Limits.{Limits}
use Rattle.sd_journal.specs.Journal.{Item}
use Rattle.sd_lane.specs.Queue.{LanesView}
use Rattle.sd_lane.specs.declared.piece.Queued.{Queued}
use Rattle.sd_machine.specs.declared.event.Event.{Event}
use Rattle.sd_machine.specs.declared.event.Event.TheVariants.{Take, Place, Sync, Label, Adopt, Mount, Unmount, Seek}
use Rattle.sd_machine.specs.declared.reply.Reply.{Reply}
use Rattle.sd_machine.specs.declared.reply.Reply.TheVariants.{Refused}
use Rattle.sd_world.specs.World.{WorldView, WorldSession, BayView, IsOnline}
use Rattle.sd_world.specs.Drives.{DriveMissing, IsOfDrive, FailExactly, FailBy, MovesDrive}
use Rattle.sd_world.specs.Moves.{Moves}
use Rattle.sd_world.specs.Rules.{IsWorld, IsOfOpened}
use Rattle.sd_world.specs.Stations.{Station, Outcome}
use Rattle.sd_world.proofs.StationShapes.{station_shape, who_loses}
use Rattle.sd_events.specs.AtStations.{MovesHere, IsStation}
use Rattle.sd_events.specs.Losing.{holds_lane, has_lost}
use Rattle.sd_events.proofs.LosingLemmas.{loses, sessions_stay}

-- What a world keeps where a drive is.

among : (time next : ℕ) (xs : List Item) (i : Item) (ys : List Item) → AllByRecursion (IsOfOpened time next) (xs ++ i ∷ ys) → IsOfOpened time next i
among time next [] i ys are = are.0
among time next (x ∷ xs) i ys are = among time next xs i ys are.1

pub is_station : {D : Type 0} (w : WorldView D) (drive at : ℕ) (bay : BayView D) (d : DriveIs D) → IsWorld w → IsOnline w drive at bay d
    → IsStation drive d bay.queue.held w.desk
is_station w drive at bay d world on =
    let b = world.bays at bay on.there in
    record {
      volume_most = subst (λ (l : Limits). l.volume ≤ most_volume) (sym (b.limits_are d on.online)) world.limits.volume_most;
      claimed = λ place v there. b.claimed d on.online place v there ∙ ap Some (sym on.number);
      first = λ lane piece rest held.
          let opened = among w.limits.time w.next (items d.journal d.hand) (item_of_piece piece) (map (λ (q : Queued). item_of_piece q.piece) rest)
          (subst (λ (qs : List Queued). AllByRecursion (IsOfOpened w.limits.time w.next) (items d.journal d.hand ++ map (λ (q : Queued). item_of_piece q.piece) qs)) held
          (b.of_opened d on.online)) in
          let below = opened.id_most in
          let most = world.next_most in
          (opened.id_least, omega (arith, below, most));
    }

-- Every event of a drive.

-- what happens at the drive of an event is what the event does
pub is_of_drive : {D : Type 0} (meaning : D → Meaning) (w w' : WorldView D) (event : Event) (drive : ℕ) (reply : Reply) → IsOfDrive event drive
    → MovesDrive meaning w drive event reply w' → Moves meaning w event reply w'
is_of_drive meaning w w' (Take own) drive reply is m = subst (λ n. MovesDrive meaning w n (Take own) reply w') (sym is) m
is_of_drive meaning w w' (Place own) drive reply is m = subst (λ n. MovesDrive meaning w n (Place own) reply w') (sym is) m
is_of_drive meaning w w' (Sync own) drive reply is m = subst (λ n. MovesDrive meaning w n (Sync own) reply w') (sym is) m
is_of_drive meaning w w' (Label own name pool media moment) drive reply is m =
    subst (λ n. MovesDrive meaning w n (Label own name pool media moment) reply w') (sym is) m
is_of_drive meaning w w' (Adopt own name) drive reply is m = subst (λ n. MovesDrive meaning w n (Adopt own name) reply w') (sym is) m
is_of_drive meaning w w' (Mount own name) drive reply is m = subst (λ n. MovesDrive meaning w n (Mount own name) reply w') (sym is) m
is_of_drive meaning w w' (Unmount own) drive reply is m = subst (λ n. MovesDrive meaning w n (Unmount own) reply w') (sym is) m
is_of_drive meaning w w' (Seek own) drive reply is m = subst (λ n. MovesDrive meaning w n (Seek own) reply w') (sym is) m
is_of_drive meaning w w' event drive reply is m = absurd is

-- an event that is the drive's own, by its number
pub of_drive : {D : Type 0} (meaning : D → Meaning) (drive number : ℕ) (named : ℕ → Event) (event : Event) (d after : DriveIs D) (queue queue' : LanesView)
    (desk desk' : DeskView) (reply : Reply) → event ≡ named number → number ≡ drive
    → MovesHere meaning drive (named drive) d queue desk reply after queue' desk' → MovesHere meaning drive event d queue desk reply after queue' desk'
of_drive meaning drive number named event d after queue queue' desk desk' reply is own here =
    subst (λ e. MovesHere meaning drive e d queue desk reply after queue' desk') (sym is)
    (subst (λ n. MovesHere meaning drive (named n) d queue desk reply after queue' desk') (sym own) here)

-- the moment of a label, written otherwise
pub at_moment : {D : Type 0} (meaning : D → Meaning) (drive : ℕ) (name pool media : List ℕ) (z z' : ℤ) (d after : DriveIs D) (queue queue' : LanesView)
    (desk desk' : DeskView) (reply : Reply) → z ≡ z' → MovesHere meaning drive (Label drive name pool media z) d queue desk reply after queue' desk'
    → MovesHere meaning drive (Label drive name pool media z') d queue desk reply after queue' desk'
at_moment meaning drive name pool media z z' d after queue queue' desk desk' reply same here =
    subst (λ (x : ℤ). MovesHere meaning drive (Label drive name pool media x) d queue desk reply after queue' desk') same here

-- there is no other event of a drive
pub no_other : (event : Event) (drive : ℕ) → IsOfDrive event drive → ((n : ℕ) → event ≡ Take n → ⊥) → ((n : ℕ) → event ≡ Place n → ⊥) → ((n : ℕ) → event ≡ Sync n → ⊥)
    → ((n : ℕ) (name pool media : List ℕ) (moment : ℤ) → event ≡ Label n name pool media moment → ⊥) → ((n : ℕ) (name : List ℕ) → event ≡ Adopt n name → ⊥)
    → ((n : ℕ) (name : List ℕ) → event ≡ Mount n name → ⊥) → ((n : ℕ) → event ≡ Unmount n → ⊥) → ((n : ℕ) → event ≡ Seek n → ⊥) → ⊥
no_other (Take n) drive own take place sync label adopt mount unmount seek = take n refl
no_other (Place n) drive own take place sync label adopt mount unmount seek = place n refl
no_other (Sync n) drive own take place sync label adopt mount unmount seek = sync n refl
no_other (Label n name pool media moment) drive own take place sync label adopt mount unmount seek = label n name pool media moment refl
no_other (Adopt n name) drive own take place sync label adopt mount unmount seek = adopt n name refl
no_other (Mount n name) drive own take place sync label adopt mount unmount seek = mount n name refl
no_other (Unmount n) drive own take place sync label adopt mount unmount seek = unmount n refl
no_other (Seek n) drive own take place sync label adopt mount unmount seek = seek n refl
no_other event drive own take place sync label adopt mount unmount seek = own

module _ {D : Type 0} (meaning : D → Meaning) (w : WorldView D) (drive at : ℕ) (bay : BayView D) (d after : DriveIs D) (event : Event) (reply : Reply)
    (queue : LanesView) (desk : DeskView) (sessions : List WorldSession) (world : IsWorld w) (on : IsOnline w drive at bay d) (own : IsOfDrive event drive)
    (here : MovesHere meaning drive event d bay.queue w.desk reply after queue desk) where
  -- the world once the event is over
  abbrev becomes : WorldView D
  becomes = record w { sessions = sessions; bays = slice_set w.bays at (record bay { drive = Some after; queue = queue }); desk = desk }

  abbrev station : Station D
  station = record { drive = d; queue = bay.queue; desk = w.desk }

  abbrev outcome : Outcome D
  outcome = record { drive = after; queue = queue; desk = desk; lost = here.0 }

  moved : FailBy drive d.journal here.0 w.sessions sessions → Moves meaning w event reply becomes
  moved fail = is_of_drive meaning w becomes event drive reply own (inr (record {
    at = at;
    bay = bay;
    d = d;
    online = on;
    outcome = outcome;
    moves = here.1;
    sessions = sessions;
    fail = fail;
    new_is = refl;
  }))

  -- the sessions that lost a block have failed
  failed : FailExactly (λ e. holds_lane bay.lanes e && has_lost after.journal e) w.sessions sessions → FailBy drive d.journal here.0 w.sessions sessions
  failed exactly = elim (who_loses (station_shape meaning drive event reply station outcome own here.1)) [
    | inl none ↦ subst (λ (l : Option (List ℕ)). FailBy drive d.journal l w.sessions sessions) (sym none.lost)
        (sessions_stay w drive at bay d after.journal sessions world on none.fails exactly)
    | inr l ↦ subst (λ (l : Option (List ℕ)). FailBy drive d.journal l w.sessions sessions) (sym (ap (λ (o : Outcome D). o.lost) l.1.is))
        (loses w drive at bay d after sessions world on l.1.fails exactly)
  ]

  -- no reply says that the device failed, and no session did
  calm : (reply ≢ Refused DeviceFault) → sessions ≡ w.sessions → FailBy drive d.journal here.0 w.sessions sessions
  calm well same = elim (who_loses (station_shape meaning drive event reply station outcome own here.1)) [
    | inl none ↦ subst (λ (l : Option (List ℕ)). FailBy drive d.journal l w.sessions sessions) (sym none.lost) same
    | inr l ↦ absurd (well l.0)
  ]

  pub moves_failing : FailExactly (λ e. holds_lane bay.lanes e && has_lost after.journal e) w.sessions sessions → Moves meaning w event reply becomes
  moves_failing exactly = moved (failed exactly)

  pub moves_calmly : (reply ≢ Refused DeviceFault) → sessions ≡ w.sessions → Moves meaning w event reply becomes
  moves_calmly well same = moved (calm well same)

-- the drive isn't there
pub missing : {D : Type 0} (meaning : D → Meaning) (w w' : WorldView D) (event : Event) (drive : ℕ) (why : Refusal) → IsOfDrive event drive
    → DriveMissing w drive why → w' ≡ w → Moves meaning w event (Refused why) w'
missing meaning w w' event drive why own none same = is_of_drive meaning w w' event drive (Refused why) own (inl (why, refl, none, same))
