-- An event of a drive, in the world around it.
use Rattle.std.proofs.Common.{◌≡◌, ℕ, refl, ap, subst, ◌∙◌, inl, inr, Option, Some, None, List, ◌∷◌, slice_set}
use Rattle.sd_desk.specs.Desk.{DeskView}
use Rattle.sd_driver.specs.Meaning.{Meaning}
use Rattle.sd_drive.specs.Moves.{FailsToSync}
use Rattle.sd_drive.specs.View.{DriveIs}
use Rattle.sd_lane.specs.Queue.{queued}
use Rattle.sd_lane.specs.declared.piece.Piece.{Piece}
use Rattle.sd_lane.specs.declared.piece.Queued.{Queued}
use Rattle.sd_machine.specs.declared.event.Event.{Event}
use Rattle.sd_machine.specs.declared.event.Event.TheVariants.{Take}
use Rattle.sd_machine.specs.declared.reply.Reply.{Reply}
use Rattle.sd_machine.specs.declared.reply.Reply.TheVariants.{Closed, Retired}
use Rattle.sd_world.specs.World.{WorldView, WorldSession, BayView, IsOnline, with_bay}
use Rattle.sd_world.specs.Stations.{Station, Outcome, stays, Calls, TakesPiece, LosesBlocks}
use Rattle.sd_world.specs.DriveMoves.{DriveMoves}
use Rattle.sd_world.specs.Drives.{FailExactly, FailBy, AtDrive, MovesDrive, loses_by}
use Rattle.sd_world.proofs.Bays.{drive_stays}

-- the drive in a bay is another, and the desk
abbrev pub with_desk : {D : Type 0} → ℕ → BayView D → DriveIs D → DeskView → WorldView D → WorldView D
with_desk at bay d desk w = record w { bays = slice_set w.bays at (record bay { drive = Some d }); desk = desk }

-- the first piece of a queue comes into the hand of its drive
pub record TakesIn {D : Type 0} (old : WorldView D) (drive ticket seq : ℕ) (new : WorldView D) : Type 0 where
  pub at : ℕ
  pub bay : BayView D
  pub d : DriveIs D
  pub online : IsOnline old drive at bay d
  pub hand_empty : d.hand ≡ None
  pub lane : ℕ
  pub piece : Piece
  pub rest : List Queued
  pub held_is : bay.queue.held ≡ queued lane piece ∷ rest
  pub ticket_is : ticket ≡ piece.key.id
  pub seq_is : seq ≡ piece.seq
  pub new_is : new ≡ with_bay at (record bay {
    drive = Some (record d { hand = Some piece });
    queue = record bay.queue { held = rest };
  }) old

-- a sync of a drive's loaded volume failed, and exactly the sessions fail that lose a block by it
pub record LosesIn {D : Type 0} (meaning : D → Meaning) (old : WorldView D) (drive : ℕ) (new : WorldView D) : Type 0 where
  pub at : ℕ
  pub bay : BayView D
  pub d : DriveIs D
  pub after : DriveIs D
  pub online : IsOnline old drive at bay d
  pub fails : FailsToSync d after
  pub calls : Calls meaning (Unit {0}) ⊥ d after
  pub sessions : List WorldSession
  pub fail : FailExactly (loses_by drive fails.volume.name d.journal) old.sessions sessions
  pub new_is : new ≡ record old { sessions = sessions; bays = slice_set old.bays at (record bay { drive = Some after }) }

module _ {D : Type 0} {meaning : D → Meaning} {w w' : WorldView D} {drive : ℕ} {event : Event} {reply : Reply} (a : AtDrive meaning w drive event reply w') where
  -- where the event happens
  abbrev pub station : Station D
  station = record { drive = a.d; queue = a.bay.queue; desk = w.desk }

  -- the world once that was left, and other sessions
  abbrev leaves : Outcome D → List WorldSession → WorldView D
  leaves o sessions = record w { sessions = sessions; bays = slice_set w.bays a.at (record a.bay { drive = Some o.drive; queue = o.queue }); desk = o.desk }

  -- what the world is then, if it is known what was left
  framed : (o : Outcome D) → a.outcome ≡ o → (w' ≡ leaves o a.sessions) × FailBy drive a.d.journal o.lost w.sessions a.sessions
  framed o is = subst (λ (x : Outcome D). (w' ≡ leaves x a.sessions) × FailBy drive a.d.journal x.lost w.sessions a.sessions) is (a.new_is, a.fail)

  -- if nothing was lost, no session fails
  calm : (o : Outcome D) → a.outcome ≡ o → o.lost ≡ None → w' ≡ leaves o w.sessions
  calm o is none =
      let f = framed o is in
      f.0 ∙ ap (leaves o) (subst (λ (l : Option (List ℕ)). FailBy drive a.d.journal l w.sessions a.sessions) none f.1)

  -- nor do the sessions change
  pub stays_sessions : a.outcome.lost ≡ None → w'.sessions ≡ w.sessions
  stays_sessions none = ap (λ (v : WorldView D). v.sessions) (calm a.outcome refl none)

  pub calls_knowing : a.outcome ≡ record (stays station) { drive = a.outcome.drive; desk = a.outcome.desk } → w' ≡ with_desk a.at a.bay a.outcome.drive a.outcome.desk w
  calls_knowing is = calm _ is refl

  pub calls_alone : a.outcome ≡ record (stays station) { drive = a.outcome.drive } → w' ≡ with_desk a.at a.bay a.outcome.drive w.desk w
  calls_alone is = calm _ is refl

  pub stays_knowing : a.outcome ≡ record (stays station) { desk = a.outcome.desk } → w' ≡ record w { desk = a.outcome.desk }
  stays_knowing is =
      calm _ is refl ∙ ap (λ (v : WorldView D). record v { desk = a.outcome.desk }) (drive_stays w drive a.at a.bay a.d a.d a.online refl)

  pub stays_all : a.outcome ≡ stays station → w' ≡ w
  stays_all is = calm _ is refl ∙ drive_stays w drive a.at a.bay a.d a.d a.online refl

  pub takes_in : (ticket seq : ℕ) → TakesPiece ticket seq station a.outcome → TakesIn w drive ticket seq w'
  takes_in ticket seq t = record {
    at = a.at;
    bay = a.bay;
    d = a.d;
    online = a.online;
    hand_empty = t.hand_empty;
    lane = t.lane;
    piece = t.piece;
    rest = t.rest;
    held_is = t.held_is;
    ticket_is = t.ticket_is;
    seq_is = t.seq_is;
    new_is = calm _ t.is refl;
  }

  pub loses_in : LosesBlocks meaning station a.outcome → LosesIn meaning w drive w'
  loses_in l =
      let f = framed _ l.is in
      record {
        at = a.at;
        bay = a.bay;
        d = a.d;
        after = a.outcome.drive;
        online = a.online;
        fails = l.fails;
        calls = l.calls;
        sessions = a.sessions;
        fail = f.1;
        new_is = f.0;
      }

-- The replies of a drive.

-- the reply is to no event of a drive
abbrev pub IsOfNoDrive : Reply → Type 0
IsOfNoDrive (Closed key spans) = Unit {0}
IsOfNoDrive Retired = Unit {0}
IsOfNoDrive reply = ⊥

none_here : {D : Type 0} (meaning : D → Meaning) (own : ℕ) (event : Event) (reply : Reply) (s : Station D) (o : Outcome D) → DriveMoves meaning own event reply s o → IsOfNoDrive reply → ⊥
none_here meaning own (Take drive) (Closed key spans) s o m other = m
none_here meaning own event (Closed key spans) s o m other = m
none_here meaning own (Take drive) Retired s o m other = m
none_here meaning own event Retired s o m other = m
none_here meaning own event reply s o m other = other

-- a drive gives no such reply
pub none_there : {D : Type 0} {meaning : D → Meaning} {w w' : WorldView D} {drive : ℕ} {event : Event} {reply : Reply} → MovesDrive meaning w drive event reply w' → IsOfNoDrive reply → ⊥
none_there (inl m) other = subst IsOfNoDrive m.1 other
none_there {D} {meaning} {w} {w'} {drive} {event} {reply} (inr a) other = none_here meaning drive event reply (station a) a.outcome a.moves other
