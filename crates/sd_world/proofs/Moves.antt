-- Every move keeps the rules of worlds; and closed sessions closed or purged, and their spans until their drive is retired.
use Rattle.std.proofs.Common.{◌≡◌, ℕ, refl, sym, subst, Some, List}
use Rattle.sd_driver.specs.Meaning.{Meaning}
use Rattle.sd_machine.specs.declared.event.Event.{Event}
use Rattle.sd_machine.specs.declared.event.Event.TheVariants.{Close, Take, Place, Sync, Label, Adopt, Mount, Unmount, Seek}
use Rattle.sd_machine.specs.declared.reply.Reply.{Reply}
use Rattle.sd_machine.specs.declared.reply.Reply.TheVariants.{Closed}
use Rattle.sd_session.specs.Session.{SessionView}
use Rattle.sd_session.specs.declared.answer.Despooled.TheVariants as despooled
use Rattle.sd_world.specs.Sessions.{DespoolsSession}
use Rattle.sd_world.specs.Moves.{Moves}
use Rattle.sd_world.specs.Rules.{IsWorld}
use Rattle.sd_desk.specs.Desk.{DeskView}
use Rattle.sd_drive.specs.View.{DriveIs}
use Rattle.sd_world.specs.World.{WorldView, WorldSession, BayView, IsOnline, session_at, with_session}
use Rattle.sd_world.specs.Operators.{ClaimsName}
use Rattle.sd_world.specs.Kept.{ClosedStands, KeepsClosed}
use Rattle.sd_world.proofs.DriveMoves as rule
use Rattle.sd_world.proofs.DriveSteps.{DriveGoesOn, DriveAdds}
use Rattle.sd_world.proofs.Framed.{LosesIn, with_desk, none_there}
use Rattle.sd_world.proofs.Kept.{ClosedStay, closed_stay, all_there, all_placed_there}
use Rattle.sd_world.proofs.KeptMoves as kept
use Rattle.sd_world.proofs.OpenSteps.{opens, opens_not}
use Rattle.sd_world.proofs.PurgeSteps.{purges_world}
use Rattle.sd_world.proofs.QueueSteps.{takes_piece, sends_one, sends_world, closes_world, retires_world}
use Rattle.sd_world.proofs.Shapes as shape
use Rattle.sd_world.proofs.Shapes.{Shape, shape_of}
use Rattle.sd_world.proofs.Views.{StaysWhole}
use Rattle.sd_world.proofs.Worlds.{session_world, desk_world}

-- what a move keeps
record Keeps {D : Type 0} (w w' : WorldView D) : Type 0 where
  world : IsWorld w'
  closed : ClosedStay w w'

stays : {D : Type 0} (w w' : WorldView D) → IsWorld w → w' ≡ w → Keeps w w'
stays w w' h same = subst (Keeps w) (sym same) (record { world = h; closed = closed_stay w w (all_there w.sessions) (all_placed_there w w refl) })

-- Sessions.

one_changes : {D : Type 0} (w : WorldView D) (ticket : ℕ) (e : WorldSession) (t : SessionView) → IsWorld w → session_at ticket w.sessions ≡ Some e
    → StaysWhole e.session t → Keeps w (record w { sessions = with_session (record e { session = t }) w.sessions })
one_changes w ticket e t h at whole = record {
  world = session_world w ticket e (record e { session = t }) h at (refl, whole);
  closed = kept.one_changes w ticket e (record e { session = t }) at (refl, whole);
}

despools_one : {D : Type 0} (w w' : WorldView D) (ticket : ℕ) → IsWorld w → DespoolsSession despooled.Sent w ticket w' → Keeps w w'
despools_one w w' ticket h m =
    let one = sends_one m.e.session m.session m.bay.queue m.queue m.step in
    record {
      world = subst IsWorld (sym m.new_is)
          (sends_world w ticket m.at m.e m.bay m.d m.session m.queue one.0 one.1 h m.has m.online one.2 m.step.lanes m.step.capacity);
      closed = kept.despools_one w w' ticket m;
    }

-- Drives and operators.

-- a drive goes on, and the desk knows what it knew
goes_on : {D : Type 0} (w w' : WorldView D) (drive at : ℕ) (bay : BayView D) (d after : DriveIs D) (desk : DeskView) → IsWorld w → IsOnline w drive at bay d
    → DriveGoesOn d after → rule.ClaimsStay w.desk desk → w' ≡ with_desk at bay after desk w → Keeps w w'
goes_on w w' drive at bay d after desk h online goes claims same =
    subst (Keeps w) (sym same) (record {
      world = rule.goes_on_knowing w drive at bay d after desk h online goes claims;
      closed = kept.calls w (with_desk at bay after desk w) drive at bay d after h online goes.stays (all_there w.sessions) refl;
    })

-- the drive gets a volume
gets_volume : {D : Type 0} (w w' : WorldView D) (drive at : ℕ) (bay : BayView D) (d after : DriveIs D) (desk : DeskView) (name : List ℕ) → IsWorld w → IsOnline w drive at bay d
    → DriveAdds name d after → ClaimsName name drive w.desk desk → w' ≡ with_desk at bay after desk w → Keeps w w'
gets_volume w w' drive at bay d after desk name h online more claims same =
    subst (Keeps w) (sym same) (record {
      world = rule.gets_volume w drive at bay d after desk name h online more claims;
      closed = kept.calls w (with_desk at bay after desk w) drive at bay d after h online more.stays (all_there w.sessions) refl;
    })

loses_blocks : {D : Type 0} (meaning : D → Meaning) (w w' : WorldView D) (drive : ℕ) → IsWorld w → LosesIn meaning w drive w' → Keeps w w'
loses_blocks meaning w w' drive h m = record { world = rule.loses_blocks meaning w w' drive h m; closed = kept.loses_blocks meaning w w' drive h m }

-- only the desk changes, and its claims stay
knows : {D : Type 0} (w w' : WorldView D) (desk : DeskView) → IsWorld w → rule.ClaimsStay w.desk desk → w' ≡ record w { desk = desk } → Keeps w w'
knows w w' desk h claims same = record {
  world = subst IsWorld (sym same) (desk_world w desk h claims);
  closed = kept.knows_else w w' desk same;
}

-- Every shape, and so every event.

shape_keeps : {D : Type 0} (meaning : D → Meaning) (w w' : WorldView D) (event : Event) (reply : Reply) → IsWorld w → Shape meaning w event reply w' → Keeps w w'
shape_keeps meaning w w' event reply h (shape.stays same) = stays w w' h same
shape_keeps meaning w w' event reply h (shape.changes m) = subst (Keeps w) (sym m.new_is) (one_changes w m.ticket m.e m.t h m.has m.whole)
shape_keeps meaning w w' event reply h (shape.closes ticket key spans reply_is m) =
    let still = kept.closes w w' ticket key spans m in
    record { world = closes_world w w' ticket key spans h m; closed = record { statuses = still.statuses; spans = still.spans } }
shape_keeps meaning w w' event reply h (shape.sends ticket reply_is m) = despools_one w w' ticket h m
shape_keeps meaning w w' event reply h (shape.opens job pool media moment ticket drive reply_is m) =
    record { world = opens w w' job pool media moment ticket drive h m; closed = kept.opens w w' job pool media moment ticket drive h m }
shape_keeps meaning w w' event reply h (shape.opens_not pool media why m) =
    record { world = opens_not w w' pool media why h m; closed = kept.opens_not w w' pool media why h m }
shape_keeps meaning w w' event reply h (shape.takes drive ticket seq m) =
    record { world = takes_piece w w' drive ticket seq h m; closed = kept.takes_piece w w' drive ticket seq m }
shape_keeps meaning w w' event reply h (shape.calls m) = goes_on w w' m.drive m.at m.bay m.d m.after m.desk h m.online m.goes (rule.same_claims w.desk m.desk m.claims) m.new_is
shape_keeps meaning w w' event reply h (shape.gets m) = gets_volume w w' m.drive m.at m.bay m.d m.after m.desk m.name h m.online m.adds m.claims m.new_is
shape_keeps meaning w w' event reply h (shape.loses drive of_sync fault m) = loses_blocks meaning w w' drive h m
shape_keeps meaning w w' event reply h (shape.knows m) = knows w w' m.desk h (rule.same_claims w.desk m.desk m.claims) m.new_is
shape_keeps meaning w w' event reply h (shape.retires drive retired m) = record { world = retires_world w w' drive h m; closed = kept.retires w w' drive m }
shape_keeps meaning w w' event reply h (shape.purges drive name own answer m) =
    record { world = purges_world meaning w w' drive name h m; closed = kept.purges meaning w w' drive name h m }

keeps : {D : Type 0} (meaning : D → Meaning) (w w' : WorldView D) (event : Event) (reply : Reply) → IsWorld w → Moves meaning w event reply w' → Keeps w w'
keeps meaning w w' event reply h m = shape_keeps meaning w w' event reply h (shape_of meaning w w' event reply m)

-- what a reply closed is closed
stands_by : {D : Type 0} (meaning : D → Meaning) (w w' : WorldView D) (event : Event) (reply : Reply) → Moves meaning w event reply w' → ClosedStands w' reply
stands_by meaning w w' (Close ticket) (Closed key spans) m = (kept.closes w w' ticket key spans m).stands
stands_by meaning w w' (Take drive) (Closed key spans) m = absurd (none_there m tt)
stands_by meaning w w' (Place drive) (Closed key spans) m = absurd (none_there m tt)
stands_by meaning w w' (Sync drive) (Closed key spans) m = absurd (none_there m tt)
stands_by meaning w w' (Label drive name pool media moment) (Closed key spans) m = absurd (none_there m tt)
stands_by meaning w w' (Adopt drive name) (Closed key spans) m = absurd (none_there m tt)
stands_by meaning w w' (Mount drive name) (Closed key spans) m = absurd (none_there m tt)
stands_by meaning w w' (Unmount drive) (Closed key spans) m = absurd (none_there m tt)
stands_by meaning w w' (Seek drive) (Closed key spans) m = absurd (none_there m tt)
stands_by meaning w w' event (Closed key spans) m = absurd m
stands_by meaning w w' event reply m = tt

-- The laws.

pub moves_keep_rules : {D : Type 0} (meaning : D → Meaning) (w w' : WorldView D) (event : Event) (reply : Reply) → IsWorld w → Moves meaning w event reply w' → IsWorld w'
moves_keep_rules meaning w w' event reply h m = (keeps meaning w w' event reply h m).world

pub moves_keep_closed : {D : Type 0} (meaning : D → Meaning) (w w' : WorldView D) (event : Event) (reply : Reply) → IsWorld w → Moves meaning w event reply w' → KeepsClosed w reply w'
moves_keep_closed meaning w w' event reply h m =
    let still = (keeps meaning w w' event reply h m).closed in
    record { statuses = still.statuses; spans = still.spans; stands = stands_by meaning w w' event reply m }
