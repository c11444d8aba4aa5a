-- The stop theorem.
use Rattle.std.proofs.Common.{◌∷◌, List}
use Rattle.sd_base.specs.declared.number.SessionKey.{SessionKey}
use Rattle.sd_machine.specs.Machine.{empty_machine}
use Rattle.sd_machine.specs.declared.event.Event.TheVariants.{Close}
use Rattle.sd_machine.specs.declared.reply.Reply.TheVariants.{Closed}
use Rattle.sd_span.specs.declared.span.Span.{Span}
use Rattle.sd_world.specs.World.{WorldView}
use Rattle.sd_world.proofs.Moves.{moves_keep_closed}
use Rattle.sd_world.proofs.MovesSteps.{moves_steps}
use Rattle.sd_world.specs.Deeds.{Answered}
use Rattle.sd_world.proofs.DeedLemmas.{leads_join, leads_keep, leads_run, step_keeps}
use Rattle.sd_theorem.specs.Start.{Meanings, Start}
use Rattle.sd_theorem.specs.ByDrive.{IsHonestFor}
use Rattle.sd_theorem.specs.Stops.{ClosedInRun, ComesBack, StopByDrive, StopTheorem, deeds_of}
use Rattle.sd_theorem.proofs.Fresh.{made_honest}
use Rattle.sd_theorem.proofs.Head.{made_matches}
use Rattle.sd_theorem.proofs.Returns.{WentOn, returns}
use Rattle.sd_theorem.proofs.Stood.{all_for}

module _ {D Q S Z : Type 0} (is : Meanings D Q S) (start : Start D Q S Z) (key : SessionKey) (spans : List Span) (w : WorldView D) (c : ClosedInRun is start key spans w)
    (honest : IsHonestFor is.device c.at_close key) (honest_now : IsHonestFor is.device w key) where
  -- what is known of the close, and what was done since
  went_on : WentOn is.device key spans w
  went_on =
      let event = Close c.ticket in
      let reply = Closed key spans in
      let kept = leads_keep is.device c.first c.asked c.before c.begins.sound c.leads in
      let run = leads_run is.device c.first c.asked c.before (empty_machine start.time) c.begins.sound c.leads (made_matches is start c.first c.begins) in
      let s = moves_steps is.device c.asked c.at_close event reply run.0 kept.0.rules c.closes.moves run.2 in
      record {
        at_close = c.at_close;
        sound = c.closes.sound;
        honest = honest;
        honest_now = honest_now;
        m = s.0;
        matches = s.2;
        closed = (moves_keep_closed is.device c.asked c.at_close event reply kept.0.rules c.closes.moves).stands;
        after = c.after;
        goes_on = c.goes_on;
        unpurged = c.unpurged;
        e = c.e;
        there = c.there;
        at = c.at;
        bay = c.bay;
        d = c.d;
        online = c.online;
      }

  comes_back : ComesBack is start key spans w c
  unfolding went_on
  comes_back =
      let leads = leads_join is.device c.first c.asked w c.before (Answered (Close c.ticket) (Closed key spans) ∷ c.after) c.leads (c.at_close, c.closes, c.goes_on) in
      let run = leads_run is.device c.first w (deeds_of c) (empty_machine start.time) c.begins.sound leads (made_matches is start c.first c.begins) in
      let r = returns Z is key spans w went_on run.0 run.2 in
      record {
        m = run.0;
        run = run.1;
        has = r.has;
        bay_then = r.bay_then;
        d_then = r.d_then;
        online_then = r.online_then;
        returns = r.returns;
      }

pub stop_by_drive : {D Q S Z : Type 0} → StopByDrive D Q S Z
stop_by_drive is start key spans w c honest honest_now = comes_back is start key spans w c honest honest_now

-- with all devices and stores honest
pub stop_theorem : {D Q S Z : Type 0} → StopTheorem D Q S Z
stop_theorem is start key spans w was =
    let c = was.closed in
    let kept = leads_keep is.device c.first c.asked c.before c.begins.sound c.leads in
    let then = (step_keeps is.device c.asked c.at_close (Close c.ticket) (Closed key spans) kept.0 c.closes).honest (kept.1.honest (made_honest is start c.first c.begins was.honest)) in
    let now = (leads_keep is.device c.at_close w c.after c.closes.sound c.goes_on).1.honest then in
    stop_by_drive is start key spans w c (all_for is.device c.at_close then key) (all_for is.device w now key)
