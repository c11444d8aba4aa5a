use Rattle.std.proofs.Common.{List, map, ap, ◌∙◌}
use Rattle.sd_machine.specs.declared.view.DriveLine.{DriveLine}
use Rattle.sd_machine.specs.declared.view.SessionLine.{SessionLine}
use Rattle.sd_machine.specs.declared.view.View.{View}
use Rattle.sd_machine.specs.declared.view.VolumeLine.{VolumeLine}
use Rattle.sd_world.specs.World.{WorldView, WorldSession, BayView}
use Rattle.sd_core.specs.View.{drive_lines, volume_lines, session_line}
use Rattle.sd_core.proofs.world.World.view.Goals as goal

pub returns : goal.returns
returns g c =
    let sessions = ap (λ (w : WorldView g.row.D.Denot). w.sessions) c.self.view_is in
    let bays = ap (λ (w : WorldView g.row.D.Denot). w.bays) c.self.view_is in
    let old = c.args.self.now in
    let drives = c.in_ok-show_drives.ensures
    ∙ ap (λ (es : List WorldSession). drive_lines es 0 c.deref-2.result.now) (c.deref.ensures.value ∙ sessions)
    ∙ ap (λ (bs : List (BayView g.row.D.Denot)). drive_lines old.sessions 0 bs) (c.deref-2.ensures.value ∙ bays) in
    let volumes = c.in_ok-show_volumes.ensures ∙ ap (λ (bs : List (BayView g.row.D.Denot)). volume_lines bs) (c.deref-3.ensures.value ∙ bays) in
    let lines = c.in_ok-show_sessions.ensures ∙ ap (λ (es : List WorldSession). map session_line es) (c.deref-4.ensures.value ∙ sessions) in
    let D : List DriveLine → View = λ x. record { drives = x; volumes = c.in_ok-show_volumes.field-0; sessions = c.in_ok-show_sessions.field-0 } in
    let V : List VolumeLine → View = λ x. record { drives = drive_lines old.sessions 0 old.bays; volumes = x; sessions = c.in_ok-show_sessions.field-0 } in
    let S : List SessionLine → View = λ x. record { drives = drive_lines old.sessions 0 old.bays; volumes = volume_lines old.bays; sessions = x } in
    ap D drives ∙ ap V volumes ∙ ap S lines
