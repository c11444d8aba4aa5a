use Rattle.std.proofs.Common.{◌≡◌, [], ◌++◌, None, map, refl, ap, sym, subst, ◌∙◌, arith, List, ℕ}
use Rattle.std.specs.List.{AllZip}
use Rattle.sd_drive.specs.View.{DriveIs}
use Rattle.sd_drive.specs.declared.limits.Limits.{Limits}
use Rattle.sd_core.specs.Fresh.{StaysDevice}
use Rattle.sd_core.proofs.NewDrives.{is_new, made_push, made_stay, again_push}
use Rattle.sd_core.proofs.new_drives.+make_drives.Goals as goal

pub returns-in-Err-clause-again : goal.returns-in-Err-clause-again
returns-in-Err-clause-again g t c =
    again_push (λ d. g.D.Driver.meaning d) c.args.drivers.now.items c.pop.new.self.items c.make_drives.new.drivers.items c.push_reserved.new.self.items
    c.in-Some.driver c.in-Some.driver c.in-Some.ensures.items c.push_reserved.ensures.items c.in-Err.ensures.again refl

pub returns-in-Ok-clause-made : goal.returns-in-Ok-clause-made
returns-in-Ok-clause-made g t c =
    let new = is_new (λ d. g.D.Driver.meaning d) c.args.limits.now c.copy-media.result c.index-medias-len.result.0 c.in-Some.driver c.in-Ok.drive
    (c.in-Ok.ensures.ok ∙ ap (λ (l : Limits). let d : DriveIs _ = record { device = c.in-Ok.drive.device; media = c.copy-media.result; limits = l; volumes = []; loaded = None; pool = None; hand = None; journal = []; ready = [] } in d) c.copy.ensures)
    (c.copy-media.ensures ∙ ap (λ (m : List ℕ × ℕ). m.0) (sym c.index-medias-len.is))
    (record { counts = c.in-Ok.ensures.counts; same = c.in-Ok.ensures.same; later = c.in-Ok.ensures.later }) c.in-Ok.ensures.given_stable in
    made_push (λ d. g.D.Driver.meaning d) c.args.limits.now c.args.medias.now c.args.drivers.now.items c.pop.new.self.items
    c.make_drives.new.drives.items c.push_reserved-in-Ok.new.self.items c.len.result c.index-medias-len.result c.in-Some.driver c.in-Ok.drive
    c.in_default-make_drives.ensures.made c.in-Some.ensures.items c.push_reserved-in-Ok.ensures.items
    (omega (arith, c.len.ensures, c.pop.new.self.ok.0)) (omega (arith, c.len.ensures, c.in-Some.ensures.len, c.requires.medias)) c.index-medias-len.is new

pub returns-in-Err-new-clause-again : goal.returns-in-Err-new-clause-again
returns-in-Err-new-clause-again g t c =
    let made = made_stay (λ d. g.D.Driver.meaning d) c.args.limits.now c.args.medias.now c.pop.new.self.items c.make_drives.new.drives.items c.in_default-make_drives.ensures.made in
    let back : map (λ (d : DriveIs _). d.device) c.make_drives.new.drives.items ≡ c.unmake_drives.new.drivers.items =
    sym (c.unmake_drives.ensures.devices ∙ ap (λ l. l ++ map (λ (d : DriveIs _). d.device) c.make_drives.new.drives.items) c.in_default-make_drives.ensures.none_left) in
    again_push (λ d. g.D.Driver.meaning d) c.args.drivers.now.items c.pop.new.self.items c.unmake_drives.new.drivers.items c.push_reserved-in-Err-new.new.self.items
    c.in-Some.driver c.in-Err-new.kept.driver c.in-Some.ensures.items c.push_reserved-in-Err-new.ensures.items
    (subst (λ l. AllZip (StaysDevice (λ d. g.D.Driver.meaning d)) c.pop.new.self.items l) back made) c.in-Err-new.ensures.err
