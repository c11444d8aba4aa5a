use Rattle.std.proofs.Common.{ℕ, ◌&&◌, Option, Some, sym, ap, ◌∙◌, arith}
use Rattle.sd_world.specs.World.{WorldSession}
use Rattle.sd_events.proofs.Found.{found_within, read_found}
use Rattle.sd_events.specs.Losing.{is_holder, has_lost}
use Rattle.sd_events.proofs.Lists.{none_fails, none_of_ticket, fail_one}
use Rattle.sd_events.proofs.LosingLemmas.{not_holder, fail_session}
use Rattle.sd_events.proofs.losing.fail_holder.Goals as goal

pub returns-in_default : goal.returns-in_default
returns-in_default g c = none_fails _ c.args.sessions.now.items (λ at e there. ap (λ (h : Option ℕ). is_holder h e && has_lost c.args.drive.now.journal e) c.in_default.is)

pub returns-in_default-find : goal.returns-in_default-find
returns-in_default-find g c =
    let unknown = rw c.deref.ensures.value at c.in_default-find.ensures.unknown in
    let is = c.in-Some.is in
    none_of_ticket _ c.in-Some.ticket c.args.sessions.now.items unknown
    (λ x differs. ap (λ b. b && has_lost c.args.drive.now.journal x) (not_holder c.args.holder x (λ h. differs (cc (h, is)))))

pub index_mut-entry-requires : goal.index_mut-entry-requires
index_mut-entry-requires g c =
    let found = rw c.deref.ensures.value at c.in-Some-find.ensures.found in
    let below = found_within c.in-Some.ticket c.args.sessions.now.items c.in-Some-find.at found in
    let len = c.args.sessions.now.ok.0 in
    omega (arith, below, len)

pub returns : goal.returns
returns g c =
    let es = c.args.sessions.now.items in
    let journal = c.args.drive.now.journal in
    let e : WorldSession = record { session = c.entry.inside.session; drive = c.entry.inside.drive } in
    let found = read_found c.in-Some.ticket _ es c.in-Some-find.at e _ c.in-Some-find.ensures.found c.deref.ensures.value c.index_mut-entry.ensures.value c.entry.view_is in
    let holder = c.in-Some.is ∙ ap Some (sym found.id_is) in
    let rise = c.requires.rise in
    fail_one (λ x. is_holder c.args.holder x && has_lost journal x) rise.0 1 rise.1 es c.in-Some-find.at e _ rise.2 found.there
    (fail_session c.args.holder journal e c.fail_if_lost.new.session holder c.fail_if_lost.ensures.lost c.fail_if_lost.ensures.kept)
    (λ x differs. ap (λ b. b && has_lost journal x) (not_holder c.args.holder x (λ h. differs (cc (h, holder)))))
