use Rattle.std.proofs.Common.{◌&&◌, sym, ap, ◌∙◌, arith}
use Rattle.sd_world.specs.Drives.{was_purged}
use Rattle.sd_world.specs.World.{WorldSession, session_at}
use Rattle.sd_base.specs.Key.{is_key}
use Rattle.sd_events.proofs.Found.{found_within}
use Rattle.sd_core.proofs.Gone.{no_ticket, none_of_key, told_by}
use Rattle.sd_core.proofs.reading.is_purged_session.Goals as goal

pub returns-in_default : goal.returns-in_default
returns-in_default g c = sym (no_ticket c.args.key c.args.sessions.now c.requires.rise c.requires.most
    (λ within. (let t = c.in_default.ensures.within.1 within in cc t)))

pub returns-in_default-find : goal.returns-in_default-find
returns-in_default-find g c =
    sym (none_of_key c.args.key c.args.sessions.now (ap (λ n. session_at n c.args.sessions.now) (sym c.in-Some.ensures.value) ∙ c.in_default-find.ensures.unknown))

pub offset_bounds-sessions-at : goal.offset_bounds-sessions-at
offset_bounds-sessions-at g c =
    let below = found_within c.in-Some.ticket c.args.sessions.now c.in-Some-find.at c.in-Some-find.ensures.found in
    omega (arith, below)

pub bounds-sessions-at : goal.bounds-sessions-at
bounds-sessions-at g c = found_within c.in-Some.ticket c.args.sessions.now c.in-Some-find.at c.in-Some-find.ensures.found

pub returns-then-eq : goal.returns-then-eq
returns-then-eq g c =
    let e : WorldSession = record { session = c.entry.inside.session; drive = c.entry.inside.drive } in
    let told = told_by c.args.key c.args.sessions.now c.in-Some.ticket c.in-Some-find.at e _ c.in-Some-find.ensures.found c.in-Some.ensures.value c.index-sessions-at.is c.entry.view_is in
    let own = ap (is_key c.args.key) (sym c.key.ensures) ∙ sym c.eq.ensures ∙ c.if-eq.true in
    c.was_purged.ensures ∙ ap was_purged c.status.ensures ∙ sym (told ∙ ap (λ b. b && was_purged e.session.status) own)

pub returns-else-eq : goal.returns-else-eq
returns-else-eq g c =
    let e : WorldSession = record { session = c.entry.inside.session; drive = c.entry.inside.drive } in
    let told = told_by c.args.key c.args.sessions.now c.in-Some.ticket c.in-Some-find.at e _ c.in-Some-find.ensures.found c.in-Some.ensures.value c.index-sessions-at.is c.entry.view_is in
    let other = ap (is_key c.args.key) (sym c.key.ensures) ∙ sym c.eq.ensures ∙ c.if-eq.false in
    c.if-eq.false ∙ sym (told ∙ ap (λ b. b && was_purged e.session.status) other)
