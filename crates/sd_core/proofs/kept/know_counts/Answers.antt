use Rattle.std.proofs.Common.{◌≡◌, ◌<◌, ◌^◌, false, true, refl, sym, ap, subst, ◌∙◌, arith, Some, None}
use Rattle.std.specs.Prelude.{IsSome, is_some}
use Rattle.sd_world.specs.World.{WorldSession, session_at}
use Rattle.sd_world.proofs.Lookups.{session_id}
use Rattle.sd_world.proofs.Pairs.{is_numbered}
use Rattle.sd_events.proofs.Found.{read_found}
use Rattle.sd_events.proofs.Found.{found_within}
use Rattle.sd_core.proofs.kept.know_counts.Goals as goal

-- each session has a ticket
pub returns-in_default : goal.returns-in_default
returns-in_default g c = λ e there.
    let n = is_numbered c.requires.rise.0 1 c.requires.rise.1 c.args.key.id c.args.sessions.now e c.requires.rise.2 there in
    let id = session_id c.args.key.id c.args.sessions.now e there in
    let low = n.least_is in
    let some : IsSome c.new.result = c.new.ensures.within.1 (omega (arith, id, low), c.requires.most c.args.key.id e there) in
    absurd (let no : false ≡ true = ap is_some (sym c.in_default.is) ∙ some in cc no)

-- which is found
pub returns-in_default-find : goal.returns-in_default-find
returns-in_default-find g c = λ e there.
    absurd (let none : None ≡ Some e = sym c.in_default-find.ensures.unknown ∙ ap (λ n. session_at n c.args.sessions.now) c.in-Some.ensures.value ∙ there in cc none)

pub returns : goal.returns
returns g c = λ e there.
    let es = c.args.sessions.now in
    let x : WorldSession = record { session = c.entry.inside.session; drive = c.entry.inside.drive } in
    let f = (read_found c.in-Some.ticket es es c.in-Some-find.at x c.index-sessions-at.result c.in-Some-find.ensures.found refl c.index-sessions-at.is c.entry.view_is).found in
    let same : x ≡ e = cc (sym f ∙ ap (λ n. session_at n es) c.in-Some.ensures.value ∙ there) in (
      subst (λ (y : WorldSession). y.session.count < 2 ^ 64) same c.know_numbers.ensures.count,
      subst (λ (y : WorldSession). y.session.bytes < 2 ^ 64) same c.know_numbers.ensures.bytes,
    )

pub offset_bounds-sessions-at : goal.offset_bounds-sessions-at
offset_bounds-sessions-at g c = omega (arith, found_within c.in-Some.ticket c.args.sessions.now c.in-Some-find.at c.in-Some-find.ensures.found)

pub bounds-sessions-at : goal.bounds-sessions-at
bounds-sessions-at g c = found_within c.in-Some.ticket c.args.sessions.now c.in-Some-find.at c.in-Some-find.ensures.found
