use Rattle.std.proofs.Common.{ap, subst, arith, inr}
use Rattle.std.proofs.lemmas.Result.{err_from_is_err_and}
use Rattle.sd_session.specs.Session.{SessionView}
use Rattle.sd_session.specs.Spooling.{Spools, SpoolRefused}
use Rattle.sd_session.specs.declared.answer.Spooling.{Spooling}
use Rattle.sd_session.specs.declared.answer.Spooling.TheVariants.{Spooled, SpoolFull, Nothing, NoSpool}
use Rattle.sd_events.proofs.Found.{found_within, read_found}
use Rattle.sd_events.specs.View.{world_of}
use Rattle.sd_events.proofs.Changes.{changes_one, spool_keeps_key}
use Rattle.sd_events.proofs.records.spool.Goals as goal

pub index_mut-entry-requires : goal.index_mut-entry-requires
index_mut-entry-requires g c = omega (arith, found_within _ _ _ c.in_ok-at.ensures.ok, c.deref.ensures.len)

pub returns-in-Spooled : goal.returns-in-Spooled
returns-in-Spooled g c =
    let f = read_found c.args.ticket _ _ _ _ _ c.in_ok-at.ensures.ok c.deref.ensures.value c.index_mut-entry.ensures.value c.entry.view_is in
    let spools : Spools Spooled c.entry.inside.session c.spool_step.new.self = subst (λ (a : Spooling). Spools a c.entry.inside.session c.spool_step.new.self) c.in-Spooled.is c.in_ok-spool_step.ensures.ok in
    record { moves = changes_one (world_of c.args.parts.now) _ _ _ c.spool_step.new.self (Spools Spooled) f spools (ap (λ (x : SessionView). x.key.id) spools.is) }

pub returns-in-SpoolFull : goal.returns-in-SpoolFull
returns-in-SpoolFull g c =
    let f = read_found c.args.ticket _ _ _ _ _ c.in_ok-at.ensures.ok c.deref.ensures.value c.index_mut-entry.ensures.value c.entry.view_is in
    let spools : Spools SpoolFull c.entry.inside.session c.spool_step.new.self = subst (λ (a : Spooling). Spools a c.entry.inside.session c.spool_step.new.self) c.in-SpoolFull.is c.in_ok-spool_step.ensures.ok in
    record { moves = changes_one (world_of c.args.parts.now) _ _ _ c.spool_step.new.self (Spools SpoolFull) f spools (ap (λ (x : SessionView). x.key.id) spools.2) }

pub returns-in-Nothing : goal.returns-in-Nothing
returns-in-Nothing g c =
    let f = read_found c.args.ticket _ _ _ _ _ c.in_ok-at.ensures.ok c.deref.ensures.value c.index_mut-entry.ensures.value c.entry.view_is in
    let spools : Spools Nothing c.entry.inside.session c.spool_step.new.self = subst (λ (a : Spooling). Spools a c.entry.inside.session c.spool_step.new.self) c.in-Nothing.is c.in_ok-spool_step.ensures.ok in
    record { moves = changes_one (world_of c.args.parts.now) _ _ _ c.spool_step.new.self (Spools Nothing) f spools (ap (λ (x : SessionView). x.key.id) spools.3) }

pub returns-in-NoSpool : goal.returns-in-NoSpool
returns-in-NoSpool g c =
    let f = read_found c.args.ticket _ _ _ _ _ c.in_ok-at.ensures.ok c.deref.ensures.value c.index_mut-entry.ensures.value c.entry.view_is in
    let spools : Spools NoSpool c.entry.inside.session c.spool_step.new.self = subst (λ (a : Spooling). Spools a c.entry.inside.session c.spool_step.new.self) c.in-NoSpool.is c.in_ok-spool_step.ensures.ok in
    record { moves = changes_one (world_of c.args.parts.now) _ _ _ c.spool_step.new.self (Spools NoSpool) f spools (ap (λ (x : SessionView). x.key.id) spools.2) }

pub returns-in_err-spool_step : goal.returns-in_err-spool_step
returns-in_err-spool_step g c =
    let w = world_of c.args.parts.now in
    let f = read_found c.args.ticket _ _ _ _ _ c.in_ok-at.ensures.ok c.deref.ensures.value c.index_mut-entry.ensures.value c.entry.view_is in
    let why = c.in_err-spool_step.field-0.0 in
    record {
      moves = (let p = err_from_is_err_and c.from_residual-in_err-spool_step.result c.from_residual-in_err-spool_step.ensures.1 in rw (p.1, p.2)
          (inr (changes_one w _ _ _ c.spool_step.new.self (λ s t. SpoolRefused s why t) f c.in_err-spool_step.ensures.err (spool_keeps_key c.entry.inside.session c.spool_step.new.self why c.in_err-spool_step.ensures.err))));
    }
