use Rattle.std.proofs.Common.{ap, arith}
use Rattle.std.proofs.lemmas.Result.{err_from_is_err_and}
use Rattle.std.proofs.lemmas.Int.{to_z-of_z}
use Rattle.sd_session.specs.Session.{SessionView, EndsSession, EndRefused}
use Rattle.sd_events.proofs.Found.{found_within, read_found}
use Rattle.sd_events.specs.View.{world_of}
use Rattle.sd_events.proofs.Changes.{changes_one, refuses_one}
use Rattle.sd_events.proofs.records.end.Goals as goal

pub index_mut-entry-requires : goal.index_mut-entry-requires
index_mut-entry-requires g c = omega (arith, found_within _ _ _ c.in_ok-at.ensures.ok, c.deref.ensures.len)

pub returns : goal.returns
returns g c =
    let f = read_found c.args.ticket _ _ _ _ _ c.in_ok-at.ensures.ok c.deref.ensures.value c.index_mut-entry.ensures.value c.entry.view_is in
    let ends = simp (to_z-of_z, c.ranges.moment) at c.in_ok-end.ensures.ok in
    record { moves = changes_one (world_of c.args.parts.now) _ _ _ c.end.new.self (λ s t. EndsSession s c.args.moment t) f ends (ap (λ (x : SessionView). x.key.id) c.in_ok-end.ensures.ok.is) }

pub returns-in_err-end : goal.returns-in_err-end
returns-in_err-end g c =
    let w = world_of c.args.parts.now in
    let f = read_found c.args.ticket _ _ _ _ _ c.in_ok-at.ensures.ok c.deref.ensures.value c.index_mut-entry.ensures.value c.entry.view_is in
    let why = c.in_err-end.field-0.0 in
    record {
      moves = (let p = err_from_is_err_and c.from_residual-in_err-end.result c.from_residual-in_err-end.ensures.1 in rw (p.1, p.2)
          (refuses_one w _ _ _ c.end.new.self why (λ e. EndRefused e.session why) f c.in_err-end.ensures.why c.in_err-end.ensures.err));
    }
