use Rattle.std.proofs.Common.{ap, arith}
use Rattle.std.proofs.lemmas.Result.{err_from_is_err_and}
use Rattle.sd_session.specs.Session.{SessionView, TakesRecord, AppendRefused}
use Rattle.sd_events.proofs.Found.{found_within, read_found}
use Rattle.sd_events.specs.View.{world_of}
use Rattle.sd_events.proofs.Changes.{changes_one, refuses_one}
use Rattle.sd_events.proofs.records.append.Goals as goal

pub index_mut-entry-requires : goal.index_mut-entry-requires
index_mut-entry-requires g c = omega (arith, found_within _ _ _ c.in_ok-at.ensures.ok, c.deref.ensures.len)

pub returns : goal.returns
returns g c =
    let f = read_found c.args.ticket _ _ _ _ _ c.in_ok-at.ensures.ok c.deref.ensures.value c.index_mut-entry.ensures.value c.entry.view_is in
    record { moves = changes_one (world_of c.args.parts.now) _ _ _ c.append.new.self (λ s t. TakesRecord s c.args.rec.now c.in_ok-count.count t) f c.in_ok-count.ensures.ok (ap (λ (x : SessionView). x.key.id) c.in_ok-count.ensures.ok.is) }

pub returns-in_err-count : goal.returns-in_err-count
returns-in_err-count g c =
    let w = world_of c.args.parts.now in
    let f = read_found c.args.ticket _ _ _ _ _ c.in_ok-at.ensures.ok c.deref.ensures.value c.index_mut-entry.ensures.value c.entry.view_is in
    let why = c.in_err-count.field-0.0 in
    record {
      moves = (let p = err_from_is_err_and c.from_residual-in_err-count.result c.from_residual-in_err-count.ensures.1 in rw (p.1, p.2)
          (refuses_one w _ _ _ c.append.new.self why (λ e. AppendRefused e.session c.args.rec.now why) f c.in_err-count.ensures.why c.in_err-count.ensures.err));
    }
