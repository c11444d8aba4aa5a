use Rattle.std.proofs.Common.{rules, refl, inl, inr, sym, ap, subst}
use Rattle.std.proofs.lemmas.Result.{err_from_is_err_and}
use Rattle.sd_lane.specs.declared.piece.Piece.{Piece}
use Rattle.sd_session.specs.Session.{SessionView, IsRunning}
use Rattle.sd_session.specs.Sending.{stations, IsDueToSend}
use Rattle.sd_session.proofs.PackedLemmas.{number_fits, packed_sent, packed_ready}
use Rattle.sd_session.proofs.PartLemmas.{sends_body, finds_lane_full, fails_by_despooling, found_body}
use Rattle.sd_session.proofs.session.Session.despool_step.Goals as goal

pub returns-in_err-running-clause-err : goal.returns-in_err-running-clause-err
returns-in_err-running-clause-err g c =
    let p = err_from_is_err_and c.from_residual.result c.from_residual.ensures.1 in rw (p.1, p.2) (inl (c.in_err-running.ensures.why, refl))

pub returns-in-Err-Device-clause-err : goal.returns-in-Err-Device-clause-err
returns-in-Err-Device-clause-err g c =
    let v = c.args.self.now in
    let is = c.self.view_is in
    let due : IsDueToSend v = search rules in
    let fails = fails_by_despooling _ v c.in-Err-Device.field-0 (stations c.take_next.new.ready c.take_next.new.spool c.take_next.new.packer) c.drop_parts.new.ready _ c.drop_parts.new.spool c.drop_parts.new.packer
    is c.in_ok-running.ensures.ok due (search rules) c.in-Err-Device.ensures.err
    c.drop_parts.ensures.none_ready c.drop_parts.ensures.store c.drop_parts.ensures.none_spooled c.drop_parts.ensures.none c.drop_parts.ensures.room in
    inr (inl (fails.0, refl, fails.1))

pub returns-in-Ok-clause-ok : goal.returns-in-Ok-clause-ok
returns-in-Ok-clause-ok g c =
    let v = c.args.self.now in
    let is = c.self.view_is in
    let due : IsDueToSend v = search rules in
    sends_body _ v _ _ c.in-Ok-Some.body (stations c.take_next.new.ready c.take_next.new.spool c.take_next.new.packer) _
    is c.in_ok-running.ensures.ok due (found_body c.in-Ok-Some.field-0 c.in-Ok-Some.body _ _ (search rules) c.in-Ok-Some.ensures.ok)
    (record { sends = c.in-Ok.ensures.sent; room = c.in-Ok.ensures.room; held = c.in-Ok.ensures.held })
    c.goes_on-self-inside.ensures

pub returns-in-Err-clause-ok : goal.returns-in-Err-clause-ok
returns-in-Err-clause-ok g c =
    let v = c.args.self.now in
    let is = c.self.view_is in
    let due : IsDueToSend v = search rules in
    finds_lane_full _ v _ _ c.in-Ok-Some.body c.in-Err.piece.body (stations c.take_next.new.ready c.take_next.new.spool c.take_next.new.packer)
    is c.in_ok-running.ensures.ok due (found_body c.in-Ok-Some.field-0 c.in-Ok-Some.body _ _ (search rules) c.in-Ok-Some.ensures.ok)
    (record { none_sent = c.in-Err.ensures.not_sent; full = c.in-Err.ensures.full; held = c.in-Err.ensures.kept })
    (ap (λ (p : Piece). p.body) c.in-Err.ensures.given_back)

pub overflow_add-seq : goal.overflow_add-seq
overflow_add-seq g c =
    let running = subst (λ (v : SessionView). IsRunning v.status) (sym c.self.view_is) c.in_ok-running.ensures.ok in
    let fits = number_fits _ c.in-Ok-Some.body (stations c.take_next.new.ready c.take_next.new.spool c.take_next.new.packer)
    (found_body c.in-Ok-Some.field-0 c.in-Ok-Some.body _ _ (search rules) c.in-Ok-Some.ensures.ok)
    running (c.self.invariant.packed running) (search rules) (search rules) in
    search rules

pub invariant_of-self-in-Ok : goal.invariant_of-self-in-Ok
invariant_of-self-in-Ok g c =
    let takes = found_body c.in-Ok-Some.field-0 c.in-Ok-Some.body _ _ (search rules) c.in-Ok-Some.ensures.ok in
    record {
      active_open = search rules;
      else_closed = search rules;
      whole = search rules;
      packed = λ running. packed_sent _ c.in-Ok-Some.body (stations c.take_next.new.ready c.take_next.new.spool c.take_next.new.packer) _ takes (c.self.invariant.packed running);
    }

pub invariant_of-self-in-Err : goal.invariant_of-self-in-Err
invariant_of-self-in-Err g c =
    let takes = found_body c.in-Ok-Some.field-0 c.in-Ok-Some.body _ _ (search rules) c.in-Ok-Some.ensures.ok in
    record {
      active_open = search rules;
      else_closed = search rules;
      whole = search rules;
      packed = λ running. packed_ready _ c.in-Ok-Some.body c.in-Err.piece.body (stations c.take_next.new.ready c.take_next.new.spool c.take_next.new.packer) takes (c.self.invariant.packed running);
    }
