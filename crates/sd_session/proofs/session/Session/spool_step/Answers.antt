use Rattle.std.proofs.Common.{rules, refl, inl, inr, sym, ap, subst, ◌∙◌}
use Rattle.sd_pack.specs.Packing.{PackerView}
use Rattle.sd_session.specs.Session.{SessionView}
use Rattle.sd_session.specs.Spooling.{WouldGoIn}
use Rattle.sd_session.proofs.PartLemmas.{fails_by_spool}
use Rattle.sd_session.proofs.PackedLemmas.{packed_spooling}
use Rattle.sd_session.proofs.session.Session.spool_step.Goals as goal

pub returns-in-Err-Device-clause-err : goal.returns-in-Err-Device-clause-err
returns-in-Err-Device-clause-err g c =
    let is = c.self.view_is in
    let v = c.args.self.now in
    let would : WouldGoIn v.despooling c.in-Some.spool v.packer.waiting =
    subst (λ (x : SessionView). WouldGoIn x.despooling c.in-Some.spool x.packer.waiting) is c.in-Err-Device.ensures.waits in
    inr (inl (
      record { running = c.in_ok-running.ensures.ok; job = c.in-Some.spool; spool_is = sym (ap (λ (x : SessionView). x.spool) is) ∙ c.in-Some.is; goes_in = would },
      refl,
      fails_by_spool _ v c.in-Some.spool c.put_waiting.new.spool.store c.drop_parts.new.ready _ c.drop_parts.new.spool c.drop_parts.new.packer
          is c.in_ok-running.ensures.ok (c.in-Err-Device.ensures.device (search rules))
          c.drop_parts.ensures.none_ready c.drop_parts.ensures.store c.drop_parts.ensures.none_spooled c.drop_parts.ensures.none
          (c.drop_parts.ensures.room ∙ ap (λ (p : PackerView). p.room) c.in-Err-Device.ensures.err),
    ))

pub invariant_of-self-in-Ok : goal.invariant_of-self-in-Ok
invariant_of-self-in-Ok g c = record {
  active_open = search rules;
  else_closed = search rules;
  whole = search rules;
  packed = λ running. packed_spooling c.in-Ok.answer _ c.in-Some.spool c.put_waiting.new.spool _ c.if-self.self c.put_waiting.new.packer c.in-Ok.ensures.ok c.in-Some.is (c.self.invariant.packed running);
}
