use Rattle.std.proofs.Common.{◌-◌, [], subst}
use Rattle.sd_base.specs.Limits.{block_header}
use Rattle.sd_session.specs.Session.{store_of}
use Rattle.sd_line.specs.Ends.{EndIs}
use Rattle.sd_line.specs.Parts.{PreparedIs, OpensAt, Notes, spools_at}
use Rattle.sd_line.proofs.Keeps.{begins}
use Rattle.sd_line.proofs.prepared.Prepared.begin_on.Goals as goal

pub invariant_of-result : goal.invariant_of-result
invariant_of-result g c =
    let p = c.self.inside in
    let h = c.self.invariant in
    let e : EndIs = record { seat = p.seat; store = store_of p.session; sessions = p.before.items; whole = p.whole } in
    record {
      keeps = begins g.N.Naming.time e h.opens.store p.opening (p.limits.block - block_header) p.limits.spool p.session h.keeps h.over h.opens.store_is
          h.time h.id.0 h.id.1 h.lane h.opens.starts;
      room = h.room;
    }

pub returns-clause-opens : goal.returns-clause-opens
returns-clause-opens g c =
    let p = c.self.inside in
    subst (λ (x : PreparedIs). OpensAt x.limits x.opening x.end (record { seat = p.seat; before = p.before.items; session = p.session; told = []; spools = spools_at p.limits; whole = p.whole })) c.self.view_is
    c.self.invariant.opens

pub returns-clause-notes : goal.returns-clause-notes
returns-clause-notes g c =
    subst (λ (x : PreparedIs). Notes x.opening c.args.side.now c.serve.new.self) c.self.view_is (record { is = c.serve.ensures.serves; room = c.serve.ensures.room })
