use Rattle.std.proofs.Common.{◌∙◌, ap}
use Rattle.std.specs.Prelude.{None}
use Rattle.sd_pack.specs.Packing.{bodies_of}
use Rattle.sd_session.proofs.SessionLemmas.{none_left, waiting_alone}
use Rattle.sd_session.proofs.dropping.drop_bodies.Goals as goal

pub returns-clause-none : goal.returns-clause-none
returns-clause-none c =
    ap bodies_of c.shrink.ensures ∙ waiting_alone c.take_body.new.self (c.take_body.ensures.open_body ∙ c.loop-body.invariant.none_open)
    ∙ none_left None c.loop-body.packer.waiting c.take_body.new.self.waiting c.in_default.ensures.variant c.in_default.ensures.first
