use Rattle.sd_board.specs.Names.{NamesIs}
use Rattle.sd_board.proofs.NameLemmas.{keeps_begun}
use Rattle.sd_board.proofs.names.Names.begin_claim.Goals as goal

pub invariant_of-self-in_default-claim : goal.invariant_of-self-in_default-claim
invariant_of-self-in_default-claim c =
    let old : NamesIs = record { desk = c.self.inside.desk; coming = c.self.inside.coming } in
    let new : NamesIs = record { desk = c.claim-2.new.self; coming = c.claim.new.self } in
    keeps_begun old new c.args.name.now c.args.drive c.in_default.ensures.claimed c.in_default.ensures.others c.in_default-claim.ensures.claimed c.in_default-claim.ensures.others c.self.invariant
