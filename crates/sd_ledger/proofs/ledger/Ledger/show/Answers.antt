use Rattle.std.proofs.Common.{◌≡◌, ap, ◌∙◌, arith}
use Rattle.sd_ledger.specs.Ledger.{KnownIs}
use Rattle.sd_ledger.proofs.Rule.{shows}
use Rattle.sd_ledger.proofs.ledger.Ledger.show.Goals as goal

pub split_seat-seat-requires : goal.split_seat-seat-requires
split_seat-seat-requires g c =
    let me = c.self.inside.seat.me in
    (c.self.invariant.here, omega (arith, c.self.invariant.words), λ s rule here. shows s.views c.self.inside.seat.id me.0 c.self.invariant.first rule here)
