use Rattle.std.proofs.Common.{rules, ◌≡◌, [], ◌∷◌, ◌++◌, length}
use Rattle.sd_gates.proofs.Last.{last_there}
use Rattle.sd_gates.proofs.lives.live.Goals as goal

pub open_first-requires : goal.open_first-requires
open_first-requires g c =
    let all = c.in_ok-line.seats.items in
    let rest = c.pop.new.self.items in
    let seat = c.in_ok-pop.field-0 in
    let is : all ≡ rest ++ seat ∷ [] = search rules in
    c.in_ok-line.ensures (length rest) seat (last_there all rest seat is)
