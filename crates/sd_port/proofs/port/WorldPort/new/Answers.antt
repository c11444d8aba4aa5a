use Rattle.std.proofs.Common.{refl, sym, subst, to_z, of_z, w64, rules, ◌≡◌, []}
use Rattle.sd_world.specs.Steps.{IsSound}
use Rattle.sd_world.specs.World.{WorldView}
use Rattle.sd_port.proofs.port.WorldPort.new.Goals as goal

-- nothing was done yet
pub invariant_of-result : goal.invariant_of-result
invariant_of-result g c =
    let W : WorldView g.row.D.Denot → Type 0 = λ w. IsSound (λ d. g.D.Driver.meaning d) w in
    record { opens = subst W (sym c.of-opening.ensures) c.know.ensures; deeds = []; leads = sym c.of-opening.ensures; asked_are = c.new.ensures }

pub returns : goal.returns
returns g c =
    let wide : to_z w64 (of_z w64 c.args.moment) ≡ c.args.moment = search rules in
    rw (c.of-opening.ensures, c.new.ensures, wide) refl
