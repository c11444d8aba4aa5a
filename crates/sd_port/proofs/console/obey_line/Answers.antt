use Rattle.std.proofs.Common.{◌≡◌, ℤ, to_z, of_z, w64, rules, [], inl, subst}
use Rattle.sd_port.specs.Console.{CommandDoes}
use Rattle.sd_port.proofs.ConsoleLemmas.{refused_line}
use Rattle.sd_port.proofs.console.obey_line.Goals as goal

-- the moment is 64 bits wide
pub returns-in-Ok : goal.returns-in-Ok
returns-in-Ok g c =
    let wide : to_z w64 (of_z w64 c.args.moment) ≡ c.args.moment = search rules in (
      c.obey.ensures.0,
      c.obey.ensures.1,
      inl (
        c.in-Ok.command,
        c.in-Ok.ensures.ok,
        subst (λ (moment : ℤ). CommandDoes g.D.Driver.meaning moment c.in-Ok.command c.obey.result c.obey.ensures.0 c.obey.ensures.1 c.args.world.now c.obey.new.world) wide c.obey.ensures.2,
      ),
    )

pub returns-in-Err : goal.returns-in-Err
returns-in-Err g c =
    ([], [], refused_line g.D.Driver.meaning c.args.moment c.args.line.now c.args.world.now c.in-Err.why c.in-Err.ensures.found c.in-Err.ensures.bad_name c.in-Err.ensures.bad_command)
