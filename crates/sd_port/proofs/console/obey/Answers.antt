use Rattle.std.proofs.Common.{◌≡◌, ℤ, to_z, of_z, w64, rules, [], List, refl, sym, subst}
use Rattle.std.specs.List.{flat_map}
use Rattle.sd_console.specs.Requests.{requests_lines}
use Rattle.sd_desk.specs.declared.request.Request.{Request}
use Rattle.sd_script.specs.declared.console.ConsoleCmd.{ConsoleCmd}
use Rattle.sd_script.specs.declared.console.ConsoleCmd.TheVariants.{Label}
use Rattle.sd_text.specs.Lines.{line}
use Rattle.sd_port.proofs.ConsoleLemmas.{CommandDone}
use Rattle.sd_console.specs.Lines.{Shows}
use Rattle.sd_port.proofs.console.obey.Goals as goal

-- the moment is 64 bits wide
pub returns-in-Label : goal.returns-in-Label
returns-in-Label g c =
    let wide : to_z w64 (of_z w64 c.args.moment) ≡ c.args.moment = search rules in
    subst (λ (k : ConsoleCmd). CommandDone g.D.Driver.meaning c.args.moment k c.operate.result c.args.world.now c.operate.new.world) (sym c.in-Label.is)
    (subst
    (λ (moment : ℤ). CommandDone g.D.Driver.meaning moment (Label c.in-Label.drive c.in-Label.volume c.in-Label.pool c.in-Label.media) c.operate.result c.args.world.now c.operate.new.world)
    wide c.operate.ensures)

pub returns-in-Status : goal.returns-in-Status
returns-in-Status g c =
    subst (λ (k : ConsoleCmd). CommandDone g.D.Driver.meaning c.args.moment k c.tell_status.result c.args.world.now c.args.world.now) (sym c.in-Status.is)
    ([], [], ((refl, refl, refl), c.tell_status.ensures))

pub returns-in-Requests : goal.returns-in-Requests
returns-in-Requests g c =
    subst (λ (k : ConsoleCmd). CommandDone g.D.Driver.meaning c.args.moment k c.tell_requests.result c.args.world.now c.args.world.now) (sym c.in-Requests.is)
    ([], [], ((refl, refl, refl), subst (λ (all : List Request). Shows (flat_map line (requests_lines all)) c.tell_requests.result) c.requests.ensures c.tell_requests.ensures))
