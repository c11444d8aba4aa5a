use Rattle.std.proofs.Common.{◌≡◌, None, refl, sym, inr, ◌∙◌}
use Rattle.sd_tool.specs.Settings.{misfit_of}
use Rattle.sd_tool.proofs.DoingLemmas.{none_of}
use Rattle.sd_tool.proofs.run.run_script.Goals as goal

pub returns : goal.returns
returns g c =
    let none : misfit_of c.args.settings.values ≡ None = sym c.misfit.ensures ∙ none_of c.misfit.result c.in_default.not-Some in
    inr (inr (none, _, record { stage = c.in-Ok.ensures; moment_is = refl; none_closed = c.new-2.ensures; said_is = refl }, c.run_from.ensures))
