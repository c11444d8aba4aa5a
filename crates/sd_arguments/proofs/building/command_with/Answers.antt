use Rattle.std.proofs.Common.{◌∙◌, ap, rules}
use Rattle.std.proofs.lemmas.Result.{IfOk-weaker}
use Rattle.clap.specs.Simple.{app_of_fields}
use Rattle.sd_arguments.proofs.BuildingLemmas.{arguments_local, arguments_shape}
use Rattle.sd_arguments.proofs.building.command_with.Goals as goal

pub returns-clause-shape : goal.returns-clause-shape
returns-clause-shape c = IfOk-weaker c.args-2.result _ _
    (λ r h. arguments_shape c.about.result r c.args.name.now c.args.arguments.items h c.requires (ap app_of_fields c.about.ensures ∙ c.new.ensures.app)) c.args-2.ensures

pub returns-clause-local : goal.returns-clause-local
returns-clause-local c = IfOk-weaker c.args-2.result _ _
    (λ r h. arguments_local c.about.result r c.args.arguments.items h c.requires (search rules)) c.args-2.ensures
