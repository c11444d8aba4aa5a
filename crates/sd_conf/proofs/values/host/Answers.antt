use Rattle.std.proofs.Common.{◌≡◌, codes, subst}
use Rattle.std.specs.Prelude.{IfOk}
use Rattle.toml.specs.View.{view}
use Rattle.sd_conf.specs.Limits.{default_host}
use Rattle.sd_conf.proofs.ValueLemmas.{at_key, host_lacks, host_there}
use Rattle.sd_conf.proofs.values.host.Goals as goal

pub returns-in_default : goal.returns-in_default
returns-in_default c =
    host_lacks _ _ (at_key c.get.result (codes "host") c.args.table.now.entries c.get.ensures.value _ c.in_default.is)
    (subst (λ r. IfOk r (λ name. name ≡ default_host)) c.unwrap.ensures c.parse.ensures.spelled)

pub returns : goal.returns
returns c =
    host_there (view c.in-Some.value.now) _ c.name.result
    (at_key c.get.result (codes "host") c.args.table.now.entries c.get.ensures.value _ c.in-Some.is) c.name.ensures
