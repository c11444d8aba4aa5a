use Rattle.std.proofs.Common.{◌∙◌, refl, [], unwrap_or}
use Rattle.std.proofs.lemmas.Bool.{false≢true}
use Rattle.toml.specs.Data.{as_str}
use Rattle.toml.specs.View.{view}
use Rattle.sd_conf.specs.FirstFault.{NameTest}
use Rattle.sd_conf.specs.declared.fault.FaultKind.TheVariants.{Kind, Range}
use Rattle.sd_conf.proofs.ToldLemmas.{named}
use Rattle.sd_conf.proofs.ValueLemmas.{name_misfits, name_read, name_refused}
use Rattle.sd_conf.proofs.values.name.Goals as goal

pub returns-in_default : goal.returns-in_default
returns-in_default t c =
    let text = as_str (view c.args.value.now) in
    named (λ told. told) (NameTest c.args.key.now text) (unwrap_or text []) c.args.key.now Kind c.fault_at.result c.fault_at.ensures
    (name_misfits c.args.key.now text (rw c.in_default.is at c.as_str.ensures))

pub returns-in-Ok : goal.returns-in-Ok
returns-in-Ok t c =
    let read = name_read c.args.key.now c.in-Some.text.now (as_str (view c.args.value.now)) (rw c.in-Some.is at c.as_str.ensures) (c.in-Ok.ensures.accepted.0 refl) in
    (read.0, c.in-Ok.ensures.spelled ∙ read.1)

pub returns-in-Err : goal.returns-in-Err
returns-in-Err t c =
    let text = as_str (view c.args.value.now) in
    named (λ told. told) (NameTest c.args.key.now text) (unwrap_or text []) c.args.key.now Range c.fault_at-in-Err.result c.fault_at-in-Err.ensures
    (name_refused c.args.key.now c.in-Some.text.now text (rw c.in-Some.is at c.as_str.ensures) (λ name. false≢true (c.in-Err.ensures.accepted.1 name)))
