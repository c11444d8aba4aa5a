use Rattle.std.proofs.Common.{◌≡◌, rules}
use Rattle.std.specs.Prelude.{FitsSigned}
use Rattle.std.specs.Int.{w32}
use Rattle.sd_label.specs.Label.{start_label_index}
use Rattle.sd_unpack.proofs.LabelLemmas.{start_found}
use Rattle.sd_unpack.proofs.fragments.start_label.Goals as goal

pub returns-in-Ok-clause-ok : goal.returns-in-Ok-clause-ok
returns-in-Ok-clause-ok c =
    let read = c.in-Ok.ensures.label in
    let fits : FitsSigned w32 c.fragment.inside.index = search rules in
    let index : c.args.fragment.now.index ≡ start_label_index = search rules in
    start_found c.args.fragment.now c.args.bytes.now c.in-Ok.field-0 c.requires.fragment read.0 read.1 c.requires.bytes index
