use Rattle.std.proofs.Common.{ap, sym, ◌∙◌, refl}
use Rattle.sd_label.specs.declared.label.VolumeLabel.{VolumeLabel}
use Rattle.sd_volume.proofs.DeviceLemmas.{err_or_ok, ok_is}
use Rattle.sd_volume.proofs.AdoptLemmas.{label_parts, is_label_block, block_header_least}
use Rattle.sd_volume.proofs.survey.label_of.Goals as goal

pub split_at-requires : goal.split_at-requires
split_at-requires c = block_header_least c.args.block.now c.args.head.now c.requires

pub returns-then-not-is_label_head-clause-none : goal.returns-then-not-is_label_head-clause-none
returns-then-not-is_label_head-clause-none c = λ label is.
    let parts = label_parts c.args.block.now c.args.head.now label c.requires is.label_is is.block_is in
    let so = c.if-not-is_label_head.ensures.1 (parts.0, parts.1) in absurd cc

pub returns-in_default-clause-none : goal.returns-in_default-clause-none
returns-in_default-clause-none c = λ label is.
    let parts = label_parts c.args.block.now c.args.head.now label c.requires is.label_is is.block_is in
    err_or_ok (c.in_default.ensures.read_back label is.label_is (c.split_at.ensures.back ∙ parts.2))

pub returns-then-not-is_same-clause-none : goal.returns-then-not-is_same-clause-none
returns-then-not-is_same-clause-none c = λ label is.
    let parts = label_parts c.args.block.now c.args.head.now label c.requires is.label_is is.block_is in
    let same = ok_is (c.in-Ok.ensures.read_back label is.label_is (c.split_at.ensures.back ∙ parts.2)) in
    let so = c.if-not-is_same.ensures.1 (ap (λ (l : VolumeLabel). l.name) same ∙ is.name_is) in absurd cc

pub returns-clause-some : goal.returns-clause-some
returns-clause-some c = record {
  label_is = c.in-Ok.ensures.label.0;
  name_is = c.if-not-is_same.ensures.0 refl;
  block_is = is_label_block c.args.block.now c.args.head.now _ c.requires (c.if-not-is_label_head.ensures.0 refl) (sym c.split_at.ensures.back ∙ c.in-Ok.ensures.label.1);
}
