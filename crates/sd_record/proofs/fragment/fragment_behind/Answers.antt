use Rattle.std.proofs.Common.{◌^◌, ◌<◌, refl, ap, ◌∙◌, rules, length, take, min}
use Rattle.std.specs.Prelude.{FitsSigned}
use Rattle.std.specs.Int.{w32}
use Rattle.std.proofs.lemmas.Int.{to_z-of_z}
use Rattle.sd_record.proofs.HeaderLemmas.{stands_there}
use Rattle.sd_record.proofs.fragment.fragment_behind.Goals as goal

pub returns : goal.returns
returns c =
    let h = c.args.header in
    let index : FitsSigned w32 h.index = search rules in
    let stream : FitsSigned w32 h.stream = search rules in
    let size : h.size < 2 ^ 32 = search rules in
    let cut =
    c.split_at-2.ensures.front ∙ ap (λ k. take k c.split_at.result.1.now) c.min.ensures
    ∙ ap (λ l. take (min (length l) h.size) l) c.split_at.ensures.back in
    simp to_z-of_z (stands_there c.args.body.now c.split_at-2.result.0.now c.args.at _ h.index h.stream h.size c.requires.there index stream size c.requires.named c.requires.header cut refl)
