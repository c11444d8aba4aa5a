use Rattle.std.proofs.Common.{refl, sym, ap, ◌∙◌, Some, length}
use Rattle.std.proofs.lemmas.Option.{slice_get_read}
use Rattle.sd_base.proofs.ChoiceLemmas.{same_some}
use Rattle.sd_hub.specs.Settles.{end_at}
use Rattle.sd_hub.proofs.EndLemmas.{others_stay}
use Rattle.sd_hub.proofs.gather.take_end.Goals as goal

pub returns-clause-end : goal.returns-clause-end
returns-clause-end g c =
    let ends = c.args.ends.now.items in
    let s = rw c.as_slice.ensures.value at c.in-Some.ensures.some in
    let within = rw c.as_slice.ensures.value at c.in-Some.ensures.within in
    let there = slice_get_read ends (length ends) c.in-Some.at c.remove.result refl within c.remove.ensures.value in
    s.first ∙ ap Some (same_some (sym s.there ∙ there))

pub returns-clause-others : goal.returns-clause-others
returns-clause-others g c = λ other apart.
    let ends = c.args.ends.now.items in
    let s = rw c.as_slice.ensures.value at c.in-Some.ensures.some in
    ap (end_at c.args.no other) c.remove.ensures.items ∙ others_stay c.args.no c.args.lane ends c.in-Some.at s other apart
