use Rattle.std.proofs.Common.{ap, ◌∙◌, ◌++◌, rules}
use Rattle.std.specs.Prelude.{FitsSigned}
use Rattle.std.specs.Int.{w32}
use Rattle.std.proofs.lemmas.Int.{to_z-of_z}
use Rattle.std.proofs.lemmas.List.{append_assoc}
use Rattle.sd_record.specs.Fragment.{fragment_bytes}
use Rattle.sd_record.proofs.FragmentLemmas.{stands_last}
use Rattle.sd_record.proofs.fragment.put_fragment.Goals as goal

pub returns-clause-ok : goal.returns-clause-ok
returns-clause-ok c =
    let index : FitsSigned w32 c.fragment.inside.index = search rules in
    let stream : FitsSigned w32 c.fragment.inside.stream = search rules in
    let header = simp to_z-of_z at c.header_bytes-header.ensures in
    let old = c.reserve.ensures.items in
    c.in_ok-extend_from_slice-2.ensures.items
    ∙ ap (λ l. l ++ c.fragment.inside.part.now) (c.in_ok-extend_from_slice.ensures.items ∙ ap (λ l. l ++ c.header_bytes-header.result) old ∙ ap (λ l. c.args.body.now.items ++ l) header)
    ∙ append_assoc c.args.body.now.items _ c.fragment.inside.part.now
    ∙ ap (λ f. c.args.body.now.items ++ fragment_bytes f) c.fragment.view_is

pub returns-clause-read_back : goal.returns-clause-read_back
returns-clause-read_back c =
    (λ fits. stands_last _ _ _ (returns-clause-ok c) fits, λ stands. stands.fragment)
