use Rattle.std.proofs.Common.{◌≡◌, ◌+◌, refl, ap, sym, ◌∙◌, length, [], Ok}
use Rattle.std.proofs.lemmas.List.{append-nil}
use Rattle.std.proofs.lemmas.Option.{some_pair_parts}
use Rattle.sd_record.specs.Fragment.{Fragment, fragment_bytes}
use Rattle.sd_record.proofs.FragmentLemmas.{length-fragment_bytes}
use Rattle.sd_label.proofs.AnswerLemmas.{same_ok}
use Rattle.sd_label.proofs.record.whole_record.Goals.{then-next-bytes-via-then-next-bytes, then-next-bytes-via-else-next-bytes+then-record}
use Rattle.sd_label.proofs.record.whole_record.Goals as goal

pub returns-then-next-bytes-clause-read_back : goal.returns-then-next-bytes-clause-read_back
returns-then-next-bytes-clause-read_back c f fits whole e =
    let found = same_ok _ _ (c.in-Ok-Some.ensures.read_back f [] fits (λ more. refl) (e ∙ sym (append-nil (fragment_bytes f)))) in
    let parts = some_pair_parts c.in-Ok-Some.record f c.in-Ok-Some.next (12 + length f.part) (sym c.in-Ok-Some.field-0-is ∙ found) in
    let long : length c.args.bytes.now ≡ 12 + length f.part = ap length e ∙ length-fragment_bytes f in
    let size : c.record.inside.size ≡ f.size = ap (λ (g : Fragment). g.size) (c.record.view_is ∙ parts.0) in
    let part : length c.record.inside.part.now ≡ length f.part = ap (λ (g : Fragment). length g.part) (c.record.view_is ∙ parts.0) in
    absurd (elim c.then-next-bytes.branch [
      | then-next-bytes-via-then-next-bytes w ↦ w.if-next-bytes.true (parts.1 ∙ sym long)
      | then-next-bytes-via-else-next-bytes+then-record w ↦ w.if-record.true (size ∙ whole ∙ sym part)
    ])

pub returns-clause-read_back : goal.returns-clause-read_back
returns-clause-read_back c f fits whole e =
    let found = same_ok _ _ (c.in-Ok-Some.ensures.read_back f [] fits (λ more. refl) (e ∙ sym (append-nil (fragment_bytes f)))) in
    let parts = some_pair_parts c.in-Ok-Some.record f c.in-Ok-Some.next (12 + length f.part) (sym c.in-Ok-Some.field-0-is ∙ found) in
    ap Ok parts.0
