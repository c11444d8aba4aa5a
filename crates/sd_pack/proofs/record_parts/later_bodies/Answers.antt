use Rattle.std.proofs.Common.{◌≡◌, ◌+◌, ◌-◌, ◌≤◌, ap, sym, subst, ◌∙◌, arith, length, drop, ◌++◌, [], ◌∷◌}
use Rattle.std.proofs.lemmas.List.{drop-drop, length-drop}
use Rattle.sd_pack.specs.Body.{with_fragment, empty_body}
use Rattle.sd_pack.specs.RecordParts.{later_fragment, LaterBodies}
use Rattle.sd_pack.specs.KeptPacker.{AreWithin}
use Rattle.sd_pack.proofs.KeptLemmas.{AreWithin-append, with_fragment_within}
use Rattle.sd_pack.proofs.PackingLemmas.{one_later, later_length}
use Rattle.sd_pack.proofs.record_parts.later_bodies.Goals as goal

pub loop-at-preserved : goal.loop-at-preserved
loop-at-preserved c =
    let r = c.args.rec.now in
    let at = c.loop-at.at in
    let count = c.min-count.result in
    let rest = drop at r.bytes in
    let before = c.loop-at.later.items in
    let f = later_fragment r rest count in
    let seen : length c.rec.inside.bytes ≡ length r.bytes = ap (λ v. length v.bytes) c.rec.view_is in
    let left = length-drop at r.bytes in
    let within : count ≤ length rest = omega arith in
    let long = later_length r rest count within in
    let same : (at + count) - at ≡ count = omega arith in
    let body = c.in_ok-body.ensures ∙ ap (with_fragment empty_body) (c.later_part.ensures ∙ ap (later_fragment r rest) same) in
    let items = c.in_ok-push_back.ensures.items ∙ ap (λ b. before ++ b ∷ []) body in
    let step = one_later c.args.room r (drop c.args.from r.bytes) rest before count c.loop-at.invariant.1 (omega arith) within (omega arith) (λ more. omega arith) in (
      omega arith,
      subst (λ l. LaterBodies c.args.room r (drop c.args.from r.bytes) l c.push_back.new.self.items) (drop-drop count at r.bytes) (subst (LaterBodies c.args.room r (drop c.args.from r.bytes) (drop count rest)) (sym items) step),
      subst (AreWithin c.args.room) (sym items) (AreWithin-append c.args.room before (with_fragment empty_body f ∷ []) c.loop-at.invariant.2 (with_fragment_within c.args.room empty_body f (omega arith), tt)),
    )
