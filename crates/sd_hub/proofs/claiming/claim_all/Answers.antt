use Rattle.std.proofs.Common.{refl, sym, ap, ◌∙◌, arith, Some, Err, length}
use Rattle.std.proofs.lemmas.Option.{slice_get_read}
use Rattle.sd_desk.specs.Desk.{claim_of, claimed_by, new_claim}
use Rattle.sd_hub.proofs.Claims.{all_claimed, is_free, one_more}
use Rattle.sd_hub.proofs.claiming.claim_all.Goals as goal

pub unreachable-requires : goal.unreachable-requires
unreachable-requires c =
    let all = c.args.volumes.now in
    let at = c.loop-volume.volume-index in
    let v = c.volume-item.result in
    let there = slice_get_read all (length all) at v refl c.loop-volume-test.true c.volume-item.is in
    let free = is_free all at v c.requires there c.loop-volume.desk c.loop-volume.invariant in
    c.claim.ensures.taken.0 (c.in-Err-AlreadyLabelled.is ∙ ap Err c.in-Err-AlreadyLabelled.field-0-is) (ap (claimed_by c.loop-volume.desk) c.name.ensures ∙ free)

pub loop-volume-preserved : goal.loop-volume-preserved
loop-volume-preserved c =
    let all = c.args.volumes.now in
    let at = c.loop-volume.volume-index in
    let v = c.volume-item.result in
    let there = slice_get_read all (length all) at v refl c.loop-volume-test.true c.volume-item.is in
    one_more all at v c.requires there c.loop-volume.desk c.claim.new.self c.loop-volume.invariant
    (ap (claim_of c.claim.new.self) (sym c.name.ensures) ∙ (c.in-Ok.ensures.claimed ∙ ap (λ n. Some (new_claim n)) c.only_drive.ensures))
    (λ other apart. c.in-Ok.ensures.others other (λ same. apart (same ∙ c.name.ensures))) c.claim.ensures.requests

pub returns : goal.returns
returns c = all_claimed c.args.volumes.now c.loop-volume.volume-index c.loop-volume.desk c.loop-volume.invariant (omega arith)
