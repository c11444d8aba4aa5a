use Rattle.std.proofs.Common.{◌≡◌, ℕ, List, Some, IsSome, ap, subst, ◌∙◌, map, slice_get}
use Rattle.sd_drive.specs.Receipt.{ReceiptIs}
use Rattle.sd_jobs.specs.Jobs.{JobEndIs}
use Rattle.sd_world.specs.World.{session_at}
use Rattle.sd_returned.specs.Backs.{asked_of}
use Rattle.sd_returned.specs.Listed.{IsAlone, lane_ends}
use Rattle.sd_returned.specs.declared.asked.Asked.{Asked}
use Rattle.sd_returned.specs.declared.asked.Wanted.{Wanted}
use Rattle.sd_returned.proofs.BackLemmas.{all_back, settled_with}
use Rattle.sd_returned.proofs.returned.come_back.Goals as goal

pub returns : goal.returns
returns g c = λ jobs each.
    let w = c.in-Ok-settle.world in
    let s = settled_with c.in-Ok-settle.ensures.settled c.in-Ok-hand_in.ensures.ends c.in-Ok-hand_in.ensures.receipts in
    let Alone : List JobEndIs → Type 0 =
    λ es. (place : ℕ) (end : JobEndIs) (r : ReceiptIs) → slice_get es place ≡ Some end → end.receipt ≡ Some r → IsAlone (lane_ends es) place r.key.id in
    let alone = subst Alone c.deref-2.ensures.value (c.are_alone.ensures c.if-not-are_alone.false) in
    let There : List Asked → Type 0 =
    λ all. (place : ℕ) (asked : Asked) (wanted : Wanted) → slice_get all place ≡ Some asked → asked.of ≡ Some wanted → IsSome (session_at wanted.key.id w.sessions) in
    let there = subst There c.deref-3.ensures.value (c.are_there.ensures c.if-not-are_there.false) in
    all_back s.table s.time s.line c.args.ends.items w c.settled_jobs_read.ensures s.from c.in-Ok-settle.ensures.sound alone c.in-Ok.all.items
    (c.in-Ok.ensures ∙ ap (map asked_of) c.deref.ensures.value) there jobs each c.read_all.result.items c.read_all.ensures
