use Rattle.std.proofs.Common.{refl, sym, subst, List, length}
use Rattle.std.proofs.lemmas.Option.{slice_get_read, slice_get_within}
use Rattle.sd_drive.specs.Receipt.{ReceiptIs}
use Rattle.sd_hub.specs.Settles.{FaultOf, checked_of}
use Rattle.sd_hub.specs.declared.fault.SettleFault.TheVariants.{Foreign}
use Rattle.sd_hub.proofs.FaultLemmas.{all_given, is_foreign, one_foreign}
use Rattle.sd_hub.proofs.checking.look.Goals as goal

pub returns-in-Some-clause-fault : goal.returns-in-Some-clause-fault
returns-in-Some-clause-fault g c = λ line own. c.in-Some.ensures.fault line c.args.receipts.now.items own

pub returns-in_default-with_room-clause-fault : goal.returns-in_default-with_room-clause-fault
returns-in_default-with_room-clause-fault g c = λ line own. (refl, c.in_default.ensures.none line c.args.receipts.now.items own)

pub returns-in_default-foreign-clause-fault : goal.returns-in_default-foreign-clause-fault
returns-in_default-foreign-clause-fault g c = λ line own. (refl, c.in_default.ensures.none line c.args.receipts.now.items own)

pub returns-in-None-clause-passes : goal.returns-in-None-clause-passes
returns-in-None-clause-passes g c = λ line own. record {
  synced = c.in_default.ensures.none line c.args.receipts.now.items own;
  given = all_given c.in-Ok-foreign.found c.drive.result.now c.args.side.now.drive c.as_slice.result.now c.args.receipts.now.items c.in-None.is c.drive.ensures c.as_slice.ensures.value
      c.in-Ok-foreign.ensures.none;
}

pub returns-in-Some-found-clause-fault : goal.returns-in-Some-found-clause-fault
returns-in-Some-found-clause-fault g c = λ line own.
    let all = c.args.receipts.now.items in
    let at = c.in-Some-found.at in
    let out = c.remove.result in
    let checked = checked_of line c.args.side.now c.args.ends.now all in
    let one = one_foreign c.in-Ok-foreign.found at c.drive.result.now c.args.side.now.drive c.as_slice.result.now all c.in-Some-found.is c.drive.ensures c.as_slice.ensures.value c.in-Ok-foreign.ensures.some in
    let there = slice_get_read all (length all) at out refl (slice_get_within all at one.0 one.1) c.remove.ensures.value in
    subst (λ (left : List ReceiptIs). FaultOf checked (Foreign out) left) (sym c.remove.ensures.items)
    (is_foreign checked at one.0 out (c.in_default.ensures.none line all own) one.1 one.2 there)
