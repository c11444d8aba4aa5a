use Rattle.std.proofs.Common.{◌≡◌, ◌≢◌, sym, ◌∙◌}
use Rattle.sd_hub.proofs.FaultLemmas.{has_keys, has_lanes, has_synced, key_double, key_unsynced, lane_missing, no_lane}
use Rattle.sd_hub.proofs.checking.fault_of_lanes.Goals as goal

pub returns-then-own-wanted-clause-fault : goal.returns-then-own-wanted-clause-fault
returns-then-own-wanted-clause-fault g c = λ line receipts same.
    let apart : c.args.side.now.no ≢ c.args.no = λ e. c.if-own-wanted.true (c.get-own.ensures.value ∙ (c.no.ensures ∙ (e ∙ sym c.get-wanted.ensures.value))) in
    no_lane line c.args.side.now c.args.ends.now receipts c.args.no c.lanes-lanes.result same c.lanes-lanes.ensures.lanes apart

pub returns-in-Some-clause-fault : goal.returns-in-Some-clause-fault
returns-in-Some-clause-fault g c = λ line receipts same.
    let here : c.args.side.now.no ≡ c.args.no = sym c.no.ensures ∙ (sym c.get-own.ensures.value ∙ (c.if-own-wanted.false ∙ c.get-wanted.ensures.value)) in
    lane_missing line c.args.side.now c.args.ends.now receipts c.args.no c.lanes-lanes.result same c.lanes-lanes.ensures.lanes c.in-Some.lane here c.in-Some.ensures.some

pub returns-in-Some-double_key-clause-fault : goal.returns-in-Some-double_key-clause-fault
returns-in-Some-double_key-clause-fault g c = λ line receipts same.
    let here : c.args.side.now.no ≡ c.args.no = sym c.no.ensures ∙ (sym c.get-own.ensures.value ∙ (c.if-own-wanted.false ∙ c.get-wanted.ensures.value)) in
    let lanes = has_lanes line c.args.side.now c.args.ends.now receipts c.args.no c.lanes-lanes.result same c.lanes-lanes.ensures.lanes here c.in_default.ensures.none in
    key_double line c.args.side.now c.args.ends.now receipts c.args.no c.lanes-lanes.result same c.lanes-lanes.ensures.lanes c.in-Some-double_key.key lanes c.in-Some-double_key.ensures.some

pub returns-in-Some-unsynced-clause-fault : goal.returns-in-Some-unsynced-clause-fault
returns-in-Some-unsynced-clause-fault g c = λ line receipts same.
    let here : c.args.side.now.no ≡ c.args.no = sym c.no.ensures ∙ (sym c.get-own.ensures.value ∙ (c.if-own-wanted.false ∙ c.get-wanted.ensures.value)) in
    let lanes = has_lanes line c.args.side.now c.args.ends.now receipts c.args.no c.lanes-lanes.result same c.lanes-lanes.ensures.lanes here c.in_default.ensures.none in
    let keys = has_keys line c.args.side.now c.args.ends.now receipts c.args.no c.lanes-lanes.result same c.lanes-lanes.ensures.lanes lanes c.in_default-double_key.ensures.none in
    key_unsynced line c.args.side.now c.args.ends.now receipts c.args.no c.lanes-lanes.result same c.lanes-lanes.ensures.lanes c.in-Some-unsynced.key keys (rw c.drive.ensures at c.in-Some-unsynced.ensures.some)

pub returns-clause-none : goal.returns-clause-none
returns-clause-none g c = λ line receipts same.
    let here : c.args.side.now.no ≡ c.args.no = sym c.no.ensures ∙ (sym c.get-own.ensures.value ∙ (c.if-own-wanted.false ∙ c.get-wanted.ensures.value)) in
    let lanes = has_lanes line c.args.side.now c.args.ends.now receipts c.args.no c.lanes-lanes.result same c.lanes-lanes.ensures.lanes here c.in_default.ensures.none in
    let keys = has_keys line c.args.side.now c.args.ends.now receipts c.args.no c.lanes-lanes.result same c.lanes-lanes.ensures.lanes lanes c.in_default-double_key.ensures.none in
    has_synced line c.args.side.now c.args.ends.now receipts c.args.no c.lanes-lanes.result same c.lanes-lanes.ensures.lanes keys (rw c.drive.ensures at c.in_default-unsynced.ensures.none)
