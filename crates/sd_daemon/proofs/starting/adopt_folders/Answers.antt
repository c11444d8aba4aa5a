use Rattle.std.proofs.Common.{All, arith, subst, sym}
use Rattle.std.specs.List.{AllZip}
use Rattle.std.proofs.lemmas.List.{with_items_is}
use Rattle.sd_daemon.specs.Setup.{IsUnknown, IsUnusedOf}
use Rattle.sd_daemon.proofs.StartLemmas.{all_kept, all_unknown}
use Rattle.sd_daemon.proofs.starting.adopt_folders.Goals as goal

pub adopt_planned-requires-clause-unknown : goal.adopt_planned-requires-clause-unknown
adopt_planned-requires-clause-unknown g c κs within = subst (All IsUnknown) (sym c.deref_mut.ensures.value)
    (all_unknown c.args.run.now.conf.now c.args.run.now.time c.args.run.now.conf.now.drives c.args.drives.now.items c.requires)

pub returns-in_err-adopt_planned-clause-unused : goal.returns-in_err-adopt_planned-clause-unused
returns-in_err-adopt_planned-clause-unused g c =
    let same = c.adopt_planned.auto.drives in
    let len = c.deref_mut.ensures.len in
    let conf = c.args.run.now.conf.now in
    let given = subst (AllZip (IsUnusedOf conf c.args.run.now.time) conf.drives) (sym c.deref_mut.ensures.value) c.requires in
    subst (AllZip (IsUnusedOf conf c.args.run.now.time) conf.drives) (sym (with_items_is c.args.drives.now c.adopt_planned.new.drives (omega (arith, same, len))))
    (all_kept conf c.args.run.now.time conf.drives c.deref_mut.result.now c.adopt_planned.new.drives (omega (arith, same)) (λ at u lt. (c.adopt_planned.ensures at u lt).0) given)

pub returns-clause-unused : goal.returns-clause-unused
returns-clause-unused g c =
    let same = c.adopt_planned.auto.drives in
    let len = c.deref_mut.ensures.len in
    let conf = c.args.run.now.conf.now in
    let given = subst (AllZip (IsUnusedOf conf c.args.run.now.time) conf.drives) (sym c.deref_mut.ensures.value) c.requires in
    subst (AllZip (IsUnusedOf conf c.args.run.now.time) conf.drives) (sym (with_items_is c.args.drives.now c.adopt_planned.new.drives (omega (arith, same, len))))
    (all_kept conf c.args.run.now.time conf.drives c.deref_mut.result.now c.adopt_planned.new.drives (omega (arith, same)) (λ at u lt. (c.adopt_planned.ensures at u lt).0) given)
