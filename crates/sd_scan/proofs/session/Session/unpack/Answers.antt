use Rattle.std.proofs.Common.{◌++◌, ◌∷◌, [], refl, sym, subst, true}
use Rattle.sd_unpack.specs.Unpacking.{Unpacking}
use Rattle.sd_scan.specs.Session.{Took}
use Rattle.sd_scan.specs.declared.session.Session.{Session}
use Rattle.sd_scan.proofs.SessionLemmas.{took_more, took_stopped}
use Rattle.sd_scan.proofs.session.Session.unpack.Goals as goal

pub returns-in-Ok-clause-took : goal.returns-in-Ok-clause-took
returns-in-Ok-clause-took c = λ bodies took.
    let s : Session = record c.args.self.now { unpacker = c.add.new.self } in
    took_more bodies c.args.body.now c.args.self.now.unpacker c.add.new.self s c.count.new.self refl c.if-self.false took c.in-Ok.ensures.unpacks c.in-Ok.ensures.undamaged.1
    c.count.ensures.rest c.count.ensures.records c.count.ensures.bytes

pub returns-in-Err-Damaged-clause-took : goal.returns-in-Err-Damaged-clause-took
returns-in-Err-Damaged-clause-took c = λ bodies took.
    let self = c.args.self.now in
    let damaged = rw c.in-Err-Damaged.field-0-is at c.in-Err-Damaged.ensures.damaged in
    let never = rw c.in-Err-Damaged.field-0-is at c.in-Err-Damaged.ensures.no_cutting in
    subst (λ (u : Unpacking). Took (bodies ++ c.args.body.now ∷ []) u self.records self.bytes true) (sym damaged)
    (took_stopped bodies c.args.body.now self.unpacker c.in-Err-Damaged.field-0-0 self.records self.bytes self.damaged c.if-self.false took never)
