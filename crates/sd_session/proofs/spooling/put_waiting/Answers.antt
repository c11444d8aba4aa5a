use Rattle.std.proofs.Common.{rules, refl, inl, inr}
use Rattle.sd_session.proofs.PartLemmas.{none_waits, stays_out, would_go_in}
use Rattle.sd_session.proofs.spooling.put_waiting.Goals as goal

pub returns-in_default-clause-ok : goal.returns-in_default-clause-ok
returns-in_default-clause-ok g c = (none_waits c.args.packer.now.waiting (search rules), refl, refl)

pub returns-then-despooling-clause-ok : goal.returns-then-despooling-clause-ok
returns-then-despooling-clause-ok g c =
    (stays_out c.args.despooling c.args.spool.now c.args.packer.now.waiting c.in-Some.body.now (search rules) (inl (search rules)), refl, refl)

pub returns-in-Err-Full-clause-ok : goal.returns-in-Err-Full-clause-ok
returns-in-Err-Full-clause-ok g c =
    (stays_out c.args.despooling c.args.spool.now c.args.packer.now.waiting c.in-Some.body.now (search rules) (inr (search rules)), search rules, refl)

pub returns-in-Err-Device-clause-waits : goal.returns-in-Err-Device-clause-waits
returns-in-Err-Device-clause-waits g c =
    would_go_in c.args.despooling c.args.spool.now c.args.packer.now.waiting c.in-Some.body.now (search rules) (search rules)
    (λ over. let full = c.in-Err-Device.ensures.full.1 over in cc)

pub returns-in-Err-Memory-clause-waits : goal.returns-in-Err-Memory-clause-waits
returns-in-Err-Memory-clause-waits g c =
    would_go_in c.args.despooling c.args.spool.now c.args.packer.now.waiting c.in-Some.body.now (search rules) (search rules)
    (λ over. let full = c.in-Err-Memory.ensures.full.1 over in cc)
