use Rattle.sd_hub.specs.Settles.{line_of}
use Rattle.sd_hub.proofs.Becomes.{comes_back, from_line}
use Rattle.sd_hub.proofs.settling.settle.Goals as goal

pub returns-in-Ok-with_desk-clause-settled : goal.returns-in-Ok-with_desk-clause-settled
returns-in-Ok-with_desk-clause-settled g c =
    let same = c.in-Ok.ensures.ok in
    let checked = c.in-Ok.checked in
    (from_line (λ d. g.D.Driver.meaning d) g.N.Naming.table g.N.Naming.time checked.line c.args.line checked.ends c.args.ends.items checked.receipts c.args.receipts.items c.make_world.result
    same.0 same.1 same.2 c.make_world.ensures.matches).0

pub returns-in-Ok-with_desk-clause-matches : goal.returns-in-Ok-with_desk-clause-matches
returns-in-Ok-with_desk-clause-matches g c =
    let same = c.in-Ok.ensures.ok in
    let checked = c.in-Ok.checked in
    from_line (λ d. g.D.Driver.meaning d) g.N.Naming.table g.N.Naming.time checked.line c.args.line checked.ends c.args.ends.items checked.receipts c.args.receipts.items c.make_world.result
    same.0 same.1 same.2 c.make_world.ensures.matches

pub returns-in-Err-with_desk-clause-err : goal.returns-in-Err-with_desk-clause-err
returns-in-Err-with_desk-clause-err g c =
    let same = c.in-Ok.ensures.ok in
    let checked = c.in-Ok.checked in
    let back = c.give_back.result in
    comes_back (λ d. g.D.Driver.meaning d) g.N.Naming.table g.N.Naming.time (line_of back.parts.no back.parts.media back.parts.limits back.parts.queue) checked.line c.args.line back.parts.side back.ends.items checked.ends c.args.ends.items checked.receipts c.args.receipts.items
    back.receipts.items back.fault same.0 same.1 same.2 c.give_back.ensures.line c.give_back.ensures.ends c.give_back.ensures.why
