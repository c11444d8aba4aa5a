use Rattle.std.proofs.Common.{suc, ◌∙◌}
use Rattle.sd_plain.proofs.TalkLemmas.{held_more, keeps_same}
use Rattle.sd_plain.proofs.talks.hold_talks.Goals as goal

pub returns-then-ne-clause-talks : goal.returns-then-ne-clause-talks
returns-then-ne-clause-talks g c =
    let b = c.loop-held.invariant in
    let rest = g.R.Read.remaining c.talk-talked.new.reader in
    let more = held_more (g.P.SessionPort.clock c.args.port.now) (g.R.Read.remaining c.args.reader.now) (g.R.Read.remaining c.loop-held.reader)
    (g.R.Read.remaining c.talk-talked.new.reader) (g.P.SessionPort.asked c.args.port.now) (g.P.SessionPort.asked c.talk-talked.new.port)
    b.1.0 b.0 b.1.1 c.fill_buf.follows.holds-at-none.0 c.talk-talked.ensures.talks.1 in
    (suc b.1.0, rest, more, keeps_same rest, λ is. absurd (let clash = is in cc))

pub loop-held-preserved : goal.loop-held-preserved
loop-held-preserved g c =
    let b = c.loop-held.invariant in
    let more = held_more (g.P.SessionPort.clock c.args.port.now) (g.R.Read.remaining c.args.reader.now) (g.R.Read.remaining c.loop-held.reader)
    (g.R.Read.remaining c.talk-talked.new.reader) (g.P.SessionPort.asked c.args.port.now) (g.P.SessionPort.asked c.talk-talked.new.port)
    b.1.0 b.0 b.1.1 c.fill_buf.follows.holds-at-none.0 c.talk-talked.ensures.talks.1 in
    (c.talk-talked.ensures.clock ∙ b.0, (suc b.1.0, more))
