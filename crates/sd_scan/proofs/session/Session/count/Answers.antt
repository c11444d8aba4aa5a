use Rattle.std.proofs.Common.{◌≡◌, rules, refl}
use Rattle.sd_scan.proofs.SessionLemmas.{count_none, count_more}
use Rattle.sd_scan.proofs.session.Session.count.Goals as goal

pub loop-rec-init : goal.loop-rec-init
loop-rec-init c = count_none c.args.self.now

pub loop-rec-preserved : goal.loop-rec-preserved
loop-rec-preserved c =
    count_more c.args.self.now c.loop-rec.self c.take_record.new.self c.in-Some.rec c.saturating_add-self.result c.saturating_add-self-in-Some.result c.loop-rec.invariant
    c.in-Some.ensures.first c.saturating_add-self.ensures (search rules)
