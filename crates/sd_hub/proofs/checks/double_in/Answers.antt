use Rattle.std.proofs.Common.{◌≡◌, ◌<◌, refl, ap, ◌∙◌, arith, length}
use Rattle.std.proofs.lemmas.Option.{slice_get_read}
use Rattle.sd_base.specs.declared.number.SessionKey.{SessionKey}
use Rattle.sd_base.proofs.ChoiceLemmas.{none_all, none_more}
use Rattle.sd_line.specs.Ends.{ToldSession}
use Rattle.sd_hub.specs.Settles.{sessions_to, times_of}
use Rattle.sd_hub.proofs.checks.double_in.Goals as goal

pub loop-told-preserved : goal.loop-told-preserved
loop-told-preserved g c =
    let all = sessions_to c.args.no c.args.lanes c.args.ends.now in
    let sessions = c.args.sessions.now in
    let at = c.loop-told.told-index in
    let s = c.told-item.result in
    let there = slice_get_read sessions (length sessions) at s refl c.loop-told-test.true c.told-item.is in
    let many : c.times.result ≡ times_of s.session.key all = c.times.ensures ∙ ap (λ (k : SessionKey). times_of k all) c.key_of-key.ensures in
    none_more (λ (x : ToldSession). 1 < times_of x.session.key all) sessions at s c.loop-told.invariant there (λ more. omega (arith, more, many))

pub returns-clause-none : goal.returns-clause-none
returns-clause-none g c =
    let all = sessions_to c.args.no c.args.lanes c.args.ends.now in
    none_all (λ (x : ToldSession). 1 < times_of x.session.key all) c.args.sessions.now c.loop-told.told-index c.loop-told-test.false c.loop-told.invariant
