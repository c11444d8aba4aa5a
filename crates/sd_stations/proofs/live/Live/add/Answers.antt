use Rattle.std.proofs.Common.{◌≡◌, ap, subst, sym, [], rules}
use Rattle.std.specs.Prelude.{Err}
use Rattle.sd_base.specs.declared.refusal.Refusal.{Refusal}
use Rattle.sd_base.specs.declared.refusal.Refusal.TheVariants.{Busy, SessionFailed}
use Rattle.sd_line.proofs.GoLemmas.{goes_first}
use Rattle.sd_line.specs.Goes.{GoesOn}
use Rattle.sd_line.specs.Parts.{PartIs}
use Rattle.sd_session.specs.Session.{AppendRefused, SessionView}
use Rattle.sd_stations.specs.Sends.{SendRefused, SendsOn}
use Rattle.sd_stations.proofs.SendLemmas.{SentFor, send_refused, sent_for}
use Rattle.sd_stations.proofs.live.Live.add.Goals as goal

pub returns-in_err-halted-clause-why : goal.returns-in_err-halted-clause-why
returns-in_err-halted-clause-why g c =
    let r = c.args.rec.now in
    let so_far = c.self.inside.part in
    let first = c.args.self.now in
    let sent : SentFor r first.session so_far.session = subst (λ (p : PartIs). SentFor r first.session p.session) (sym c.self.view_is) c.loop-tried.invariant.sent in
    let new = c.send_on.new.self in
    let why = c.in_err-halted.field-0.0 in
    let busy : AppendRefused so_far.session r Busy = subst (λ (f : Refusal). AppendRefused so_far.session r f) c.in-Err-Busy.field-0-is c.in-Err-Busy.ensures.why in
    let refused : SendRefused SessionFailed so_far.session why new.session =
    subst (λ (s : SessionView). SendRefused SessionFailed s why new.session) (ap (λ (p : PartIs). p.session) c.in-Err-Busy.ensures.err) c.in_err-halted.ensures.err in
    let answer : c.from_residual.result ≡ Err why = search rules in
    rw answer (send_refused r why first.session so_far.session new.session sent busy refused)

pub loop-tried-preserved : goal.loop-tried-preserved
loop-tried-preserved g c =
    let r = c.args.rec.now in
    let so_far = c.self.inside.part in
    let first = c.args.self.now in
    let sent : SentFor r first.session so_far.session = subst (λ (p : PartIs). SentFor r first.session p.session) (sym c.self.view_is) c.loop-tried.invariant.sent in
    let new = c.send_on.new.self in
    let busy : AppendRefused so_far.session r Busy = subst (λ (f : Refusal). AppendRefused so_far.session r f) c.in-Err-Busy.field-0-is c.in-Err-Busy.ensures.why in
    let goes : GoesOn so_far [] new = subst (λ (p : PartIs). GoesOn p [] new) c.in-Err-Busy.ensures.err c.in_ok-halted.ensures.goes_on in
    let sends : SendsOn so_far.session new.session = subst (λ (s : SessionView). SendsOn s new.session) (ap (λ (p : PartIs). p.session) c.in-Err-Busy.ensures.err) c.in_ok-halted.ensures.ok in
    record {
      goes = goes_first first so_far new [] (subst (λ (p : PartIs). GoesOn first [] p) (sym c.self.view_is) c.loop-tried.invariant.goes) goes;
      sent = sent_for r first.session so_far.session new.session sent busy sends;
    }
