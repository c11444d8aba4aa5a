use Rattle.std.proofs.Common.{◌≡◌, ap, subst, sym, ◌∙◌, inr}
use Rattle.sd_pack.specs.Body.{empty_body}
use Rattle.sd_session.specs.Session.{SessionView, IsPacked}
use Rattle.sd_session.proofs.PackedLemmas.{nothing_left, some_sent}
use Rattle.sd_session.proofs.session.Session.may_close.Goals as goal

pub returns-clause-ok : goal.returns-clause-ok
returns-clause-ok g c =
    let is = c.self.view_is in
    let now = c.args.self.now in
    let closed : now.packer.open_body ≡ empty_body =
    ap (λ (v : SessionView). v.packer.open_body) (sym is) ∙ c.self.invariant.else_closed (λ active. cc (active, c.in-Ended.is)) in
    record {
      ended = ap (λ (v : SessionView). v.status) (sym is) ∙ c.in-Ended.is;
      sound = c.if-progress.false;
      none_left = nothing_left now closed (λ some. cc (c.if-has_due.ensures.due.1 some));
      all_synced = c.if-progress-self.false ∙ ap (λ (v : SessionView). v.sent) is;
      some_sent = some_sent now (subst IsPacked is (c.self.invariant.packed (inr c.in-Ended.is))) closed (c.has_due.ensures.none c.if-has_due.false);
    }
