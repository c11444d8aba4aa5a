use Rattle.std.proofs.Common.{◌≡◌, ◌∙◌, ap, sym, refl, cond, Some, None}
use Rattle.std.specs.HashMap.{get_by}
use Rattle.std.specs.Map.{lookup}
use Rattle.std.specs.Option.{option_copied_mut}
use Rattle.std.proofs.lemmas.Map.Steps.{set_value_same}
use Rattle.sd_base.specs.Key.{is_key}
use Rattle.sd_journal.specs.Share.{share_of, SameShares}
use Rattle.sd_journal.proofs.ShareLemmas.{insert_step, on_err}
use Rattle.sd_journal.proofs.shares.Shares.ready.Goals as goal

pub returns-in_err-ready-clause-err : goal.returns-in_err-ready-clause-err
returns-in_err-ready-clause-err c =
    let w = c.ready.new.self in
    let was : Some w ≡ lookup (is_key c.args.key) c.args.self.now.sessions.entries = ap Some c.in_err-ready.ensures.err ∙ c.in-Some.ensures.value in
    let same = (c.get_mut.follows.holds w).0 ∙ set_value_same (is_key c.args.key) c.args.self.now.sessions.entries w (sym was) in
    on_err c.from_residual.result (SameShares c.args.self.now (record { sessions = c.get_mut.follows.lender w })) (λ key. ap (lookup (is_key key)) same)

pub returns-clause-ok : goal.returns-clause-ok
returns-clause-ok c = λ other.
    let key = c.args.key in
    let none : share_of c.args.self.now key ≡ None = sym c.get_mut.ensures.value ∙ ap option_copied_mut c.in_default.is in
    c.in-Ok.ensures.updates.0 other
    ∙ ap (λ m. cond (is_key key other) (Some c.in_ok-share.share) (get_by (is_key other) m)) c.get_mut.follows.holds-at-none
    ∙ ap (λ s. cond (is_key key other) (Some s) (share_of c.args.self.now other)) c.in_ok-share.ensures
    ∙ insert_step (share_of c.args.self.now) key other (is_key key other) refl none
