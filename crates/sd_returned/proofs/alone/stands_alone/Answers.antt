use Rattle.std.proofs.Common.{◌≡◌, None, Some, refl, sym, ap, subst, ◌∙◌, length}
use Rattle.std.proofs.lemmas.Option.{slice_get_read}
use Rattle.sd_base.specs.declared.number.SessionKey.{SessionKey}
use Rattle.sd_drive.specs.Receipt.{ReceiptIs}
use Rattle.sd_jobs.specs.Jobs.{JobEndIs}
use Rattle.sd_returned.specs.Listed.{IsAlone, lane_ends}
use Rattle.sd_returned.proofs.alone.stands_alone.Goals as goal

pub returns-in-Some : goal.returns-in-Some
returns-in-Some g c = λ is end r at own.
    let ends = c.args.ends.now in
    let there = slice_get_read ends (length ends) c.args.place c.index-ends-place.result refl c.requires c.index-ends-place.is in
    let one : c.index-ends-place.result ≡ end = cc (sym there ∙ at) in
    let both : Some c.in-Some.receipt ≡ Some r = sym c.in-Some.is ∙ ap (λ (e : JobEndIs). e.receipt) (c.end.view_is ∙ one) ∙ own in
    let same : c.in-Some.receipt ≡ r = cc both in
    subst (IsAlone (lane_ends ends) c.args.place) (ap (λ (k : SessionKey). k.id) (c.key.ensures ∙ ap (λ (x : ReceiptIs). x.key) same)) (c.is_alone.ensures is)

pub returns-in-None : goal.returns-in-None
returns-in-None g c = λ is end r at own.
    let ends = c.args.ends.now in
    let there = slice_get_read ends (length ends) c.args.place c.index-ends-place.result refl c.requires c.index-ends-place.is in
    let one : c.index-ends-place.result ≡ end = cc (sym there ∙ at) in
    let both : None ≡ Some r = sym c.in-None.is ∙ ap (λ (e : JobEndIs). e.receipt) (c.end.view_is ∙ one) ∙ own in
    absurd (cc both)
