use Rattle.std.proofs.Common.{inl, inr, ap, sym, ◌∙◌, subst, arith, Err}
use Rattle.std.proofs.lemmas.Result.{err_from_is_err_and}
use Rattle.sd_base.specs.Limits.{most_block}
use Rattle.sd_block.specs.Head.{IsHeadOf}
use Rattle.sd_volume.proofs.DeviceLemmas.{OnlyReads-trans, OnlyReads-as}
use Rattle.sd_readback.specs.Device.{stretch}
use Rattle.sd_readback.specs.Faults.{BeginsWithNoBlock}
use Rattle.sd_readback.proofs.DeviceLemmas.{reading_still, shown_there, OnlyReads-reading}
use Rattle.sd_readback.proofs.FrontLemmas.{IsHeadFault, head_from_front, head_is_bad, length-stretch, stretch_front}
use Rattle.sd_readback.proofs.ReaderLemmas.{if_err}
use Rattle.sd_readback.proofs.front.show_block.Goals as goal

pub returns-in_err-head-clause-none : goal.returns-in_err-head-clause-none
returns-in_err-head-clause-none g c = λ bytes is.
    let first = c.in_ok-fill.ensures in
    let rest = stretch c.args.at c.args.end bytes in
    let long = length-stretch c.args.at c.args.end bytes c.requires is.long in
    let still = reading_still _ _ _ _ _ _ bytes first.device first.name first.shows is in
    let shown = c.shown.ensures.shown ∙ shown_there _ _ c.args.at 24 c.args.end bytes still (first.shown is.honest is.shows) ∙ stretch_front c.args.at c.args.end 24 bytes (omega (arith, c.if-left.false)) in
    let clauses = c.in_err-head.ensures in
    let fault = c.in_err-head.field-0.0 in
    let why : IsHeadFault c.shown.result.now fault = record {
      short = λ e. clauses.short.0 (ap Err e);
      bad_id = λ e. (clauses.bad_id.0 (ap Err e)).1;
      bad_size = λ e. (let b = clauses.bad_size.0 (ap Err e) in (b.1, b.2));
      no_sum = λ e. clauses.no_sum (ap Err e);
    } in
    let p = err_from_is_err_and c.from_residual-in_err-head.result c.from_residual-in_err-head.ensures.1 in
    if_err c.from_residual-in_err-head.result p.0 _ p.1
    (λ of last. subst (λ f. BeginsWithNoBlock f last rest) (sym p.2)
    (omega (arith, long, c.if-left.false), inl (head_is_bad rest fault (omega (arith, long, c.if-left.false)) (subst (λ l. IsHeadFault l fault) shown why))))

pub returns-then-head-left-clause-none : goal.returns-then-head-left-clause-none
returns-then-head-left-clause-none g c = λ bytes is of last.
    let first = c.in_ok-fill.ensures in
    let rest = stretch c.args.at c.args.end bytes in
    let long = length-stretch c.args.at c.args.end bytes c.requires is.long in
    let still = reading_still _ _ _ _ _ _ bytes first.device first.name first.shows is in
    let shown = c.shown.ensures.shown ∙ shown_there _ _ c.args.at 24 c.args.end bytes still (first.shown is.honest is.shows) ∙ stretch_front c.args.at c.args.end 24 bytes (omega (arith, c.if-left.false)) in
    let head = c.in_ok-head.head in
    inr (
      head,
      head_from_front rest head (omega (arith, long, c.if-left.false)) (subst (λ l. IsHeadOf most_block l head) shown c.in_ok-head.ensures.head),
      omega (arith, long, c.if-head-left.true),
    )

pub returns-in_err-fill-2-clause-device : goal.returns-in_err-fill-2-clause-device
returns-in_err-fill-2-clause-device g c =
    let p = err_from_is_err_and c.from_residual-in_err-fill-2.result c.from_residual-in_err-fill-2.ensures.1 in
    rw (p.1, p.2) (OnlyReads-trans _ _ _ _ _ (λ f. cc) c.in_ok-fill.ensures.device (OnlyReads-reading c.in_err-fill-2.field-0.0 _ _ c.in_err-fill-2.ensures.faults c.in_err-fill-2.ensures.device))

pub returns-clause-device : goal.returns-clause-device
returns-clause-device g c =
    OnlyReads-trans _ _ _ _ _ (λ f. cc) c.in_ok-fill.ensures.device (OnlyReads-as _ _ _ _ (λ f. cc) (λ f. cc) c.in_ok-fill-2.ensures.device)

pub returns-clause-shown : goal.returns-clause-shown
returns-clause-shown g c = λ bytes is.
    let first = c.in_ok-fill.ensures in
    let second = c.in_ok-fill-2.ensures in
    let rest = stretch c.args.at c.args.end bytes in
    let long = length-stretch c.args.at c.args.end bytes c.requires is.long in
    let still = reading_still _ _ _ _ _ _ bytes first.device first.name first.shows is in
    let last = reading_still _ _ _ _ _ _ bytes second.device second.name second.shows still in
    let shown = c.shown.ensures.shown ∙ shown_there _ _ c.args.at 24 c.args.end bytes still (first.shown is.honest is.shows) ∙ stretch_front c.args.at c.args.end 24 bytes (omega (arith, c.if-left.false)) in
    let head = c.in_ok-head.head in
    record {
      head = head;
      head_is = head_from_front rest head (omega (arith, long, c.if-left.false)) (subst (λ l. IsHeadOf most_block l head) shown c.in_ok-head.ensures.head);
      within = omega (arith, long, c.if-head-left.false);
      shown_is = shown_there _ _ c.args.at head.size c.args.end bytes last (second.shown still.honest still.shows) ∙ stretch_front c.args.at c.args.end head.size bytes (omega (arith, c.if-head-left.false));
    }
