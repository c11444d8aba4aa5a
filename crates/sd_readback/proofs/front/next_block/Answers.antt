use Rattle.std.proofs.Common.{inl, inr, ap, sym, subst, arith, Err}
use Rattle.std.proofs.lemmas.List.{take_all}
use Rattle.std.proofs.lemmas.Result.{err_from_is_err_and}
use Rattle.sd_block.specs.Fault.{HasBadSum}
use Rattle.sd_readback.specs.Faults.{ComesNext}
use Rattle.sd_readback.proofs.FrontLemmas.{IsOpenFault, sum_is_bad, number_said}
use Rattle.sd_readback.proofs.ReaderLemmas.{if_err}
use Rattle.sd_readback.proofs.front.next_block.Goals as goal

pub returns-in_err-block-clause-why : goal.returns-in_err-block-clause-why
returns-in_err-block-clause-why c =
    let p = err_from_is_err_and c.from_residual.result c.from_residual.ensures.1 in
    let clauses = c.in_err-block.ensures in
    let image = c.args.bytes.now in
    let why : IsOpenFault image c.in_err-block.field-0.0 = record {
      short = λ e. clauses.short.0 (ap Err e);
      bad_id = λ e. (clauses.bad_id.0 (ap Err e)).1;
      bad_size = λ e. (clauses.bad_size.0 (ap Err e)).2;
      bad_sum = λ e. (clauses.bad_sum.0 (ap Err e)).3;
    } in
    if_err c.from_residual.result p.0 _ p.1
    (λ head is size. inl (subst HasBadSum (sym (take_all head.size image (omega arith))) (sum_is_bad image head c.in_err-block.field-0.0 is (sym size) why)))

pub returns-then-not-comes_next-clause-why : goal.returns-then-not-comes_next-clause-why
returns-then-not-comes_next-clause-why c = λ head is size.
    let block = c.in_ok-block.block in
    let same = number_said c.args.bytes.now block.key block.number block.body.now head c.in_ok-block.ensures.block is in
    inr (λ next. let so = c.if-not-comes_next.ensures.1 (subst (ComesNext c.args.last) same next) in cc)
