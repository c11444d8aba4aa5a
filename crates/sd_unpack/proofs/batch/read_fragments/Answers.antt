use Rattle.std.proofs.Common.{◌≡◌, ◌<◌, ◌≤◌, subst, inl, inr, length, drop, rules, arith}
use Rattle.std.specs.Prelude.{Err}
use Rattle.std.proofs.lemmas.List.{drop_all}
use Rattle.sd_record.specs.Fragment.{StandsAt}
use Rattle.sd_unpack.specs.declared.damage.AddFault.TheVariants.{Damaged}
use Rattle.sd_unpack.specs.Batch.{Brings}
use Rattle.sd_unpack.proofs.BatchLemmas.{stands_within, bytes_between, stands_first, brings_none, brings_more, brings_damage, goes_on_last, damaged_by, damaged_too}
use Rattle.sd_unpack.proofs.batch.read_fragments.Goals as goal

pub loop-batch-init : goal.loop-batch-init
loop-batch-init c = (
  search rules,
  (λ below. c.requires),
  (λ fs records reaches totals. brings_none fs records (drop c.args.from c.args.body.now) _ c.new.ensures.items c.new-2.ensures.items reaches totals),
)

pub returns-in_err-fragment-clause-damaged : goal.returns-in_err-fragment-clause-damaged
returns-in_err-fragment-clause-damaged c =
    let answer : c.from_residual.result ≡ Err (Damaged c.in_err-fragment.field-0.0) = search rules in
    let why = c.in_err-fragment.ensures.err in
    let below : c.loop-batch.at < length c.args.body.now = search rules in
    damaged_by c.from_residual.result c.in_err-fragment.field-0.0 _ answer
    (λ fs records reaches totals. brings_damage fs records (drop c.args.from c.args.body.now) c.args.body.now c.loop-batch.at c.loop-batch.batch _
    (c.loop-batch.invariant.2 fs records reaches totals) below (inl why))

pub slice_bounds-take-end : goal.slice_bounds-take-end
slice_bounds-take-end c =
    let found : StandsAt c.args.body.now c.loop-batch.at c.in-Some.fragment c.in-Some.next = search rules in
    let within = stands_within c.args.body.now c.loop-batch.at c.in-Some.next c.in-Some.fragment found in
    let ordered : c.loop-batch.at ≤ c.in-Some.next = omega arith in
    let in_range : c.in-Some.next ≤ length c.args.body.now = within.1 in
    search rules

pub take-requires-clause-bytes : goal.take-requires-clause-bytes
take-requires-clause-bytes c =
    let found : StandsAt c.args.body.now c.loop-batch.at c.in-Some.fragment c.in-Some.next = search rules in
    bytes_between c.args.body.now c.loop-batch.at c.in-Some.next c.in-Some.fragment found

pub returns-in_err-take-clause-damaged : goal.returns-in_err-take-clause-damaged
returns-in_err-take-clause-damaged c =
    let found : StandsAt c.args.body.now c.loop-batch.at c.in-Some.fragment c.in-Some.next = search rules in
    let within = stands_within c.args.body.now c.loop-batch.at c.in-Some.next c.in-Some.fragment found in
    let answer : c.from_residual-in_err-take.result ≡ Err c.in_err-take.field-0.0 = search rules in
    damaged_too _ (Unit {0}) c.from_residual-in_err-take.result c.in_err-take.field-0.0 _ _ answer
    (λ damage why fs records reaches totals.
    let brought = c.loop-batch.invariant.2 fs records reaches totals in
    brings_damage fs records (drop c.args.from c.args.body.now) c.args.body.now c.loop-batch.at c.loop-batch.batch damage brought (omega arith)
    (inr (
      c.in-Some.fragment,
      drop c.in-Some.next c.args.body.now,
      stands_first c.args.body.now c.loop-batch.at c.in-Some.next c.in-Some.fragment found,
      why _ records brought.stands,
    )))
    c.in_err-take.ensures.damaged

pub loop-batch-preserved : goal.loop-batch-preserved
loop-batch-preserved c =
    let found : StandsAt c.args.body.now c.loop-batch.at c.in-Some.fragment c.in-Some.next = search rules in
    let within = stands_within c.args.body.now c.loop-batch.at c.in-Some.next c.in-Some.fragment found in (
      c.in_ok-take.ensures.stage,
      (λ below. c.in_ok-take.ensures.at_rest (λ goes. let last = goes_on_last c.args.body.now c.loop-batch.at c.in-Some.next c.in-Some.fragment found goes in omega arith)),
      (λ fs records reaches totals. brings_more fs records (drop c.args.from c.args.body.now) c.args.body.now c.loop-batch.at c.in-Some.next c.loop-batch.batch _ c.in-Some.fragment
          (c.loop-batch.invariant.2 fs records reaches totals) (omega arith) found (λ gs stands. c.in_ok-take.ensures.stands gs records stands)),
    )

pub returns-clause-brings : goal.returns-clause-brings
returns-clause-brings c =
    let past : length c.args.body.now ≤ c.loop-batch.at = search rules in
    λ fs records reaches totals. subst (λ after. Brings fs records (drop c.args.from c.args.body.now) after c.loop-batch.batch) (drop_all c.loop-batch.at c.args.body.now past)
    (c.loop-batch.invariant.2 fs records reaches totals)
