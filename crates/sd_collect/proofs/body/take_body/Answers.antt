use Rattle.std.proofs.Common.{◌++◌, ◌∷◌, [], ap, arith, refl, sym, ◌∙◌}
use Rattle.std.proofs.lemmas.List.{append_assoc, append-nil}
use Rattle.sd_unpack.proofs.BatchLemmas.{stands_within}
use Rattle.sd_collect.specs.Collect.{records_in}
use Rattle.sd_collect.specs.Whole.{Gap, parts_of}
use Rattle.sd_collect.proofs.CollectLemmas.{goes_cut, goes_nowhere, goes_part, taken_all, taken_front, taken_more, taken_none}
use Rattle.sd_collect.proofs.body.take_body.Goals as goal

pub loop-fragment-init : goal.loop-fragment-init
loop-fragment-init g c = ([], [], taken_none c.args.body.now, sym (append-nil _), refl, goes_nowhere c.args.collector.now)

pub loop-fragment-smaller : goal.loop-fragment-smaller
loop-fragment-smaller g c = let within = stands_within c.args.body.now c.loop-fragment.at c.in-Some.next c.in-Some.fragment c.in-Some.ensures.some in omega (arith, within)

pub loop-fragment-preserved : goal.loop-fragment-preserved
loop-fragment-preserved g c =
    let (fs, records, taken, got, lost, goes) = c.loop-fragment.invariant in
    let more = records_in c.in_ok-rec.rec in (
      fs ++ c.in-Some.fragment ∷ [],
      records ++ more,
      taken_more c.args.body.now c.loop-fragment.at c.in-Some.next fs c.in-Some.fragment taken c.in-Some.ensures.some,
      c.in_ok-hand_over.ensures.0 ∙ ap (λ l. l ++ more) got ∙ append_assoc _ records more,
      c.in_ok-hand_over.ensures.1 ∙ lost,
      goes_part c.args.collector.now c.loop-fragment.collector c.take.new.self fs c.in-Some.fragment records more goes c.in_ok-rec.ensures,
    )

pub returns-then-at-body : goal.returns-then-at-body
returns-then-at-body g c =
    let (fs, records, taken, got, lost, goes) = c.loop-fragment.invariant in (
      parts_of fs ++ Gap ∷ [],
      records,
      taken_front c.args.body.now c.loop-fragment.at fs taken c.if-at-body.true c.in_default.ensures.none,
      got,
      lost,
      goes_cut c.args.collector.now c.loop-fragment.collector c.cut.new.self (parts_of fs) records goes c.cut.ensures.goes_on,
    )

pub returns : goal.returns
returns g c =
    let (fs, records, taken, got, lost, goes) = c.loop-fragment.invariant in
    (parts_of fs, records, taken_all c.args.body.now c.loop-fragment.at fs taken c.if-at-body.false, got, lost, goes)
