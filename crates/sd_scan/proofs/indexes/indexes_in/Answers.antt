use Rattle.std.proofs.Common.{◌≡◌, ◌<◌, ◌+◌, ◌-◌, length, rules, arith, sym, ◌∙◌, ap, ap₂, subst}
use Rattle.sd_base.specs.FileIndex.{first_nonzero}
use Rattle.sd_record.specs.Fragment.{StandsAt}
use Rattle.sd_unpack.proofs.BatchLemmas.{stands_within}
use Rattle.sd_scan.proofs.IndexLemmas.{ReadTo, read_more, read_all}
use Rattle.sd_scan.specs.declared.indexes.Indexes.{Indexes}
use Rattle.sd_scan.proofs.indexes.indexes_in.Goals as goal

pub loop-fragment-preserved : goal.loop-fragment-preserved
loop-fragment-preserved c = λ fs fit is.
    let found : StandsAt c.args.body.now c.loop-fragment.at c.in-Some.fragment c.in-Some.next = c.in-Some.ensures.found in
    let within = stands_within c.args.body.now c.loop-fragment.at c.in-Some.next c.in-Some.fragment found in
    let more = read_more c.args.body.now c.loop-fragment.at c.loop-fragment.found.first c.loop-fragment.found.last fs c.in-Some.fragment c.in-Some.next (c.loop-fragment.invariant fs fit is)
    c.in-Some.ensures.read_back (omega arith) in
    let P : Indexes → Type 0 = λ i. ReadTo c.args.body.now c.in-Some.next i.first i.last fs in
    subst P (sym c.with-found.ensures) (subst (λ n. ReadTo c.args.body.now c.in-Some.next (first_nonzero c.loop-fragment.found.first n) (first_nonzero n c.loop-fragment.found.last) fs) (sym c.file_index.ensures) more)

pub loop-fragment-smaller : goal.loop-fragment-smaller
loop-fragment-smaller c =
    let found : StandsAt c.args.body.now c.loop-fragment.at c.in-Some.fragment c.in-Some.next = c.in-Some.ensures.found in
    let within = stands_within c.args.body.now c.loop-fragment.at c.in-Some.next c.in-Some.fragment found in
    omega arith

pub returns : goal.returns
returns c = λ fs fit is.
    read_all c.args.body.now c.loop-fragment.at c.loop-fragment.found.first c.loop-fragment.found.last fs c.fragment_at.result (c.loop-fragment.invariant fs fit is)
    c.fragment_at.ensures.read_back c.in_default.is
