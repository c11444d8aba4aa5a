use Rattle.std.proofs.Common.{◌++◌, inr, [], List, length, take, refl, sym, ap, subst, ◌∙◌, arith}
use Rattle.std.specs.Prelude.{IsTrue}
use Rattle.std.proofs.lemmas.List.{append-nil, take_all}
use Rattle.std.proofs.lemmas.Option.{slice_get_read}
use Rattle.std.proofs.lemmas.Result.{err_from_is_err_and}
use Rattle.sd_volume.proofs.DeviceLemmas.{OnlyReads-as, OnlyReads-trans}
use Rattle.sd_readback.specs.Reading.{volumes_on}
use Rattle.sd_readback.proofs.DeviceLemmas.{OnlyReads-answered, OnlyReads-refl}
use Rattle.sd_scan.proofs.RunLemmas.{if_ok}
use Rattle.sd_scan.proofs.VolumeLemmas.{take_one}
use Rattle.sd_span.specs.declared.span.Span.{Span}
use Rattle.sd_salvage.specs.Readable.{FindsInSpans}
use Rattle.sd_salvage.proofs.ReadLemmas.{read_salvaged}
use Rattle.sd_salvage.proofs.SalvageLemmas.{finds_more, finds_same, no_device, none_of_session, salvages_all, takes_as, takes_none, takes_then}
use Rattle.sd_salvage.proofs.session.salvage.Goals as goal

pub loop-span-init : goal.loop-span-init
loop-span-init g c = record {
  key = refl;
  device = OnlyReads-refl (g.D.Driver.meaning c.args.driver.now);
  takes = λ honest. ([], refl, takes_none c.new-salvager.result.key c.new-salvager.result _ _);
}

pub loop-span-preserved : goal.loop-span-preserved
loop-span-preserved g c =
    let so_far = c.loop-span.invariant in
    let one = c.in_ok-salvage_span.ensures in
    let spans = c.args.spans.now in
    let i = c.loop-span.span-index in
    let s = c.span-item.result in
    let old = g.D.Driver.meaning c.args.driver.now in
    let there = slice_get_read spans (length spans) i s refl c.loop-span-test.true c.span-item.is in
    record {
      key = one.key ∙ so_far.key;
      device = OnlyReads-answered _ _ _ _ so_far.device one.device;
      takes = λ honest.
          let (pieces, found, takes) = so_far.takes honest in
          let here = one.takes (subst IsTrue (sym so_far.device.counted.honest) honest) in (
            pieces ++ here.0,
            subst (λ (l : List Span). FindsInSpans (volumes_on old.shelf) l (pieces ++ here.0)) (sym (take_one spans i s there))
                (finds_more (volumes_on old.shelf) (take i spans) s pieces here.0 found (finds_same (g.D.Driver.meaning c.loop-span.driver).shelf old.shelf s here.0 (so_far.device.same honest s.volume) here.1)),
            takes_then c.new-salvager.result.key c.new-salvager.result c.loop-span.salvager c.salvage_span.new.salvager pieces here.0 _ _ _ _ _ _ takes
                (takes_as c.loop-span.salvager.key c.new-salvager.result.key so_far.key here.2),
          );
    }

pub returns-in_err-salvage_span-clause-device : goal.returns-in_err-salvage_span-clause-device
returns-in_err-salvage_span-clause-device g c =
    let p = err_from_is_err_and c.from_residual-in_err-salvage_span.result c.from_residual-in_err-salvage_span.ensures.1 in
    rw (p.1, p.2) (OnlyReads-trans _ _ _ _ _ (λ n. n) c.loop-span.invariant.device (OnlyReads-as _ _ _ _ (λ f. cc) (λ f. cc) c.in_err-salvage_span.ensures.device))

pub returns-clause-device : goal.returns-clause-device
returns-clause-device g c = OnlyReads-as _ _ _ _ (λ f. absurd f) (no_device c.end.result c.end.ensures.bad) c.loop-span.invariant.device

pub returns-clause-salvages : goal.returns-clause-salvages
returns-clause-salvages g c = λ honest.
    let so_far = c.loop-span.invariant in
    let old = g.D.Driver.meaning c.args.driver.now in
    let (pieces, found, takes) = so_far.takes honest in
    let all = subst (λ (l : List Span). FindsInSpans (volumes_on old.shelf) l pieces) (take_all c.loop-span.span-index c.args.spans.now (omega (arith, c.loop-span-test.false))) found in
    if_ok c.end.result _ _
    (λ end ends.
    salvages_all (volumes_on old.shelf) c.args.key c.args.spans.now pieces c.new-salvager.result c.loop-span.salvager _ _ _ _ end c.new-salvager.ensures.due c.new-salvager.ensures.come all
    (takes_as c.new-salvager.result.key c.args.key c.new-salvager.ensures.key takes) ends)
    c.end.ensures.ok

pub returns-clause-bad_spans : goal.returns-clause-bad_spans
returns-clause-bad_spans g c = λ honest bad.
    let old = g.D.Driver.meaning c.args.driver.now in
    let (pieces, found, takes) = c.loop-span.invariant.takes honest in
    let all = subst (λ (l : List Span). FindsInSpans (volumes_on old.shelf) l pieces) (take_all c.loop-span.span-index c.args.spans.now (omega (arith, c.loop-span-test.false))) found in
    inr (none_of_session (volumes_on old.shelf) c.args.key c.args.spans.now pieces c.new-salvager.result c.loop-span.salvager _ _ _ _ c.end.result c.new-salvager.ensures.come all
    (takes_as c.new-salvager.result.key c.args.key c.new-salvager.ensures.key takes) c.end.ensures.err bad)

pub returns-clause-whole : goal.returns-clause-whole
returns-clause-whole g c = λ honest all ended reads.
    let old = g.D.Driver.meaning c.args.driver.now in
    if_ok c.end.result _ _
    (λ end one.
    let (records, told, got_is, lost_is, is) = one in
    let law = read_salvaged (volumes_on old.shelf) c.args.key c.args.spans.now records all told end ended is reads in
    (law.2, got_is ∙ ap (λ l. g.S.Salvaged.got c.args.sink.now ++ l) law.0, lost_is ∙ ap (λ l. g.S.Salvaged.lost c.args.sink.now ++ l) law.1 ∙ append-nil _))
    (returns-clause-salvages g c honest)
