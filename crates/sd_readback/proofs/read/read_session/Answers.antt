use Rattle.std.proofs.Common.{sym, subst, refl, take, drop, suc, List, [], append-nil}
use Rattle.std.proofs.lemmas.List.{take_all}
use Rattle.std.proofs.lemmas.Result.{err_from_is_err_and, IfErr-weaker}
use Rattle.sd_span.specs.declared.span.Span.{Span}
use Rattle.sd_volume.proofs.DeviceLemmas.{OnlyReads-as, OnlyReads-trans}
use Rattle.sd_readback.specs.Device.{HasVolumes}
use Rattle.sd_readback.specs.Faults.{IsOfSpans, CantRead}
use Rattle.sd_readback.specs.Reading.{volumes_on}
use Rattle.sd_readback.proofs.DeviceLemmas.{OnlyReads-refl, OnlyReads-answered, own_volumes, volumes_still}
use Rattle.sd_readback.proofs.HandsOverLemmas.{nothing_front, spans_front, span_stopped_front}
use Rattle.sd_readback.proofs.ReaderLemmas.{if_err, if_ok_one, if_ok_never}
use Rattle.sd_readback.proofs.SpanLemmas.{HasReadAll, all_begin, all_go_on, spans_there, spans_stop, spans_round, spans_more, span_below, spans_read, spans_hold_none, none_of_spans, met_or_broken}
use Rattle.sd_readback.proofs.read.read_session.Goals as goal

pub returns-then-not-are_spans-clause-handed_over : goal.returns-then-not-are_spans-clause-handed_over
returns-then-not-are_spans-clause-handed_over g c = λ honest.
    nothing_front (volumes_on (g.D.Driver.meaning c.args.driver.now).shelf) c.args.key c.args.spans.now (g.S.Sink.got c.args.sink.now)

pub returns-in_err-volume-clause-handed_over : goal.returns-in_err-volume-clause-handed_over
returns-in_err-volume-clause-handed_over g c = λ honest.
    let p = err_from_is_err_and c.from_residual.result c.from_residual.ensures.1 in
    if_err c.from_residual.result p.0 _ p.1
    (nothing_front (volumes_on (g.D.Driver.meaning c.args.driver.now).shelf) c.args.key c.args.spans.now (g.S.Sink.got c.args.sink.now))

pub loop-span-init : goal.loop-span-init
loop-span-init g c = record {
  device = OnlyReads-refl (g.D.Driver.meaning c.args.driver.now);
  read = all_begin c.args.key c.new-reader.result (g.S.Sink.got c.args.sink.now) (HasVolumes (g.D.Driver.meaning c.args.driver.now)) c.new-reader.ensures;
}

pub read_span-requires-after_bounds : goal.read_span-requires-after_bounds
read_span-requires-after_bounds g c κs within =
    span_below c.args.spans.now c.loop-span.span-index c.span-item.result c.span-item.is c.loop-span-test.true (c.if-not-are_spans.ensures.0 refl)

pub returns-in_err-read_span-clause-device : goal.returns-in_err-read_span-clause-device
returns-in_err-read_span-clause-device g c =
    let p = err_from_is_err_and c.from_residual-in_err-read_span.result c.from_residual-in_err-read_span.ensures.1 in
    rw (p.1, p.2) (OnlyReads-trans _ _ _ _ _ (λ n. n) c.loop-span.invariant.device (OnlyReads-as _ _ _ _ (λ f. cc) (λ f. cc) c.in_err-read_span.ensures.device))

pub returns-in_err-read_span-clause-first : goal.returns-in_err-read_span-clause-first
returns-in_err-read_span-clause-first g c = λ honest.
    let old = g.D.Driver.meaning c.args.driver.now in
    let volumes = volumes_on old.shelf in
    let has = own_volumes old honest in
    let i = c.loop-span.span-index in
    let s = c.span-item.result in
    let inv = c.loop-span.invariant in
    let here = spans_there c.args.key (take i c.args.spans.now) c.loop-span.reader (g.S.Sink.got c.args.sink.now) (g.S.Sink.got c.loop-span.sink) (HasVolumes old) volumes inv.read has in
    let stops = c.in_err-read_span.ensures.stops volumes (volumes_still ⊥ old (g.D.Driver.meaning c.loop-span.driver) volumes inv.device has) in
    let p = err_from_is_err_and c.from_residual-in_err-read_span.result c.from_residual-in_err-read_span.ensures.1 in
    if_err c.from_residual-in_err-read_span.result p.0 _ p.1
    (λ of. spans_stop volumes c.args.key c.args.spans.now (take i c.args.spans.now) (drop (suc i) c.args.spans.now) s c.loop-span.reader (g.S.Sink.got c.args.sink.now) (g.S.Sink.got c.loop-span.sink) p.0
    (c.if-not-are_spans.ensures.0 refl) (spans_round c.args.spans.now i s c.span-item.is c.loop-span-test.true) here
    (λ earlier taken r. subst (λ fault. CantRead fault volumes c.args.key earlier s) (sym p.2) (stops (subst IsOfSpans p.2 of) c.args.key earlier taken r)))

pub returns-in_err-read_span-clause-found : goal.returns-in_err-read_span-clause-found
returns-in_err-read_span-clause-found g c = λ honest.
    none_of_spans (volumes_on (g.D.Driver.meaning c.args.driver.now).shelf) c.args.key c.args.spans.now c.from_residual-in_err-read_span.result (returns-in_err-read_span-clause-first g c honest)

pub returns-in_err-read_span-clause-met : goal.returns-in_err-read_span-clause-met
returns-in_err-read_span-clause-met g c = λ honest.
    let p = err_from_is_err_and c.from_residual-in_err-read_span.result c.from_residual-in_err-read_span.ensures.1 in
    met_or_broken (volumes_on (g.D.Driver.meaning c.args.driver.now).shelf) c.args.key c.args.spans.now c.from_residual-in_err-read_span.result (returns-in_err-read_span-clause-first g c honest)
    (if_ok_never c.from_residual-in_err-read_span.result p.0 _ p.1)

pub returns-in_err-read_span-clause-handed_over : goal.returns-in_err-read_span-clause-handed_over
returns-in_err-read_span-clause-handed_over g c = λ honest.
    let old = g.D.Driver.meaning c.args.driver.now in
    let volumes = volumes_on old.shelf in
    let has = own_volumes old honest in
    let i = c.loop-span.span-index in
    let s = c.span-item.result in
    let inv = c.loop-span.invariant in
    let here = spans_there c.args.key (take i c.args.spans.now) c.loop-span.reader (g.S.Sink.got c.args.sink.now) (g.S.Sink.got c.loop-span.sink) (HasVolumes old) volumes inv.read has in
    let more = c.in_err-read_span.ensures.handed_over volumes (volumes_still ⊥ old (g.D.Driver.meaning c.loop-span.driver) volumes inv.device has) in
    let p = err_from_is_err_and c.from_residual-in_err-read_span.result c.from_residual-in_err-read_span.ensures.1 in
    if_err c.from_residual-in_err-read_span.result p.0 _ p.1
    (span_stopped_front volumes c.args.key c.args.spans.now (take i c.args.spans.now) (drop (suc i) c.args.spans.now) s c.loop-span.reader (g.S.Sink.got c.args.sink.now) (g.S.Sink.got c.loop-span.sink)
    (g.S.Sink.got c.read_span.new.sink) (c.if-not-are_spans.ensures.0 refl) (spans_round c.args.spans.now i s c.span-item.is c.loop-span-test.true) here more)

pub loop-span-preserved : goal.loop-span-preserved
loop-span-preserved g c =
    let old = g.D.Driver.meaning c.args.driver.now in
    let i = c.loop-span.span-index in
    let s = c.span-item.result in
    let inv = c.loop-span.invariant in
    let read = c.in_ok-read_span.ensures.ok in
    record {
      device = OnlyReads-answered _ _ _ _ inv.device c.in_ok-read_span.ensures.device;
      read =
          subst (λ (ss : List Span). HasReadAll c.args.key ss c.read_span.new.reader (g.S.Sink.got c.args.sink.now) (g.S.Sink.got c.read_span.new.sink) (HasVolumes old)) (sym (spans_more c.args.spans.now i s c.span-item.is c.loop-span-test.true))
          (all_go_on c.args.key (take i c.args.spans.now) s c.loop-span.reader c.read_span.new.reader (g.S.Sink.got c.args.sink.now) (g.S.Sink.got c.loop-span.sink) (g.S.Sink.got c.read_span.new.sink) (HasVolumes old)
          read.0 inv.read read.1 (λ volumes has. read.2 volumes (volumes_still ⊥ old (g.D.Driver.meaning c.loop-span.driver) volumes inv.device has)));
    }

-- once all spans are read

pub returns-clause-counts : goal.returns-clause-counts
returns-clause-counts g c =
    let h = c.loop-span.invariant.read in
    if_ok_one c.finish.result _ _
    (λ end says. (let told = says c.args.key _ h.more h.read in (h.more, h.got_is, told.2, told.3)))
    c.finish.ensures.ok

pub returns-clause-reads : goal.returns-clause-reads
returns-clause-reads g c = λ honest.
    let old = g.D.Driver.meaning c.args.driver.now in
    let volumes = volumes_on old.shelf in
    let all = take_all c.loop-span.span-index c.args.spans.now c.loop-span-test.false in
    let a = subst (λ (ss : List Span). HasReadAll c.args.key ss c.loop-span.reader (g.S.Sink.got c.args.sink.now) (g.S.Sink.got c.loop-span.sink) (HasVolumes old)) all c.loop-span.invariant.read in
    let h = spans_there c.args.key c.args.spans.now c.loop-span.reader (g.S.Sink.got c.args.sink.now) (g.S.Sink.got c.loop-span.sink) (HasVolumes old) volumes a (own_volumes old honest) in
    if_ok_one c.finish.result _ _
    (λ end says. (
    let told = says c.args.key _ h.more h.read in
    (h.more, h.got_is, spans_read volumes c.args.key c.args.spans.now c.loop-span.reader _ _ end.ended (c.if-not-are_spans.ensures.0 refl) h told.0 told.1, told.2, told.3)))
    c.finish.ensures.ok

pub returns-clause-first : goal.returns-clause-first
returns-clause-first g c = λ honest.
    let old = g.D.Driver.meaning c.args.driver.now in
    let volumes = volumes_on old.shelf in
    let all = take_all c.loop-span.span-index c.args.spans.now c.loop-span-test.false in
    let a = subst (λ (ss : List Span). HasReadAll c.args.key ss c.loop-span.reader (g.S.Sink.got c.args.sink.now) (g.S.Sink.got c.loop-span.sink) (HasVolumes old)) all c.loop-span.invariant.read in
    let h = spans_there c.args.key c.args.spans.now c.loop-span.reader (g.S.Sink.got c.args.sink.now) (g.S.Sink.got c.loop-span.sink) (HasVolumes old) volumes a (own_volumes old honest) in
    IfErr-weaker c.finish.result _ _
    (λ fault says of. spans_hold_none volumes c.args.key c.args.spans.now c.loop-span.reader _ _ fault (c.if-not-are_spans.ensures.0 refl) h says.0 says.1)
    c.finish.ensures.none

pub returns-clause-found : goal.returns-clause-found
returns-clause-found g c = λ honest.
    none_of_spans (volumes_on (g.D.Driver.meaning c.args.driver.now).shelf) c.args.key c.args.spans.now c.finish.result (returns-clause-first g c honest)

pub returns-clause-met : goal.returns-clause-met
returns-clause-met g c = λ honest.
    let old = g.D.Driver.meaning c.args.driver.now in
    let volumes = volumes_on old.shelf in
    let all = take_all c.loop-span.span-index c.args.spans.now c.loop-span-test.false in
    let a = subst (λ (ss : List Span). HasReadAll c.args.key ss c.loop-span.reader (g.S.Sink.got c.args.sink.now) (g.S.Sink.got c.loop-span.sink) (HasVolumes old)) all c.loop-span.invariant.read in
    let h = spans_there c.args.key c.args.spans.now c.loop-span.reader (g.S.Sink.got c.args.sink.now) (g.S.Sink.got c.loop-span.sink) (HasVolumes old) volumes a (own_volumes old honest) in
    met_or_broken volumes c.args.key c.args.spans.now c.finish.result (returns-clause-first g c honest)
    (if_ok_one c.finish.result _ _
    (λ end says. (
    let told = says c.args.key _ h.more h.read in
    (h.more, end.ended, h.read.countable, spans_read volumes c.args.key c.args.spans.now c.loop-span.reader _ _ end.ended (c.if-not-are_spans.ensures.0 refl) h told.0 told.1)))
    c.finish.ensures.ok)

pub returns-clause-handed_over : goal.returns-clause-handed_over
returns-clause-handed_over g c = λ honest.
    let old = g.D.Driver.meaning c.args.driver.now in
    let volumes = volumes_on old.shelf in
    let all = take_all c.loop-span.span-index c.args.spans.now c.loop-span-test.false in
    let a = subst (λ (ss : List Span). HasReadAll c.args.key ss c.loop-span.reader (g.S.Sink.got c.args.sink.now) (g.S.Sink.got c.loop-span.sink) (HasVolumes old)) all c.loop-span.invariant.read in
    let h = spans_there c.args.key c.args.spans.now c.loop-span.reader (g.S.Sink.got c.args.sink.now) (g.S.Sink.got c.loop-span.sink) (HasVolumes old) volumes a (own_volumes old honest) in
    IfErr-weaker c.finish.result _ _
    (λ fault none. spans_front volumes c.args.key c.args.spans.now c.args.spans.now [] c.loop-span.reader (g.S.Sink.got c.args.sink.now) (g.S.Sink.got c.loop-span.sink)
    (c.if-not-are_spans.ensures.0 refl) (sym (append-nil c.args.spans.now)) h)
    c.finish.ensures.none
