use Rattle.std.proofs.Common.{◌≡◌, ◌≢◌, ◌+◌, ◌≤◌, ◌++◌, length, drop, inl, inr, refl, ap, sym, ◌∙◌, subst, arith}
use Rattle.std.proofs.lemmas.List.{append_assoc}
use Rattle.std.proofs.lemmas.Result.{err_from_is_err_and}
use Rattle.sd_base.specs.Limits.{most_block}
use Rattle.sd_block.specs.Image.{IsBlockImage}
use Rattle.sd_volume.proofs.DeviceLemmas.{OnlyReads-trans}
use Rattle.sd_volume.proofs.ImageLemmas.{length-image}
use Rattle.sd_readback.specs.declared.fault.ReadFault.TheVariants.{Device}
use Rattle.sd_readback.specs.Device.{IsReading, ShowsBlock, stretch}
use Rattle.sd_readback.specs.Faults.{BeginsWithNoBlock, IsOfSpans}
use Rattle.sd_readback.proofs.DeviceLemmas.{OnlyReads-refl, OnlyReads-refused, OnlyReads-answered}
use Rattle.sd_readback.proofs.FrontLemmas.{stretch_some, stretch_behind, shown_is_bad, shown_begins}
use Rattle.sd_readback.proofs.HandsOverLemmas.{part_front, part_block_front}
use Rattle.sd_readback.proofs.PartLemmas.{part_begins, part_goes_on, part_stops}
use Rattle.sd_readback.proofs.ReaderLemmas.{if_err}
use Rattle.sd_readback.proofs.read.read_part.Goals as goal

pub loop-at-init : goal.loop-at-init
loop-at-init g c = record {
  within = c.requires;
  device = OnlyReads-refl (g.D.Driver.meaning c.args.driver.now);
  still = λ bytes is. is;
  part = part_begins c.args.reader.now (g.S.Sink.got c.args.sink.now) c.args.start c.args.end (IsReading (g.D.Driver.meaning c.args.driver.now) c.args.volume.now c.args.end);
}

pub returns-in_err-show_block-clause-device : goal.returns-in_err-show_block-clause-device
returns-in_err-show_block-clause-device g c =
    let p = err_from_is_err_and c.from_residual.result c.from_residual.ensures.1 in
    rw (p.1, p.2) (OnlyReads-trans _ _ _ _ _ (λ n. n) c.loop-at.invariant.device c.in_err-show_block.ensures.device)

pub returns-in_err-show_block-clause-stops : goal.returns-in_err-show_block-clause-stops
returns-in_err-show_block-clause-stops g c = λ bytes is.
    let inv = c.loop-at.invariant in
    let rest = stretch c.loop-at.at c.args.end bytes in
    let p = err_from_is_err_and c.from_residual.result c.from_residual.ensures.1 in
    let none = c.in_err-show_block.ensures.none bytes (inv.still bytes is) in
    if_err c.from_residual.result p.0 _ p.1
    (λ of. part_stops c.args.reader.now c.loop-at.reader (g.S.Sink.got c.args.sink.now) (g.S.Sink.got c.loop-at.sink) c.args.start c.loop-at.at c.args.end c.loop-at.last
    (IsReading (g.D.Driver.meaning c.args.driver.now) c.args.volume.now c.args.end) p.0 bytes inv.part is (stretch_some c.loop-at.at c.args.end bytes c.loop-at-test.true is.long)
    (λ key before taken r. inl (subst (λ f. BeginsWithNoBlock f c.loop-at.last rest) (sym p.2) (none (subst IsOfSpans p.2 of) c.loop-at.last))))

pub returns-in_err-show_block-clause-handed_over : goal.returns-in_err-show_block-clause-handed_over
returns-in_err-show_block-clause-handed_over g c = λ bytes is.
    let p = err_from_is_err_and c.from_residual.result c.from_residual.ensures.1 in
    if_err c.from_residual.result p.0 _ p.1
    (part_front c.args.reader.now c.loop-at.reader (g.S.Sink.got c.args.sink.now) (g.S.Sink.got c.loop-at.sink) c.args.start c.loop-at.at c.args.end c.loop-at.last
    (IsReading (g.D.Driver.meaning c.args.driver.now) c.args.volume.now c.args.end) bytes c.loop-at.invariant.part is)

pub returns-in_err-block-clause-device : goal.returns-in_err-block-clause-device
returns-in_err-block-clause-device g c =
    let p = err_from_is_err_and c.from_residual-in_err-block.result c.from_residual-in_err-block.ensures.1 in
    let damaged = c.in_err-block.ensures.damaged in
    let other : c.in_err-block.field-0.0 ≢ Device = λ e. cc in
    rw (p.1, p.2) (OnlyReads-refused _ c.in_err-block.field-0.0 _ _ _ other c.loop-at.invariant.device c.in_ok-show_block.ensures.device)

pub returns-in_err-block-clause-stops : goal.returns-in_err-block-clause-stops
returns-in_err-block-clause-stops g c = λ bytes is.
    let inv = c.loop-at.invariant in
    let rest = stretch c.loop-at.at c.args.end bytes in
    let p = err_from_is_err_and c.from_residual-in_err-block.result c.from_residual-in_err-block.ensures.1 in
    let damaged = p.2 ∙ c.in_err-block.ensures.damaged in
    let shows : ShowsBlock rest c.shown.result.now = subst (ShowsBlock rest) (sym c.shown.ensures.shown) (c.in_ok-show_block.ensures.shown bytes (inv.still bytes is)) in
    if_err c.from_residual-in_err-block.result p.0 _ p.1
    (λ of. part_stops c.args.reader.now c.loop-at.reader (g.S.Sink.got c.args.sink.now) (g.S.Sink.got c.loop-at.sink) c.args.start c.loop-at.at c.args.end c.loop-at.last
    (IsReading (g.D.Driver.meaning c.args.driver.now) c.args.volume.now c.args.end) p.0 bytes inv.part is (stretch_some c.loop-at.at c.args.end bytes c.loop-at-test.true is.long)
    (λ key before taken r. inl (subst (λ f. BeginsWithNoBlock f c.loop-at.last rest) (sym damaged) (shown_is_bad rest c.shown.result.now c.loop-at.last shows c.in_err-block.ensures.why))))

pub returns-in_err-block-clause-handed_over : goal.returns-in_err-block-clause-handed_over
returns-in_err-block-clause-handed_over g c = λ bytes is.
    let p = err_from_is_err_and c.from_residual-in_err-block.result c.from_residual-in_err-block.ensures.1 in
    if_err c.from_residual-in_err-block.result p.0 _ p.1
    (part_front c.args.reader.now c.loop-at.reader (g.S.Sink.got c.args.sink.now) (g.S.Sink.got c.loop-at.sink) c.args.start c.loop-at.at c.args.end c.loop-at.last
    (IsReading (g.D.Driver.meaning c.args.driver.now) c.args.volume.now c.args.end) bytes c.loop-at.invariant.part is)

pub returns-in_err-read_block-clause-device : goal.returns-in_err-read_block-clause-device
returns-in_err-read_block-clause-device g c =
    let p = err_from_is_err_and c.from_residual-in_err-read_block.result c.from_residual-in_err-read_block.ensures.1 in
    rw (p.1, p.2) (OnlyReads-refused _ c.in_err-read_block.field-0.0 _ _ _ c.in_err-read_block.ensures.faults c.loop-at.invariant.device c.in_ok-show_block.ensures.device)

pub returns-in_err-read_block-clause-adds : goal.returns-in_err-read_block-clause-adds
returns-in_err-read_block-clause-adds g c =
    let on = c.loop-at.invariant.part.on in
    let block = c.in_err-read_block.ensures.handed_over in
    (on.more ++ block.more, block.got_is ∙ ap (λ l. l ++ block.more) on.got_is ∙ append_assoc (g.S.Sink.got c.args.sink.now) on.more block.more)

pub returns-in_err-read_block-clause-stops : goal.returns-in_err-read_block-clause-stops
returns-in_err-read_block-clause-stops g c = λ bytes is.
    let inv = c.loop-at.invariant in
    let rest = stretch c.loop-at.at c.args.end bytes in
    let block = c.in_ok-block.block in
    let p = err_from_is_err_and c.from_residual-in_err-read_block.result c.from_residual-in_err-read_block.ensures.1 in
    let shows : ShowsBlock rest c.shown.result.now = subst (ShowsBlock rest) (sym c.shown.ensures.shown) (c.in_ok-show_block.ensures.shown bytes (inv.still bytes is)) in
    let begins = shown_begins c.loop-at.last rest c.shown.result.now (drop (length c.shown.result.now) rest) block.key block.number block.body.now shows c.in_ok-block.ensures.block c.in_ok-block.ensures.next refl in
    if_err c.from_residual-in_err-read_block.result p.0 _ p.1
    (λ of. part_stops c.args.reader.now c.loop-at.reader (g.S.Sink.got c.args.sink.now) (g.S.Sink.got c.loop-at.sink) c.args.start c.loop-at.at c.args.end c.loop-at.last
    (IsReading (g.D.Driver.meaning c.args.driver.now) c.args.volume.now c.args.end) p.0 bytes inv.part is (stretch_some c.loop-at.at c.args.end bytes c.loop-at-test.true is.long)
    (λ key before taken r.
    let refused = c.in_err-read_block.ensures.refused (λ e. of.1 (p.2 ∙ e)) key before taken r in
    inr (
      p.2 ∙ refused.0,
      record {
        block = record { key = block.key; body = block.body.now };
        number = block.number;
        behind = drop (length c.shown.result.now) rest;
        begins = begins;
        refused = refused.1;
      },
    )))

pub returns-in_err-read_block-clause-handed_over : goal.returns-in_err-read_block-clause-handed_over
returns-in_err-read_block-clause-handed_over g c = λ bytes is.
    let inv = c.loop-at.invariant in
    let rest = stretch c.loop-at.at c.args.end bytes in
    let block = c.in_ok-block.block in
    let p = err_from_is_err_and c.from_residual-in_err-read_block.result c.from_residual-in_err-read_block.ensures.1 in
    let shows : ShowsBlock rest c.shown.result.now = subst (ShowsBlock rest) (sym c.shown.ensures.shown) (c.in_ok-show_block.ensures.shown bytes (inv.still bytes is)) in
    let begins = shown_begins c.loop-at.last rest c.shown.result.now (drop (length c.shown.result.now) rest) block.key block.number block.body.now shows c.in_ok-block.ensures.block c.in_ok-block.ensures.next refl in
    if_err c.from_residual-in_err-read_block.result p.0 _ p.1
    (part_block_front c.args.reader.now c.loop-at.reader (g.S.Sink.got c.args.sink.now) (g.S.Sink.got c.loop-at.sink) (g.S.Sink.got c.read_block.new.sink)
    c.args.start c.loop-at.at c.args.end c.loop-at.last
    (IsReading (g.D.Driver.meaning c.args.driver.now) c.args.volume.now c.args.end) bytes _ (record { key = block.key; body = block.body.now }) block.number inv.part is begins c.in_err-read_block.ensures.handed_over)

pub loop-at-smaller : goal.loop-at-smaller
loop-at-smaller g c =
    let block = c.in_ok-block.block in
    let long = length-image c.shown.result.now block.key block.number block.body.now c.in_ok-block.ensures.block in
    let same = ap length (c.shown-in-loop-at.ensures.shown ∙ sym c.shown.ensures.shown) in
    omega (arith, long, same, c.loop-at-test.true)

pub loop-at-preserved : goal.loop-at-preserved
loop-at-preserved g c =
    let inv = c.loop-at.invariant in
    let block = c.in_ok-block.block in
    let image = c.in_ok-block.ensures.block in
    let here = ap length c.shown-in-loop-at.ensures.shown in
    let same = ap length (c.shown-in-loop-at.ensures.shown ∙ sym c.shown.ensures.shown) in
    let next = c.loop-at.at + length c.shown-in-loop-at.result.now in
    let within : next ≤ c.args.end = omega (arith, here, c.in_ok-show_block.ensures.within) in
    record {
      within = within;
      device = OnlyReads-answered _ _ _ _ inv.device c.in_ok-show_block.ensures.device;
      still = λ bytes is. c.in_ok-show_block.ensures.still bytes (inv.still bytes is);
      part = part_goes_on c.args.reader.now c.loop-at.reader c.read_block.new.self (g.S.Sink.got c.args.sink.now) (g.S.Sink.got c.loop-at.sink) (g.S.Sink.got c.read_block.new.sink)
          c.args.start c.loop-at.at next c.args.end c.loop-at.last (IsReading (g.D.Driver.meaning c.args.driver.now) c.args.volume.now c.args.end) (record { key = block.key; body = block.body.now }) block.number
          inv.part (subst (λ i. IsBlockImage most_block i block.key block.number block.body.now) image.image_is image) c.in_ok-block.ensures.next
          (λ bytes is.
          let rest = stretch c.loop-at.at c.args.end bytes in
          let shows : ShowsBlock rest c.shown.result.now = subst (ShowsBlock rest) (sym c.shown.ensures.shown) (c.in_ok-show_block.ensures.shown bytes (inv.still bytes is)) in
          let behind : stretch next c.args.end bytes ≡ drop (length c.shown.result.now) rest = sym (ap (λ n. drop n rest) (sym same) ∙ stretch_behind c.loop-at.at c.args.end (length c.shown-in-loop-at.result.now) bytes within) in
          (shown_begins c.loop-at.last rest c.shown.result.now (stretch next c.args.end bytes) block.key block.number block.body.now shows image c.in_ok-block.ensures.next behind).bytes_are)
          c.in_ok-read_block.ensures.ok;
    }
