use Rattle.std.proofs.Common.{inr}
use Rattle.std.proofs.lemmas.Result.{IfErr-weaker, on_err_weaker}
use Rattle.sd_volume.proofs.DeviceLemmas.{OnlyReads-trans, only_reads_call}
use Rattle.sd_readback.specs.Device.{stretch}
use Rattle.sd_readback.proofs.DeviceLemmas.{length_told}
use Rattle.sd_readback.proofs.ReaderLemmas.{on_ok_one}
use Rattle.sd_readback.proofs.SpanLemmas.{part_is_stretch, span_holds, stops_cant}
use Rattle.sd_readback.proofs.read.read_span.Goals as goal

pub returns-clause-device : goal.returns-clause-device
returns-clause-device g c =
    let told = c.in_ok-size.ensures in
    OnlyReads-trans _ _ _ _ _ (λ f. cc) (only_reads_call _ _ _ told.counts (λ e. cc) told.passes told.stable told.loaded told.same) c.read_part.ensures.device

pub returns-clause-ok : goal.returns-clause-ok
returns-clause-ok g c =
    let told = c.in_ok-size.ensures in
    let s = c.args.span.now in
    on_ok_one c.read_part.result
    (λ read. (
      read.0,
      read.3,
      λ volumes has.
          let r = length_told _ _ c.turn_to_volume.new.self volumes s.volume c.in_ok-size.size s.end _ has (only_reads_call _ _ _ told.counts (λ e. cc) told.passes told.stable told.loaded told.same)
          (told.ok has.honest) c.turn_to_volume.ensures.name c.turn_to_volume.ensures.shows c.if-size-span.false in
          span_holds volumes s r.bytes read.0 read.1 c.requires r.reading.long r.there (read.4 r.bytes r.reading) read.2,
    ))
    c.read_part.ensures.ok

pub returns-clause-stops : goal.returns-clause-stops
returns-clause-stops g c = λ volumes has.
    let told = c.in_ok-size.ensures in
    let s = c.args.span.now in
    let r = length_told _ _ c.turn_to_volume.new.self volumes s.volume c.in_ok-size.size s.end _ has (only_reads_call _ _ _ told.counts (λ e. cc) told.passes told.stable told.loaded told.same)
    (told.ok has.honest) c.turn_to_volume.ensures.name c.turn_to_volume.ensures.shows c.if-size-span.false in
    IfErr-weaker c.read_part.result _ _
    (λ fault says of key before taken read. stops_cant fault volumes key before s r.bytes (stretch s.start s.end r.bytes) of r.there (part_is_stretch r.bytes s c.requires r.reading.long) (says of key before taken read))
    (c.read_part.ensures.stops r.bytes r.reading)

pub returns-clause-handed_over : goal.returns-clause-handed_over
returns-clause-handed_over g c = λ volumes has.
    let told = c.in_ok-size.ensures in
    let s = c.args.span.now in
    let r = length_told _ _ c.turn_to_volume.new.self volumes s.volume c.in_ok-size.size s.end _ has (only_reads_call _ _ _ told.counts (λ e. cc) told.passes told.stable told.loaded told.same)
    (told.ok has.honest) c.turn_to_volume.ensures.name c.turn_to_volume.ensures.shows c.if-size-span.false in
    on_err_weaker c.read_part.result
    (λ part. inr (r.bytes, stretch s.start s.end r.bytes, r.there, part_is_stretch r.bytes s c.requires r.reading.long, part))
    (c.read_part.ensures.handed_over r.bytes r.reading)
