use Rattle.std.proofs.Common.{List, [], refl, subst}
use Rattle.sd_base.specs.Record.{Record}
use Rattle.sd_memdrive.specs.Drive.{meaning_of}
use Rattle.sd_span.specs.declared.span.Span.{Span}
use Rattle.sd_world.specs.Deeds.{IsRead}
use Rattle.sd_returned.proofs.reading.read.Goals as goal

pub returns-clause-reads : goal.returns-clause-reads
returns-clause-reads g c =
    let key = c.args.wanted.now.key in
    let old = c.args.world.now in
    let new = c.read-end.new.self in
    let got = c.read-end.new.sink.items in
    let none : IsRead (λ d. meaning_of d) key c.as_slice.result.now [] got c.read-end.result old new =
    subst (λ (l : List Record). IsRead (λ d. meaning_of d) key c.as_slice.result.now l got c.read-end.result old new) c.new-recs.ensures.items c.read-end.ensures in
    let read = subst (λ (l : List Span). IsRead (λ d. meaning_of d) key l [] got c.read-end.result old new) c.as_slice.ensures none in
    record {
      key_is = refl;
      gives = λ records has. c.lists_are_read.ensures (λ d. meaning_of d) old new key c.args.wanted.now.spans records [] got c.read-end.result (λ d. refl) c.know.ensures has read;
    }

pub returns-clause-keeps : goal.returns-clause-keeps
returns-clause-keeps g c =
    c.reading_keeps_lists.ensures (λ d. meaning_of d) c.args.world.now c.read-end.new.self c.args.wanted.now.key c.as_slice.result.now c.new-recs.result.items c.read-end.new.sink.items
    c.read-end.result (λ d. refl) c.read-end.ensures
