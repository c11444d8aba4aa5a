use Rattle.std.proofs.Common.{◌≡◌, ◌++◌, List, sym, subst, ◌∙◌, refl, Ok}
use Rattle.std.proofs.lemmas.List.{append_cancel_left}
use Rattle.sd_base.specs.Record.{Record}
use Rattle.sd_readback.specs.Reading.{Reads, volumes_on}
use Rattle.sd_world.proofs.reading.read_drive.Goals as goal

-- one list of records was added
same_more : (got got' more others : List Record) → got' ≡ got ++ more → got' ≡ got ++ others → others ≡ more
same_more got got' more others one other = append_cancel_left got others more (sym other ∙ one)

pub returns-in-Ok : goal.returns-in-Ok
returns-in-Ok g c =
    let e = c.in-Ok.ensures in
    record {
      answer = Ok c.in-Ok.end;
      ok = refl;
      err = tt;
      bad_spans = e.bad_spans;
      no_call = e.no_call;
      same = e.same;
      device = e.device;
      keeps = e.keeps;
      more = e.counts.0;
      adds = e.counts.1;
      counts = (e.counts.2, e.counts.3);
      reads = λ honest.
          let r = e.reads honest in
          let one = same_more (g.K.Sink.got c.args.sink.now) (g.K.Sink.got c.read.new.sink) e.counts.0 r.0 e.counts.1 r.1 in
          subst (λ (records : List Record). Reads (volumes_on (g.D.Driver.meaning c.args.drive.now.device).shelf) c.args.key c.args.spans.now records c.in-Ok.end.ended) one r.2;
      found = e.found;
      first = e.first;
      handed_over = e.handed_over;
    }
