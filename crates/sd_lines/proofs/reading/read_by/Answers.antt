use Rattle.std.proofs.Common.{◌≡◌, ◌++◌, List, sym, subst, ap, ◌∙◌, refl, Ok, Err}
use Rattle.std.proofs.lemmas.List.{append_cancel_left}
use Rattle.sd_base.specs.Record.{Record}
use Rattle.sd_readback.specs.Reading.{Reads, volumes_on}
use Rattle.sd_lines.proofs.reading.read_by.Goals as goal

-- one list of records was added
same_more : (got got' more others : List Record) → got' ≡ got ++ more → got' ≡ got ++ others → others ≡ more
same_more got got' more others one other = append_cancel_left got others more (sym other ∙ one)

pub returns-in-Ok : goal.returns-in-Ok
returns-in-Ok g c =
    let e = c.in-Ok.ensures in
    record {
      answer = Ok c.in-Ok.end;
      ok = refl;
      err = tt;
      bad_spans = e.bad_spans;
      no_call = λ bad. (ap (λ d. g.D.Driver.meaning d) (e.no_call bad).0, (e.no_call bad).1);
      device = e.device;
      more = e.counts.0;
      adds = e.counts.1;
      counts = (e.counts.2, e.counts.3);
      reads = λ honest.
          let r = e.reads honest in
          let one = same_more (g.K.Sink.got c.args.sink.now) (g.K.Sink.got c.read_session.new.sink) e.counts.0 r.0 e.counts.1 r.1 in
          subst (λ (records : List Record). Reads (volumes_on (g.D.Driver.meaning c.args.device.now).shelf) c.args.key c.args.spans.now records c.in-Ok.end.ended) one r.2;
      found = e.found;
      first = e.first;
      handed_over = e.handed_over;
    }

pub returns-in-Err : goal.returns-in-Err
returns-in-Err g c =
    let e = c.in-Err.ensures in
    record {
      answer = Err c.in-Err.fault;
      ok = tt;
      err = ap Err c.refusal.ensures;
      bad_spans = e.bad_spans;
      no_call = λ bad. (ap (λ d. g.D.Driver.meaning d) (e.no_call bad).0, (e.no_call bad).1);
      device = e.device;
      more = e.adds.0;
      adds = e.adds.1;
      counts = tt;
      reads = λ honest. tt;
      found = e.found;
      first = e.first;
      handed_over = e.handed_over;
    }
