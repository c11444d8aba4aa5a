use Rattle.std.proofs.Common.{ap, ◌∙◌}
use Rattle.sd_readback.specs.Reading.{volumes_on}
use Rattle.sd_files.proofs.ExtractLemmas.{counts_all, reads_all}
use Rattle.sd_files.proofs.session.read_out.Goals as goal

pub returns : goal.returns
returns g c =
    let none_yet = c.new-sink.ensures in
    let ensures = c.read_session-result.ensures in
    let result = c.read_session-result.result in
    let all = c.read_session-result.new.sink.got in (
      all,
      record {
        device = ensures.device;
        bad_spans = λ none. (ensures.bad_spans none, (ensures.no_call none).1 ∙ none_yet, ap g.D.Driver.meaning (ensures.no_call none).0);
        counts = counts_all result all (rw none_yet at ensures.counts);
        reads = λ honest. reads_all (volumes_on (g.D.Driver.meaning c.args.driver.now).shelf) c.args.key c.args.spans.now result all (rw none_yet at (ensures.reads honest));
        found = ensures.found;
        first = ensures.first;
        met = ensures.met;
        handed_over = λ honest. rw none_yet at (ensures.handed_over honest);
      },
      c.into_printer.ensures,
    )
