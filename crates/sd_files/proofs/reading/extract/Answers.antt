use Rattle.std.proofs.Common.{List, ◌++◌, ap, inl, inr, refl, subst, ◌∙◌}
use Rattle.sd_text.specs.Says.{said_view}
use Rattle.sd_text.proofs.SaysLemmas.{says_then, says_then_nothing}
use Rattle.sd_span.specs.declared.span.Span.{Span}
use Rattle.sd_text.specs.Lines.{line}
use Rattle.sd_files.specs.Extract.{ReadsSession, status_of}
use Rattle.sd_files.specs.Lines.{ending_text, records_lines}
use Rattle.sd_files.proofs.reading.extract.Goals as goal

pub returns-in-Ok : goal.returns-in-Ok
returns-in-Ok g c =
    let out = c.read_out-read.ensures in
    let result = c.read_out-read.result.result in
    let ending = line (ending_text result) in
    inr (record {
      read = c.in-Ok.read;
      records = out.0;
      result = result;
      input_is = c.in-Ok.ensures;
      session = subst (λ (spans : List Span). ReadsSession (g.D.Driver.meaning c.args.driver.now) (g.D.Driver.meaning c.read_out-read.new.driver) c.in-Ok.read.key spans out.0 result) c.as_slice-spans.ensures out.1;
      prints = says_then_nothing _ (said_view g.W.Write.contents c.print_ending.new.out) _ (records_lines out.0 ++ ending) (says_then _ (said_view g.W.Write.contents c.read_out-read.result.out) _ (records_lines out.0) ending out.2 c.print_ending.ensures) c.flush.ensures;
      status_is = c.status_of-status.ensures ∙ ap (status_of result) c.failed.ensures;
    })

pub returns-in-Err : goal.returns-in-Err
returns-in-Err g c = inl (record {
  fault = c.in-Err.fault;
  input_is = c.in-Err.ensures;
  device = refl;
  prints = c.given_up.ensures.says;
  status_is = c.given_up.ensures.status;
})
