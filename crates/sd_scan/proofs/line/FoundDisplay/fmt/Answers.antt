use Rattle.std.proofs.Output.{has_written_of_eq}
use Rattle.sd_scan.proofs.LineLemmas.{line_said, line_said_none}
use Rattle.sd_scan.proofs.line.FoundDisplay.fmt.Goals as goal

pub returns-in-Some-clause-writes : goal.returns-in-Some-clause-writes
returns-in-Some-clause-writes g c = λ plain ok.
    has_written_of_eq _ _ _ _ _
    (line_said c.args.self.now c.in-Some.start c.get-job.result c.as_str-pool.result.now c.end_word-end.result.now c.moment-moment.result c.in-Some.is c.get-job.ensures.value c.as_str-pool.ensures.spelled
    c.end_word-end.ensures c.moment-moment.ensures)
    (c.write.ensures.writes plain ok)

pub returns-in-None-clause-writes : goal.returns-in-None-clause-writes
returns-in-None-clause-writes g c = λ plain ok.
    has_written_of_eq _ _ _ _ _ (line_said_none c.args.self.now c.end_word-end.result.now c.moment-moment.result c.in-None.is c.end_word-end.ensures c.moment-moment.ensures) (c.write-in-None.ensures.writes plain ok)
