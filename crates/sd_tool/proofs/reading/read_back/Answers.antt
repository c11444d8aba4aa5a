use Rattle.sd_text.specs.Says.{said_view}
use Rattle.sd_tool.proofs.reading.read_back.Goals as goal

pub returns : goal.returns
returns g c = (c.read_out-result.result.result, said_view g.W.Write.contents c.read_out-result.result.out, c.read_out-result.ensures, c.print_read.ensures)
