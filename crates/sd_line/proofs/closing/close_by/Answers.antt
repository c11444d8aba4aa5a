use Rattle.sd_line.proofs.CloseLemmas.{closed_by}
use Rattle.sd_line.proofs.closing.close_by.Goals as goal

pub returns-in_default : goal.returns-in_default
returns-in_default g c = λ journal may. closed_by journal c.args.session.now c.close.new.self _ c.args.receipt.now c.in_default.ensures.ok may
