use Rattle.sd_theorem.proofs.ThreadStops.{thread_stop_theorem}
use Rattle.sd_theorem.proofs.running.thread_stop_theorem.Goals as goal

pub returns : goal.returns
returns g c = λ is table time line ends receipts first from sound key spans w was. thread_stop_theorem is table time line ends receipts first from sound key spans w was
