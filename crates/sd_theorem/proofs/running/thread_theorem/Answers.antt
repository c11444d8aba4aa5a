use Rattle.sd_theorem.proofs.Threads.{thread_theorem}
use Rattle.sd_theorem.proofs.running.thread_theorem.Goals as goal

pub returns : goal.returns
returns g c = λ meaning table time line ends receipts w from sound. thread_theorem meaning table time line ends receipts w from sound
