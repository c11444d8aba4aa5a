use Rattle.sd_world.proofs.MemorySteps.{memory_leaves, no_memory}
use Rattle.sd_world.proofs.laws.moves_want_memory.Goals as goal

pub returns : goal.returns
returns g c = λ meaning old new event reply m. (memory_leaves meaning old new event reply m, no_memory meaning old new event reply m)
