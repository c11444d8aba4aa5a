use Rattle.std.proofs.Common.{arith}
use Rattle.sd_hub.proofs.Lasts.{most_is, next_is}
use Rattle.sd_hub.proofs.numbers.next_number.Goals as goal

pub overflow_add-result : goal.overflow_add-result
overflow_add-result g c =
    let most = most_is c.args.sessions.now c.in-Some.last.now c.in-Some.ensures.value c.number.result c.number.ensures c.requires in
    omega (arith, most)

pub returns-in-Some : goal.returns-in-Some
returns-in-Some g c = next_is c.args.sessions.now c.in-Some.last.now c.in-Some.ensures.value c.number.result c.number.ensures
