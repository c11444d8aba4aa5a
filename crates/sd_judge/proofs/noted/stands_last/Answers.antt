use Rattle.std.proofs.Common.{◌-◌, drop, arith, eq-eqb}
use Rattle.std.proofs.lemmas.Bool.{eqb-true}
use Rattle.sd_judge.proofs.RunLemmas.{one_length}
use Rattle.sd_judge.proofs.noted.stands_last.Goals as goal

pub returns-clause-stands : goal.returns-clause-stands
returns-clause-stands g c = λ held at size.
    let found = rw c.in-Some.is at (c.in_ok-head.ensures.there at.honest at.shows held at.there) in
    let bytes = drop c.args.note.last held.bytes in (
      (λ t. record {
        key = c.in-Some.head.key;
        number = c.args.note.next_number - 1;
        body = found.0;
        there = found.1;
        next_is = omega (arith, c.if-note-eq0.false);
        ends = omega (arith, found.2, c.if-note.false, eqb-true _ _ t);
      }),
      (λ stands. (
          let long = one_length bytes c.in-Some.head.key stands.key _ stands.number found.0 stands.body found.1 stands.there in
          eq-eqb _ _ (omega (arith, found.2, long, stands.ends))
          )),
    )
