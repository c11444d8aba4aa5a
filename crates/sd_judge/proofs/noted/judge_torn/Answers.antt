use Rattle.std.proofs.Common.{◌≡◌, arith, refl, sym, ◌∙◌}
use Rattle.sd_base.proofs.ChoiceLemmas.{same_some}
use Rattle.sd_judge.proofs.RunLemmas.{one_end}
use Rattle.sd_judge.proofs.noted.judge_torn.Goals as goal

pub returns-else-run-torn-clause-judges : goal.returns-else-run-torn-clause-judges
returns-else-run-torn-clause-judges g c = λ held at size last. (
  refl,
  record {
    long = omega (arith, c.requires, size);
    last = last;
    untorn = λ place torn. (
        let run = c.in_ok-run.ensures.run held at size in
        let same : place ≡ c.in-Some.torn = same_some (sym torn.torn ∙ c.in-Some.is) in
        let most = one_end held.bytes c.args.note.end c.args.note.next_number torn.end torn.next c.in_ok-run.run'.end c.in_ok-run.run'.next torn.run run in
        absurd (omega (arith, torn.past, most, same, c.if-run-torn.false))
        );
  },
)
