use Rattle.std.proofs.Common.{◌++◌, ◌∷◌, [], sym, ap, ◌∙◌, length}
use Rattle.std.proofs.lemmas.List.{append_assoc}
use Rattle.std.specs.Vec.Iter.{into_iter_items}
use Rattle.sd_jobs.proofs.EachLemmas.{next_is}
use Rattle.sd_returned.proofs.trial.make_jobs.Goals as goal

pub make_job-requires : goal.make_job-requires
make_job-requires g c =
    let each = c.loop-seat.invariant.each in
    c.requires (length each.0) c.in-Some.seat (next_is c.args.seats.items each.0 (into_iter_items c.loop-seat.seat-iterator) (into_iter_items c.next.new.self) c.in-Some.seat each.1 c.in-Some.ensures.steps.0)

pub loop-seat-preserved : goal.loop-seat-preserved
loop-seat-preserved g c =
    let each = c.loop-seat.invariant.each in
    let seat = c.in-Some.seat in
    record {
      can = tt;
      finite = tt;
      each = (
        each.0 ++ seat ∷ [],
        each.1 ∙ ap (λ l. each.0 ++ l) c.in-Some.ensures.steps.0 ∙ sym (append_assoc each.0 (seat ∷ []) (into_iter_items c.next.new.self)),
      );
    }
