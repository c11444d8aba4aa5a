use Rattle.std.proofs.Common.{◌≡◌, ◌+◌, ◌++◌, ◌∷◌, [], Some, refl, sym, ap, ◌∙◌, arith, length, slice_get}
use Rattle.std.proofs.lemmas.List.{append_assoc, get_or-append-add, length-append}
use Rattle.std.proofs.lemmas.Option.{slice_get_read}
use Rattle.std.specs.Vec.Iter.{into_iter_items}
use Rattle.sd_moments.proofs.jobs.make_jobs.Goals as goal

pub make_job-requires : goal.make_job-requires
make_job-requires g c =
    let each = c.loop-seat.invariant.each in
    let front = each.0 in
    let seat = c.in-Some.seat in
    let rest = into_iter_items c.next.new.self in
    let all = front ++ seat ∷ rest in
    let is : c.args.seats.items ≡ all = each.1 ∙ ap (λ l. front ++ l) c.in-Some.ensures.steps.0 in
    let there : slice_get all (length front + 0) ≡ Some seat =
    slice_get_read all (length all) (length front + 0) seat refl (omega (arith, length-append front (seat ∷ rest))) (sym (get_or-append-add front (seat ∷ rest) 0 seat)) in
    c.requires (length front + 0) seat (ap (λ l. slice_get l (length front + 0)) is ∙ there)

pub loop-seat-preserved : goal.loop-seat-preserved
loop-seat-preserved g c =
    let each = c.loop-seat.invariant.each in
    let seat = c.in-Some.seat in
    record {
      can = tt;
      finite = tt;
      each = (
        each.0 ++ seat ∷ [],
        each.1 ∙ ap (λ l. each.0 ++ l) c.in-Some.ensures.steps.0 ∙ sym (append_assoc each.0 (seat ∷ []) (into_iter_items c.next.new.self)),
      );
    }
