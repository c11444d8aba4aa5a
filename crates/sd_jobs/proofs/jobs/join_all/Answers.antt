use Rattle.std.proofs.Common.{◌≡◌, ◌++◌, List, [], ◌∷◌, sym, ap, subst, ◌∙◌, arith, length, length-append, append-nil}
use Rattle.std.proofs.lemmas.List.{append_assoc, nil_from_length}
use Rattle.std.specs.Vec.Iter.{into_iter_items}
use Rattle.sd_jobs.specs.Jobs.{JobIs, JobEndIs, EndEach}
use Rattle.sd_jobs.proofs.EachLemmas.{each_length, each_more}
use Rattle.sd_jobs.proofs.jobs.join_all.Goals as goal

pub loop-one-init : goal.loop-one-init
loop-one-init g c =
    let from = c.into_iter-one-iterator.ensures.into_iter_gives in
    record {
      can = tt;
      finite = tt;
      each = ([], sym from.0, subst (λ (l : List JobEndIs). EndEach [] l) (sym c.requires.0) tt);
      room = c.requires.1;
    }

pub push_reserved-requires : goal.push_reserved-requires
push_reserved-requires g c =
    let i = c.loop-one.invariant in
    let ends = c.loop-one.ends in
    let many = each_length i.each.0 ends.items i.each.2 in
    let left = ap length c.in-Some.ensures.steps.0 in
    let all = ap length i.each.1 ∙ length-append i.each.0 (into_iter_items c.loop-one.one-iterator) in
    omega (arith, many, left, all, i.room, ends.ok.0)

pub loop-one-preserved : goal.loop-one-preserved
loop-one-preserved g c =
    let i = c.loop-one.invariant in
    let front = i.each.0 in
    let one = c.in-Some.one in
    let rest = into_iter_items c.next.new.self in
    record {
      can = tt;
      finite = tt;
      each = (
        front ++ one ∷ [],
        i.each.1 ∙ ap (λ l. front ++ l) c.in-Some.ensures.steps.0 ∙ sym (append_assoc front (one ∷ []) rest),
        subst (λ (l : List JobEndIs). EndEach (front ++ one ∷ []) l) (sym c.push_reserved.ensures.items) (each_more front c.loop-one.ends.items one c.join.result i.each.2 c.join.ensures),
      );
      room = omega (arith, i.room, c.push_reserved.ensures.capacity);
    }

pub returns : goal.returns
returns g c =
    let i = c.loop-one.invariant in
    let it = c.loop-one.one-iterator in
    let done : into_iter_items it ≡ [] = nil_from_length (into_iter_items it) (omega (arith, it.rest.ok.0, c.in-None.ensures.steps.0)) in
    subst (λ (l : List JobIs). EndEach l c.loop-one.ends.items) (sym (i.each.1 ∙ ap (λ l. i.each.0 ++ l) done ∙ append-nil i.each.0)) i.each.2
