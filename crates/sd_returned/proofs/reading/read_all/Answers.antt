use Rattle.std.proofs.Common.{◌≡◌, ◌++◌, List, [], ◌∷◌, sym, ap, subst, ◌∙◌, arith, length, length-append, append-nil}
use Rattle.std.proofs.lemmas.List.{append_assoc, nil_from_length}
use Rattle.std.proofs.lemmas.Slice.Zip.{AllZip-long}
use Rattle.std.specs.List.{AllZip}
use Rattle.std.specs.Vec.Iter.{into_iter_items}
use Rattle.sd_returned.specs.Backs.{Answers}
use Rattle.sd_returned.specs.declared.asked.Asked.{Asked}
use Rattle.sd_returned.specs.declared.back.JobBack.{JobBack}
use Rattle.sd_returned.proofs.EndLemmas.{zip_more}
use Rattle.sd_returned.proofs.ReadLemmas.{answers_before}
use Rattle.sd_returned.proofs.reading.read_all.Goals as goal

pub loop-asked-init : goal.loop-asked-init
loop-asked-init g c =
    let from = c.into_iter-asked-iterator.ensures.into_iter_gives in
    record {
      can = tt;
      finite = tt;
      each = ([], sym from.0, subst (λ (l : List JobBack). AllZip (Answers c.args.world.now) [] l) (sym c.requires.0) tt);
      room = c.requires.1;
      keeps = λ key spans records l. l;
    }

pub push_reserved-requires : goal.push_reserved-requires
push_reserved-requires g c =
    let i = c.loop-asked.invariant in
    let backs = c.loop-asked.backs in
    let many = AllZip-long (Answers c.args.world.now) i.each.0 backs.items i.each.2 in
    let left = ap length c.in-Some.ensures.steps.0 in
    let all = ap length i.each.1 ∙ length-append i.each.0 (into_iter_items c.loop-asked.asked-iterator) in
    omega (arith, many, left, all, i.room, backs.ok.0)

pub loop-asked-preserved : goal.loop-asked-preserved
loop-asked-preserved g c =
    let i = c.loop-asked.invariant in
    let front = i.each.0 in
    let asked = c.in-Some.asked in
    let rest = into_iter_items c.next.new.self in
    let one = answers_before c.args.world.now c.loop-asked.world asked c.answer.result i.keeps c.answer.ensures.answers in
    record {
      can = tt;
      finite = tt;
      each = (
        front ++ asked ∷ [],
        i.each.1 ∙ ap (λ l. front ++ l) c.in-Some.ensures.steps.0 ∙ sym (append_assoc front (asked ∷ []) rest),
        subst (λ (l : List JobBack). AllZip (Answers c.args.world.now) (front ++ asked ∷ []) l) (sym c.push_reserved.ensures.items)
            (zip_more (Answers c.args.world.now) front c.loop-asked.backs.items asked c.answer.result i.each.2 one),
      );
      room = omega (arith, i.room, c.push_reserved.ensures.capacity);
      keeps = λ key spans records l. c.answer.ensures.keeps key spans records (i.keeps key spans records l);
    }

pub returns : goal.returns
returns g c =
    let i = c.loop-asked.invariant in
    let it = c.loop-asked.asked-iterator in
    let done : into_iter_items it ≡ [] = nil_from_length (into_iter_items it) (omega (arith, it.rest.ok.0, c.in-None.ensures.steps.0)) in
    subst (λ (l : List Asked). AllZip (Answers c.args.world.now) l c.loop-asked.backs.items) (sym (i.each.1 ∙ ap (λ l. i.each.0 ++ l) done ∙ append-nil i.each.0)) i.each.2
