use Rattle.std.proofs.Common.{◌++◌, ◌∷◌, [], ap, refl, sym, subst, ◌∙◌}
use Rattle.sd_unpack.specs.Unpacking.{Unpacking, Unpacks}
use Rattle.sd_salvage.proofs.salvager.let_go.Goals as goal

pub loop-rec-init : goal.loop-rec-init
loop-rec-init c = record { damage = refl; unpacks = λ bodies taken u. (taken, u) }

pub loop-rec-preserved : goal.loop-rec-preserved
loop-rec-preserved c =
    let so_far = c.loop-rec.invariant in
    let first = rw c.in-Some.is at c.take_record.ensures.first in
    let next = rw c.in-Some.is at c.take_record.ensures.unpacks in
    record {
      damage = sym (ap (λ (u : Unpacking). u.damage) first) ∙ so_far.damage;
      unpacks = λ bodies taken u.
          let more = so_far.unpacks bodies taken u in
          (more.0 ++ c.in-Some.rec ∷ [], next bodies more.0 more.1);
    }

pub returns-clause-unpacks : goal.returns-clause-unpacks
returns-clause-unpacks c = λ bodies taken u.
    let more = c.loop-rec.invariant.unpacks bodies taken u in
    (more.0, subst (Unpacks bodies more.0) (sym c.in_default.ensures.unchanged) more.1)
