use Rattle.std.proofs.Common.{◌≡◌, ◌≢◌, ◌<◌, length, ap, arith, subst, below_more}
use Rattle.std.specs.Prelude.{AllPairs}
use Rattle.std.proofs.lemmas.Bool.{iff_false}
use Rattle.sd_journal.specs.Names.{name_at}
use Rattle.sd_journal.proofs.NameLemmas.{found_is, none_found}
use Rattle.sd_journal.proofs.names.Names.find.Goals as goal

pub returns-then-is_at : goal.returns-then-is_at
returns-then-is_at c =
    let different = subst (AllPairs (λ a b. a ≢ b)) (ap (λ v. v.names) c.self.view_is) c.self.invariant.different in
    found_is c.args.self.now.names c.args.name.now c.args.likely different (c.is_at.ensures.0 c.if-is_at.true)

pub loop-place-init : goal.loop-place-init
loop-place-init c = λ other below is. absurd (omega (arith, below))

pub loop-place-preserved : goal.loop-place-preserved
loop-place-preserved c =
    let long = ap (λ v. length v.names) c.self.view_is in
    let within : c.loop-place.place < length c.args.self.now.names = omega (arith, long) in
    below_more (λ p. name_at c.args.self.now.names p ≡ c.args.name.now → ⊥) c.loop-place.place c.loop-place.invariant
    (λ same. iff_false c.is_at-in-loop-place.ensures c.if-is_at-2.false (within, same))

pub returns-then-is_at-2 : goal.returns-then-is_at-2
returns-then-is_at-2 c =
    let different = subst (AllPairs (λ a b. a ≢ b)) (ap (λ v. v.names) c.self.view_is) c.self.invariant.different in
    found_is c.args.self.now.names c.args.name.now c.loop-place.place different (c.is_at-in-loop-place.ensures.0 c.if-is_at-2.true)

pub returns : goal.returns
returns c =
    let long = ap (λ v. length v.names) c.self.view_is in
    none_found c.args.self.now.names c.args.name.now (λ place below. c.loop-place.invariant place (omega (arith, long, below)))
