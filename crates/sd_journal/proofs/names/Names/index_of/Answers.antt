use Rattle.std.proofs.Common.{◌∙◌, ◌++◌, ◌∷◌, [], ap, ap₂, sym, refl, arith, subst, None}
use Rattle.sd_journal.specs.Names.{IsPlaceOf}
use Rattle.sd_journal.proofs.NameLemmas.{with_found, with_new, different_with}
use Rattle.sd_journal.proofs.names.Names.index_of.Goals as goal

pub returns-in-Some-clause-names : goal.returns-in-Some-clause-names
returns-in-Some-clause-names c = sym (with_found c.args.self.now.names c.args.name.now c.in-Some.place c.in-Some.ensures)

pub returns-in-Some-clause-within : goal.returns-in-Some-clause-within
returns-in-Some-clause-within c = (c.in-Some.ensures.there c.in-Some.place refl).0

pub invariant_of-self : goal.invariant_of-self
invariant_of-self c =
    let names = c.self.inside.names.items in
    let none : IsPlaceOf names c.args.name.now None = subst (λ l. IsPlaceOf l c.args.name.now None) (sym (ap (λ v. v.names) c.self.view_is)) c.in_default.ensures in
    let memory = c.self.invariant.memory in
    let places = c.self.invariant.places in
    let len = c.push_reserved.ensures.len in
    let capacity = c.push_reserved.ensures.capacity in
    let some = c.requires in
    let room = ap (λ v. v.room) c.self.view_is in
    record {
      different = rw (c.push_reserved.ensures.items, c.copy.ensures) (different_with names c.args.name.now c.self.invariant.different none);
      memory = omega (arith, memory, len, capacity, some, room);
      places = omega (arith, places, len, some, room);
    }

pub returns-clause-names : goal.returns-clause-names
returns-clause-names c =
    c.push_reserved.ensures.items ∙ ap₂ (λ l n. l ++ n ∷ []) (ap (λ v. v.names) c.self.view_is) c.copy.ensures
    ∙ sym (with_new c.args.self.now.names c.args.name.now c.in_default.ensures)

pub returns-clause-different : goal.returns-clause-different
returns-clause-different c =
    let none : IsPlaceOf c.self.inside.names.items c.args.name.now None = subst (λ l. IsPlaceOf l c.args.name.now None) (sym (ap (λ v. v.names) c.self.view_is)) c.in_default.ensures in
    rw (c.push_reserved.ensures.items, c.copy.ensures) (different_with c.self.inside.names.items c.args.name.now c.self.invariant.different none)
