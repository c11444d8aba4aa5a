use Rattle.std.proofs.Common.{◌≡◌, ◌<◌, ◌∙◌, ℕ, inl, inr, sym, ap, subst, Some}
use Rattle.slab.proofs.SlabLemmas.{Contains-cons, Contains-cons_cases, Contains-entries}
use Rattle.sd_serve.specs.Connections.{IsOpen, OpenTable, open_at}
use Rattle.sd_serve.proofs.ConnectionLemmas.{comes_with, covers_later, covers_same, first_there, none_of_all, none_there, oldest_of_all}
use Rattle.sd_serve.specs.declared.connection_table.OpenConnection.{OpenConnection}
use Rattle.sd_serve.proofs.connection_table.ConnectionTable.oldest_after.Goals as goal

pub loop-place-init : goal.loop-place-init
loop-place-init c =
    let left = c.into_iter-place-iterator.ensures.into_iter_gives ∙ c.iter-place-items.ensures.rest in (
      tt,
      tt,
      λ place one found. inl (rw left ((Contains-entries c.self.inside.held place one).1
          (subst (λ (t : OpenTable). open_at t place ≡ Some one) (sym c.self.view_is) found))),
      λ place one there. subst (λ (t : OpenTable). open_at t place ≡ Some one) c.self.view_is ((Contains-entries c.self.inside.held place one).0 (rw left at there)),
      tt,
      tt,
    )

pub loop-place-preserved : goal.loop-place-preserved
loop-place-preserved c =
    let at = c.in-Some.ensures.steps in
    let here : open_at c.args.self.now c.in-Some.place ≡ Some c.in-Some.connection.now =
    c.loop-place.invariant.3 c.in-Some.place c.in-Some.connection.now (rw at (first_there _ _)) in (
      tt,
      tt,
      λ place one found. elim (c.loop-place.invariant.2 place one found) [
        | inl there ↦ elim (Contains-cons_cases _ _ _ (rw at at there)) [
          | inl same ↦ inr (covers_same c.args.talk c.older-oldest.result c.in-Some.connection.now one (ap (λ e. e.1) same) c.older-oldest.ensures.covers)
          | inr rest ↦ inl rest
        ]
        | inr covers ↦ inr (covers_later c.args.talk c.loop-place.oldest c.older-oldest.result one c.older-oldest.ensures.before covers)
      ],
      λ place one there. c.loop-place.invariant.3 place one (rw at (Contains-cons _ _ _ there)),
      comes_with (λ o. open_at c.args.self.now o.0 ≡ Some o.1) (λ o. c.args.talk < o.1.talk) c.loop-place.oldest c.older-oldest.result _
          c.older-oldest.ensures.comes c.loop-place.invariant.4 (λ o is beyond. subst (λ (p : ℕ × OpenConnection). open_at c.args.self.now p.0 ≡ Some p.1) (sym is) here),
      comes_with (λ o. c.args.talk < o.1.talk) (λ o. c.args.talk < o.1.talk) c.loop-place.oldest c.older-oldest.result _
          c.older-oldest.ensures.comes c.loop-place.invariant.5 (λ o is beyond. beyond),
    )

pub returns-clause-oldest : goal.returns-clause-oldest
returns-clause-oldest c =
    oldest_of_all c.args.talk (IsOpen c.args.self.now) c.loop-place.oldest
    (λ other is. elim (c.loop-place.invariant.2 is.0 other is.1) [
      | inl there ↦ absurd (none_there _ (rw c.in-None.ensures.steps.0 at there))
      | inr covers ↦ covers
    ])

pub returns-clause-none : goal.returns-clause-none
returns-clause-none c =
    none_of_all c.args.talk (IsOpen c.args.self.now) c.loop-place.oldest
    (λ other is. elim (c.loop-place.invariant.2 is.0 other is.1) [
      | inl there ↦ absurd (none_there _ (rw c.in-None.ensures.steps.0 at there))
      | inr covers ↦ covers
    ])
