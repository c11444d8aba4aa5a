use Rattle.std.proofs.Common.{◌≡◌, ◌≤◌, sym, subst, Some}
use Rattle.sd_serve.specs.Connections.{OpenTable, open_at}
use Rattle.sd_serve.proofs.connection_table.ConnectionTable.numbers_differ.Goals as goal

pub returns-clause-once : goal.returns-clause-once
returns-clause-once c = λ a b x y at_a at_b same.
    c.self.invariant.numbered.once a b x y
    (subst (λ (t : OpenTable). open_at t a ≡ Some x) (sym c.self.view_is) at_a)
    (subst (λ (t : OpenTable). open_at t b ≡ Some y) (sym c.self.view_is) at_b) same

pub returns-clause-given : goal.returns-clause-given
returns-clause-given c = λ x is.
    subst (λ (t : OpenTable). x.talk ≤ t.last) c.self.view_is
    (c.self.invariant.numbered.given is.0 x (subst (λ (t : OpenTable). open_at t is.0 ≡ Some x) (sym c.self.view_is) is.1))
