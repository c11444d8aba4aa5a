use Rattle.std.proofs.Common.{refl, ap, sym, subst, inl}
use Rattle.std.specs.Prelude.{IsSome}
use Rattle.sd_session.specs.Session.{SessionView}
use Rattle.sd_line.proofs.prepared.give_up.Goals as goal

pub store_back-requires-clause-running : goal.store_back-requires-clause-running
store_back-requires-clause-running g c κs within = inl (ap (λ (x : SessionView). x.status) c.prepared.invariant.opens.starts.is)

pub store_back-requires-clause-stored : goal.store_back-requires-clause-stored
store_back-requires-clause-stored g c κs within = subst IsSome (sym c.prepared.invariant.opens.store_is) refl
