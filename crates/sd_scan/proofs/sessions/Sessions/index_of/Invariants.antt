use Rattle.std.proofs.Common.{◌≡◌, ◌≤◌, ℕ, false, length, slice_get}
use Rattle.std.specs.Prelude.{Some}
use Rattle.sd_base.specs.Key.{is_key}
use Rattle.sd_scan.specs.declared.session.Session.{Session}
use Rattle.sd_scan.proofs.sessions.Sessions.index_of.Given as goal

abbrev pub invariant-loop-at : goal.invariant-loop-at
invariant-loop-at l = record {
  within : l.at ≤ length l.self.found.items;
  none : (place : ℕ) (one : Session) → l.at ≤ place → slice_get l.self.found.items place ≡ Some one → is_key l.key one.key ≡ false;
}

abbrev pub decreases-loop-at : goal.decreases-loop-at
decreases-loop-at l = l.at
