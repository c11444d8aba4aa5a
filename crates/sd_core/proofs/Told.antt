-- What is told of a session that was found.
use Rattle.std.proofs.Common.{◌≡◌, ℕ, Some, List, get_or, sym, ap, subst, ◌∙◌}
use Rattle.std.specs.Option.{option_map}
use Rattle.sd_session.specs.declared.status.Status.{Status}
use Rattle.sd_world.specs.World.{WorldSession, session_at}
use Rattle.sd_events.specs.Found.{IsFoundAt}
use Rattle.sd_events.proofs.Found.{read_found}
use Rattle.sd_core.specs.View.{status_at}

-- the status of the session that was read at its place
pub status_read : (ticket : ℕ) (es items sessions : List WorldSession) (at : ℕ) (e read : WorldSession) (status : Status)
    → IsFoundAt ticket es at → es ≡ items → items ≡ sessions → read ≡ get_or items at read → e ≡ read → status ≡ e.session.status
    → Some status ≡ status_at ticket sessions
status_read ticket es items sessions at e read status found one same is view told =
    let there = (read_found ticket es items at e read found one is view).found in
    let at_ticket : session_at ticket sessions ≡ Some e = subst (λ (l : List WorldSession). session_at ticket l ≡ Some e) same there in
    ap Some told ∙ sym (ap (option_map (λ (x : WorldSession). x.session.status)) at_ticket)
