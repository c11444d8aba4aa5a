-- Whether what is read was purged.
use Rattle.std.proofs.Common.{◌≡◌, ◌≤◌, ◌||◌, ◌&&◌, ◌==◌, not, ℕ, Bool, false, refl, sym, ap, ◌∙◌, arith, Option, Some, None, List, get_or}
use Rattle.sd_base.specs.Limits.{most_number}
use Rattle.sd_base.specs.declared.number.SessionKey.{SessionKey}
use Rattle.sd_base.specs.Key.{is_key}
use Rattle.sd_events.specs.Found.{IsFoundAt}
use Rattle.sd_events.proofs.Found.{read_found}
use Rattle.sd_span.specs.declared.span.Span.{Span}
use Rattle.sd_world.specs.Drives.{was_purged}
use Rattle.sd_world.specs.Reading.{is_gone, is_purged_session, any_purged_at}
use Rattle.sd_world.specs.Rules.{IsWorld, NumbersRise}
use Rattle.sd_world.specs.World.{WorldView, WorldSession, session_at}
use Rattle.sd_world.proofs.Lookups.{session_id}
use Rattle.sd_world.proofs.Pairs.{is_numbered}
use Rattle.sd_core.specs.Numbers.{NumbersAreTickets}

-- a world's sessions have numbers that are tickets
pub are_tickets : {D : Type 0} (w : WorldView D) → IsWorld w → NumbersAreTickets w.sessions
are_tickets w h id e there =
    let n = is_numbered w.limits.time 1 w.next id w.sessions e h.numbers there in
    let same = session_id id w.sessions e there in
    let high = n.below in
    let most = h.next_most in
    omega (arith, same, high, most)

-- no session has the key's number
pub none_of_key : (key : SessionKey) (es : List WorldSession) → session_at key.id es ≡ None → is_purged_session key (session_at key.id es) ≡ false
none_of_key key es none = ap (is_purged_session key) none

-- the key's number is no ticket, so none has it
pub no_ticket : (key : SessionKey) (es : List WorldSession) → (time : ℕ) × (next : ℕ) × NumbersRise time 1 next es → NumbersAreTickets es
    → ((1 ≤ key.id) × (key.id ≤ most_number) → ⊥) → is_purged_session key (session_at key.id es) ≡ false
no_ticket key es rise most none = from (session_at key.id es) refl
  where
    from : (o : Option WorldSession) → session_at key.id es ≡ o → is_purged_session key (session_at key.id es) ≡ false
    from None is = none_of_key key es is
    from (Some e) is =
        let n = is_numbered rise.0 1 rise.1 key.id es e rise.2 is in
        let same = session_id key.id es e is in
        let low = n.least_is in
        absurd (none (omega (arith, same, low), most key.id e is))

-- the session that was found by it tells
pub told_by : (key : SessionKey) (es : List WorldSession) (ticket at : ℕ) (e read : WorldSession) → IsFoundAt ticket es at → ticket ≡ key.id
    → read ≡ get_or es at read → e ≡ read → is_purged_session key (session_at key.id es) ≡ (is_key key e.session.key && was_purged e.session.status)
told_by key es ticket at e read found number is same =
    ap (is_purged_session key) (ap (λ n. session_at n es) (sym number) ∙ (read_found ticket es es at e read found refl is same).found)

-- as it was read in the world
pub gone_there : {D : Type 0} (w : WorldView D) (key : SessionKey) (spans : List Span) (sessions : List WorldSession) (gone : Bool) → sessions ≡ w.sessions
    → gone ≡ (is_purged_session key (session_at key.id sessions) || (not (key.time == w.limits.time) && any_purged_at w.desk spans))
    → gone ≡ is_gone w key spans
gone_there w key spans sessions gone had is =
    is ∙ ap (λ es. is_purged_session key (session_at key.id es) || (not (key.time == w.limits.time) && any_purged_at w.desk spans)) had
