-- A session that is cancelled goes on no longer.
use Rattle.std.proofs.Common.{◌≡◌, ℕ, inl, inr, List, [], Some, sym, ap, subst, ◌∙◌}
use Rattle.sd_driver.specs.Meaning.{Meaning}
use Rattle.sd_base.specs.declared.number.SessionKey.{SessionKey}
use Rattle.sd_machine.specs.declared.event.Event.{Event}
use Rattle.sd_machine.specs.declared.event.Event.TheVariants.{Cancel}
use Rattle.sd_machine.specs.declared.reply.Reply.{Reply}
use Rattle.sd_machine.specs.declared.reply.Reply.TheVariants.{Cancelled, Refused}
use Rattle.sd_world.proofs.Lookups.{session_id, session_at-same}
use Rattle.sd_world.proofs.Views.{cancelled_not_running}
use Rattle.sd_world.specs.Moves.{Moves}
use Rattle.sd_world.specs.World.{HasTicket, WorldSession, WorldView, session_at}
use Rattle.sd_session.specs.Session.{IsRunning, SessionView}
use Rattle.sd_session.specs.declared.status.Status.{Status}
use Rattle.sd_session.specs.declared.status.Status.TheVariants as status
use Rattle.sd_core.specs.Tries.{Answers}

pub cancelled_ends : {D : Type 0} (meaning : D → Meaning) (a b : WorldView D) (ticket : ℕ) (reply : Reply) → Moves meaning a (Cancel ticket) reply b
    → (e : WorldSession) → HasTicket b ticket e → IsRunning e.session.status → ⊥
cancelled_ends {D} meaning a b ticket Cancelled (f, s, has, change, new_is) e there is =
    let key : s.key ≡ f.session.key = ap (λ (x : SessionView). x.key) change.is in
    let id : s.key.id ≡ ticket = ap (λ (k : SessionKey). k.id) key ∙ session_id ticket a.sessions f has in
    let found : session_at ticket b.sessions ≡ Some (record f { session = s }) =
    ap (λ (w : WorldView D). session_at ticket w.sessions) new_is ∙ session_at-same ticket (record f { session = s }) a.sessions f has id in
    let same : record f { session = s } ≡ e = cc in
    let over : e.session.status ≡ status.Cancelled = ap (λ (x : WorldSession). x.session.status) (sym same) ∙ ap (λ (x : SessionView). x.status) change.is in
    cancelled_not_running (subst (λ (x : Status). IsRunning x) over is)
cancelled_ends meaning a b ticket (Refused why) m e there is = elim m.0 [
  | inl p ↦ absurd (cc (p.0, m.1, there))
  | inr p ↦ let same : p.0 ≡ e = cc (p.1, m.1, there) in p.2.0 (subst (λ (x : WorldSession). IsRunning x.session.status) (sym same) is)
]
cancelled_ends meaning a b ticket reply m e there is = absurd m

pub given_up : {D : Type 0} (meaning : D → Meaning) (rounds : ℕ) (a b : WorldView D) (ticket : ℕ) (reply : Reply) (events : List Event) (replies : List Reply)
    → Answers meaning rounds a (Cancel ticket) reply events replies b → (e : WorldSession) → HasTicket b ticket e → IsRunning e.session.status → ⊥
given_up meaning rounds a b ticket reply events replies answers = elim answers.ends [
  | inl last ↦ cancelled_ends meaning answers.middle b ticket reply last.step.moves
  | inr (inl last) ↦ absurd (cc last.may)
  | inr (inr last) ↦ absurd (cc last.may)
]
