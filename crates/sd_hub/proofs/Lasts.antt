-- The last of sessions.
use Rattle.std.proofs.Common.{◌≡◌, ℕ, zero, suc, ◌+◌, ◌-◌, ◌≤◌, sym, ap, ◌∙◌, arith, Option, Some, None, IsSome, IfSome, List, [], ◌∷◌, length, slice_get}
use Rattle.std.proofs.lemmas.Option.{slice_get_within}
use Rattle.sd_base.specs.Limits.{most_number}
use Rattle.sd_line.specs.Ends.{ToldSession}
use Rattle.sd_hub.specs.Worlds.{last_ticket, next_number}
use Rattle.sd_hub.specs.Tickets.{HaveTickets}

-- the session at the last place has the last ticket, and the next number is that after it
last_at : (ss : List ToldSession) (at : ℕ) (s : ToldSession) → at + 1 ≡ length ss → slice_get ss at ≡ Some s
    → (last_ticket ss ≡ Some s.session.key.id) × (next_number ss ≡ s.session.key.id + 1)
last_at [] at s long there = absurd (cc there)
last_at (x ∷ []) zero s long there = let same : x ≡ s = cc there in (ap (λ (y : ToldSession). Some y.session.key.id) same, ap (λ (y : ToldSession). y.session.key.id + 1) same)
last_at (x ∷ []) (suc at) s long there = absurd (cc there)
last_at (x ∷ y ∷ ss) zero s long there = absurd (omega (arith, long))
last_at (x ∷ y ∷ ss) (suc at) s long there = last_at (y ∷ ss) at s (omega (arith, long)) there

-- The last of these sessions is this one.
module _ (ss : List ToldSession) (s : ToldSession) (is : Some s ≡ slice_get ss (length ss - 1)) where
  tells : (last_ticket ss ≡ Some s.session.key.id) × (next_number ss ≡ s.session.key.id + 1)
  tells =
      let within = slice_get_within ss (length ss - 1) s (sym is) in
      last_at ss (length ss - 1) s (omega (arith, within)) (sym is)

  -- the next number is that after its own
  pub next_is : (n : ℕ) → n ≡ s.session.key.id → n + 1 ≡ next_number ss
  next_is n own = ap (λ (k : ℕ). k + 1) own ∙ sym tells.1

  -- and if all have tickets, its own is small enough
  pub most_is : (n : ℕ) → n ≡ s.session.key.id → HaveTickets ss → n ≤ most_number
  most_is n own have = let most = (have (length ss - 1) s (sym is)).1 in omega (arith, own, most)

  -- a ticket of its number is the last one
  pub ticket_is : (n : ℕ) (ticket : Option ℕ) → n ≡ s.session.key.id → HaveTickets ss → ((1 ≤ n) × (n ≤ most_number) → IsSome ticket) → IfSome ticket (λ number. number ≡ n)
      → ticket ≡ last_ticket ss
  ticket_is n (Some t) own have some same = ap Some (same ∙ own) ∙ sym tells.0
  ticket_is n None own have some same =
      let h = have (length ss - 1) s (sym is) in
      let least = h.0 in
      let most = h.1 in
      absurd (cc (some (omega (arith, own, least), omega (arith, own, most))))
