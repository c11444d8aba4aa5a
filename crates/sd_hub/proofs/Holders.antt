-- The session that used a lane last, and where the lane's store lies.
use Rattle.std.proofs.Common.{◌≡◌, ◌⊎◌, ℕ, zero, suc, refl, sym, ap, subst, inl, inr, Option, Some, None, IsSome, List, [], ◌∷◌, slice_get}
use Rattle.std.specs.Option.{option_or}
use Rattle.sd_line.specs.Ends.{EarlierAreOver, ToldSession, last_store}
use Rattle.sd_session.specs.Session.{IsRunning, store_of}
use Rattle.sd_spool.specs.Job.{StoreState}
use Rattle.sd_world.specs.Honest.{StoreIsTrue}
use Rattle.sd_hub.specs.Worlds.{last_ticket}

-- the last of these sessions is at this place
pub record LastIs (ss : List ToldSession) : Type 0 where
  pub place : ℕ
  pub s : ToldSession
  pub there : slice_get ss place ≡ Some s
  pub ticket_is : last_ticket ss ≡ Some s.session.key.id
  pub store_is : last_store ss ≡ store_of s.session

-- there is none, or it is at some place
pub last_of : (ss : List ToldSession) → (ss ≡ []) ⊎ LastIs ss
last_of [] = inl refl
last_of (s ∷ []) = inr (record { place = 0; s = s; there = refl; ticket_is = refl; store_is = refl })
last_of (s ∷ t ∷ ss) = elim (last_of (t ∷ ss)) [
  | inl none ↦ absurd (cc none)
  | inr l ↦ inr (record { place = suc l.place; s = l.s; there = l.there; ticket_is = l.ticket_is; store_is = l.store_is })
]

-- one that goes on is the last
pub running_last : (ss : List ToldSession) (at : ℕ) (s : ToldSession) → EarlierAreOver ss → slice_get ss at ≡ Some s → IsRunning s.session.status → last_ticket ss ≡ Some s.session.key.id
running_last [] at s over there runs = absurd (cc there)
running_last (x ∷ []) zero s over there runs = let same : x ≡ s = cc there in ap (λ (y : ToldSession). Some y.session.key.id) same
running_last (x ∷ []) (suc at) s over there runs = absurd (cc there)
running_last (x ∷ t ∷ ss) zero s over there runs =
    let same : x ≡ s = cc there in
    absurd (over.0 (subst (λ (y : ToldSession). IsRunning y.session.status) (sym same) runs))
running_last (x ∷ t ∷ ss) (suc at) s over there runs = running_last (t ∷ ss) at s over.1 there runs

-- a store that lies in one of two places is honest if both are
pub either_true : (here there : Option StoreState) → StoreIsTrue here → StoreIsTrue there → StoreIsTrue (option_or here there)
either_true None there own other = other
either_true (Some store) there own other = own

-- it lies in the second if it isn't in the first
pub else_there : (here there : Option StoreState) → IsSome (option_or here there) → here ≡ None → IsSome there
else_there None there some none = some
else_there (Some store) there some none = absurd (cc none)

-- without a session it lies in the lane
pub lies_here : (here : Option StoreState) (ss : List ToldSession) → ss ≡ [] → IsSome (option_or here (last_store ss)) → IsSome here
lies_here None ss none some = subst (λ (l : List ToldSession). IsSome (last_store l)) none some
lies_here (Some store) ss none some = refl
