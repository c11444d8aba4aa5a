-- The session that was found, as it is read at its place; and the bay of a drive that is online.
use Rattle.std.proofs.Common.{◌≡◌, ◌<◌, ℕ, Bool, true, false, not, is_some, refl, sym, ap, subst, ◌∙◌, Option, Some, None, List, length, get_or, slice_get, slice_set}
use Rattle.std.proofs.lemmas.Option.{get_or_from_slice_get, slice_get_within}
use Rattle.sd_world.specs.World.{WorldView, WorldSession, BayView, session_at, with_session}
use Rattle.sd_world.proofs.Bays.{IsBayAt}
use Rattle.sd_events.specs.Found.{IsFoundAt, IsOnlineAt}

-- The session of a ticket is this one, at its place.
pub record IsReadAt (ticket : ℕ) (es : List WorldSession) (at : ℕ) (e : WorldSession) : Type 0 where
  pub there : slice_get es at ≡ Some e
  pub found : session_at ticket es ≡ Some e
  pub id_is : e.session.key.id ≡ ticket
  pub changes : (new : WorldSession) → new.session.key.id ≡ ticket → slice_set es at new ≡ with_session new es

-- the place is within the list
pub found_within : (ticket : ℕ) (es : List WorldSession) (at : ℕ) → IsFoundAt ticket es at → at < length es
found_within ticket es at found = slice_get_within es at found.e found.there

-- who was found at a place is who was read there
pub read_found : (ticket : ℕ) (es items : List WorldSession) (at : ℕ) (e read : WorldSession)
    → IsFoundAt ticket es at → es ≡ items → read ≡ get_or items at read → e ≡ read → IsReadAt ticket items at e
read_found ticket es items at e read found one is same =
    let here : IsFoundAt ticket items at = subst (λ (l : List WorldSession). IsFoundAt ticket l at) one found in
    let that : here.e ≡ e = sym (same ∙ is ∙ get_or_from_slice_get items at here.e read here.there) in
    record {
      there = subst (λ (x : WorldSession). slice_get items at ≡ Some x) that here.there;
      found = subst (λ (x : WorldSession). session_at ticket items ≡ Some x) that here.found;
      id_is = subst (λ (x : WorldSession). x.session.key.id ≡ ticket) that here.id_is;
      changes = here.changes;
    }

-- The bay of a drive that is online.

-- it is where it was read
pub bay_read : {D : Type 0} (w : WorldView D) (drive at : ℕ) (bay now : BayView D)
    → IsOnlineAt w drive at → now ≡ get_or w.bays at now → bay ≡ now → IsBayAt w drive at bay
bay_read w drive at bay now on is same =
    let that : on.0 ≡ bay = sym (same ∙ is ∙ get_or_from_slice_get w.bays at on.0 now on.2.there) in
    record { number = on.2.number; there = on.2.there ∙ ap Some that }

-- its place is among them
pub online_within : {D : Type 0} (w : WorldView D) (drive at : ℕ) → IsOnlineAt w drive at → at < length w.bays
online_within w drive at on = slice_get_within w.bays at on.0 on.2.there

-- and there is a drive in it
pub never_empty : {D : Type 0} (w : WorldView D) (drive at : ℕ) (bay now : BayView D)
    → IsOnlineAt w drive at → now ≡ get_or w.bays at now → bay ≡ now → bay.drive ≡ None → ⊥
never_empty {D} w drive at bay now on is same none =
    let that : on.0 ≡ bay = sym (same ∙ is ∙ get_or_from_slice_get w.bays at on.0 now on.2.there) in
    cc (sym on.2.online ∙ ap (λ (b : BayView D). b.drive) that ∙ none)

-- what was asked of a drive, whether it is there
pub none_of : {A : Type 0} (o : Option A) (b : Bool) → is_some o ≡ not b → b ≡ true → o ≡ None
none_of None b is told = refl
none_of (Some x) b is told = absurd (cc (is ∙ ap not told))

pub one_of : {A : Type 0} (o : Option A) (b : Bool) → is_some o ≡ not b → b ≡ false → (x : A) × (o ≡ Some x)
one_of None b is told = absurd (cc (is ∙ ap not told))
one_of (Some x) b is told = (x, refl)
