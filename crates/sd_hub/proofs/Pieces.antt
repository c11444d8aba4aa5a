-- The pieces of one session among those of a queue, and what they are as items and as bodies.
use Rattle.std.proofs.Common.{◌≡◌, ◌≢◌, ℕ, suc, ◌+◌, ◌≤◌, ◌==◌, if◌then◌else◌, refl, sym, ap, ◌∙◌, inl, inr, Bool, true, false, List, [], ◌∷◌, ◌++◌, length, map}
use Rattle.std.proofs.lemmas.Bool.{eq-eqb, ne_eqb}
use Rattle.sd_base.specs.Key.{is_key}
use Rattle.sd_base.specs.declared.number.SessionKey.{SessionKey}
use Rattle.sd_closes.specs.Pieces.{keyed, pieces_in, bodies_in}
use Rattle.sd_lane.specs.Queue.{AreOfLanes, pieces_of}
use Rattle.sd_lane.specs.declared.piece.Piece.{Piece}
use Rattle.sd_lane.specs.declared.piece.Queued.{Queued}
use Rattle.sd_pack.specs.Body.{PackedBody}
use Rattle.sd_line.specs.Ends.{pieces_from}
use Rattle.sd_world.specs.Matches.{bodies_with, body_of_piece}
use Rattle.sd_world.proofs.Lookups.{one_or_two}

-- none of another's are
pub keyed-other : (key other : SessionKey) (n : ℕ) (bs : List PackedBody) → is_key key other ≡ false → keyed key (pieces_from other n bs) ≡ []
keyed-other key other n [] apart = refl
keyed-other key other n (b ∷ bs) apart =
    let p : Piece = record { key = other; seq = n; body = b } in
    ap (λ c. if c then p ∷ keyed key (pieces_from other (n + 1) bs) else keyed key (pieces_from other (n + 1) bs)) apart
    ∙ keyed-other key other (n + 1) bs apart

-- they are those that the pieces were made of
pub bodies_from : (key : SessionKey) (n : ℕ) (bs : List PackedBody) → bodies_in (pieces_from key n bs) ≡ bs
bodies_from key n [] = refl
bodies_from key n (b ∷ bs) = ap (λ l. b ∷ l) (bodies_from key (n + 1) bs)

-- As bodies and as items.

-- the bodies of a session, of pieces that were sent
pub bodies-keyed : (key : SessionKey) (ps : List Piece) → bodies_with key (map body_of_piece ps) ≡ bodies_in (keyed key ps)
bodies-keyed key [] = refl
bodies-keyed key (p ∷ ps) = by (is_key key p.key) (bodies-keyed key ps)
  where
    by : (own : Bool) → bodies_with key (map body_of_piece ps) ≡ bodies_in (keyed key ps)
        → (if own then p.body ∷ bodies_with key (map body_of_piece ps) else bodies_with key (map body_of_piece ps)) ≡ bodies_in (if own then p ∷ keyed key ps else keyed key ps)
    by true e = ap (λ l. p.body ∷ l) e
    by false e = e

-- Of one lane.

-- no piece of the session is in front, if none is there
not_first : (key : SessionKey) (p : Piece) (ps : List Piece) → keyed key (p ∷ ps) ≡ [] → (is_key key p.key ≡ false) × (keyed key ps ≡ [])
not_first key p ps none = by (is_key key p.key) refl none
  where
    by : (own : Bool) → is_key key p.key ≡ own → (if own then p ∷ keyed key ps else keyed key ps) ≡ [] → (is_key key p.key ≡ false) × (keyed key ps ≡ [])
    by true is some = absurd (cc some)
    by false is rest = (is, rest)

-- a lane that has none of it has none of it after the first piece
none_behind : (key : SessionKey) (lane : ℕ) (q : Queued) (qs : List Queued) → keyed key (pieces_of lane (q ∷ qs)) ≡ [] → keyed key (pieces_of lane qs) ≡ []
none_behind key lane q qs none = by (q.lane == lane) none
  where
    by : (own : Bool) → keyed key (if own then q.piece ∷ pieces_of lane qs else pieces_of lane qs) ≡ [] → keyed key (pieces_of lane qs) ≡ []
    by true e = (not_first key q.piece (pieces_of lane qs) e).1
    by false e = e

-- if no other lane has a piece of the session, its pieces are those of the one lane
pub keyed_lane : (key : SessionKey) (lanes lane : ℕ) (qs : List Queued) → AreOfLanes lanes qs
    → ((other : ℕ) → 1 ≤ other → other ≤ lanes → other ≢ lane → keyed key (pieces_of other qs) ≡ [])
    → keyed key (pieces_in qs) ≡ keyed key (pieces_of lane qs)
keyed_lane key lanes lane [] are none = refl
keyed_lane key lanes lane (q ∷ qs) are none =
    let rest = keyed_lane key lanes lane qs are.1 (λ other least most apart. none_behind key other q qs (none other least most apart)) in
    elim (one_or_two q.lane lane) [
      | inl same ↦ ap (λ l. if is_key key q.piece.key then q.piece ∷ l else l) rest
          ∙ sym (ap (λ c. keyed key (if c then q.piece ∷ pieces_of lane qs else pieces_of lane qs)) (eq-eqb q.lane lane same))
      | inr apart ↦ (let here = none q.lane are.0.0 are.0.1 apart in
          let only : keyed key (q.piece ∷ pieces_of q.lane qs) ≡ [] =
          sym (ap (λ c. keyed key (if c then q.piece ∷ pieces_of q.lane qs else pieces_of q.lane qs)) (eq-eqb q.lane q.lane refl)) ∙ here in
          ap (λ c. if c then q.piece ∷ keyed key (pieces_in qs) else keyed key (pieces_in qs)) (not_first key q.piece (pieces_of q.lane qs) only).0 ∙ rest
          ∙ sym (ap (λ c. keyed key (if c then q.piece ∷ pieces_of lane qs else pieces_of lane qs)) (ne_eqb q.lane lane apart)))
    ]
