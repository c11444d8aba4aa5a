-- The sessions of lanes, one lane after another.
use Rattle.std.proofs.Common.{◌≡◌, ℕ, zero, suc, ◌+◌, ◌<◌, ◌≤◌, refl, sym, ap, subst, ◌∙◌, arith, Some, List, [], ◌∷◌, ◌++◌, length, map, take, get_or, append_assoc, append-nil, slice_get}
use Rattle.std.proofs.lemmas.List.{length-append, map-append, map-id}
use Rattle.std.proofs.lemmas.Option.{slice_get_read}
use Rattle.sd_line.specs.Ends.{ToldSession}
use Rattle.sd_hub.specs.Settles.{SettledLaneIs}
use Rattle.sd_hub.specs.Worlds.{lane_sessions, lane_view}
use Rattle.sd_world.specs.World.{LaneView}

-- those of one lane after others
lane_push : (ls : List SettledLaneIs) (l : SettledLaneIs) → lane_sessions (ls ++ l ∷ []) ≡ lane_sessions ls ++ l.sessions
lane_push [] l = append-nil l.sessions
lane_push (m ∷ ls) l = ap (λ (ss : List ToldSession). m.sessions ++ ss) (lane_push ls l) ∙ sym (append_assoc m.sessions (lane_sessions ls) l.sessions)

-- One lane more.
module _ (ls : List SettledLaneIs) (l : SettledLaneIs) where
  pub told_more : (old new : List ToldSession) → old ≡ lane_sessions ls → new ≡ old ++ l.sessions → new ≡ lane_sessions (ls ++ l ∷ [])
  told_more old new are is = is ∙ ap (λ (ss : List ToldSession). ss ++ l.sessions) are ∙ sym (lane_push ls l)

  pub slots_more : (old new : List LaneView) (slot : LaneView) → old ≡ map lane_view ls → new ≡ old ++ slot ∷ [] → slot ≡ lane_view l → new ≡ map lane_view (ls ++ l ∷ [])
  slots_more old new slot are is same =
      is ∙ ap (λ (x : LaneView). old ++ x ∷ []) same ∙ ap (λ (xs : List LaneView). xs ++ lane_view l ∷ []) are ∙ sym (map-append lane_view ls (l ∷ []))

-- those of the lanes before one and its own are no more than those of all
front_fits : (all : List SettledLaneIs) (at : ℕ) (l : SettledLaneIs) → slice_get all at ≡ Some l
    → length (lane_sessions (take at all)) + length l.sessions ≤ length (lane_sessions all)
front_fits [] at l there = absurd (cc there)
front_fits (m ∷ all) zero l there =
    let same : m ≡ l = cc there in
    let long = length-append m.sessions (lane_sessions all) in
    let own : length m.sessions ≡ length l.sessions = ap (λ (x : SettledLaneIs). length x.sessions) same in
    omega (arith, long, own)
front_fits (m ∷ all) (suc at) l there =
    let more = front_fits all at l there in
    let front = length-append m.sessions (lane_sessions (take at all)) in
    let long = length-append m.sessions (lane_sessions all) in
    omega (arith, more, front, long)

-- A lane that comes after others, out of all.
module _ (all ls : List SettledLaneIs) (l : SettledLaneIs) (turn : (length ls < length all) × (l ≡ get_or all (length ls) l)) where
  pub stands : slice_get all (length ls) ≡ Some l
  stands = slice_get_read all (length all) (length ls) l refl turn.0 turn.1

  pub fits : map (λ (x : SettledLaneIs). x) ls ≡ take (length ls) all → length (lane_sessions ls) + length l.sessions ≤ length (lane_sessions all)
  fits far = subst (λ (xs : List SettledLaneIs). length (lane_sessions xs) + length l.sessions ≤ length (lane_sessions all)) (sym far ∙ map-id ls) (front_fits all (length ls) l stands)
