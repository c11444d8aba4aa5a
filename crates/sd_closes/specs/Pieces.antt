-- The pieces of one session among those that were sent to a drive.
use Rattle.std.specs.Prelude.{◌≡◌, true, List, [], ◌∷◌, ◌++◌, ℕ, length, map, if◌then◌else◌}
use Rattle.std.specs.List.{AllByRecursion}
use Rattle.sd_base.specs.Key.{is_key}
use Rattle.sd_base.specs.declared.number.SessionKey.{SessionKey}
use Rattle.sd_lane.specs.Queue.{pieces_of}
use Rattle.sd_lane.specs.declared.piece.Piece.{Piece}
use Rattle.sd_lane.specs.declared.piece.Queued.{Queued}
use Rattle.sd_pack.specs.Body.{PackedBody}

-- the pieces of one session, in order
abbrev pub keyed : SessionKey → List Piece → List Piece
keyed key [] = []
keyed key (p ∷ ps) = if is_key key p.key then p ∷ keyed key ps else keyed key ps

-- the pieces, without the lanes that they came by
abbrev pub pieces_in : List Queued → List Piece
pieces_in qs = map (λ (q : Queued). q.piece) qs

-- the bodies of pieces
abbrev pub bodies_in : List Piece → List PackedBody
bodies_in ps = map (λ (p : Piece). p.body) ps

-- Laws.

-- All that a lane sent was taken, and its last pieces are a session's. If no more pieces of that key were taken at all, by
-- whatever lane, those taken are these, and the lane sent no others before. So no two sessions need have different keys.
abbrev pub OwnOnly : Type 0
OwnOnly = (key : SessionKey) (lane : ℕ) (taken : List Queued) (before own : List Piece)
    → pieces_of lane taken ≡ before ++ own
    → AllByRecursion (λ (p : Piece). is_key key p.key ≡ true) own
    → length (keyed key (pieces_in taken)) ≡ length own
    → (keyed key (pieces_in taken) ≡ own) × (keyed key (before ++ own) ≡ own)
