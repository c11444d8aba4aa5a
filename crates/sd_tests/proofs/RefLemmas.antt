-- What a seat sent that was lent as a lane.
use Rattle.std.proofs.Common.{◌≡◌, ℕ, List, [], ◌∷◌, ◌++◌, refl, sym, ap, ◌∙◌, ◌==◌, if◌then◌else◌}
use Rattle.std.proofs.lemmas.Bool.{eq-eqb}
use Rattle.sd_lane.specs.Queue.{queued, pieces_of}
use Rattle.sd_lane.specs.declared.piece.Piece.{Piece}
use Rattle.sd_ruled.specs.Seats.{LaneSeatIs}

-- of its own lane a seat tells what it sent
own : (s : LaneSeatIs) (lane : ℕ) → lane ≡ s.lane → (if s.lane == lane then s.sent else []) ≡ s.sent
own s lane is = rw (eq-eqb s.lane lane (sym is)) refl

-- a piece of a lane is one of that lane
one_of : (lane : ℕ) (piece : Piece) → pieces_of lane (queued lane piece ∷ []) ≡ piece ∷ []
one_of lane piece = rw (eq-eqb lane lane refl) refl

-- what the end told that its lane sent, the seat sent that lies there afterwards
pub sent_there : (lane : ℕ) (old new after : LaneSeatIs) (piece : Piece) → lane ≡ old.lane → lane ≡ new.lane → after ≡ new
    → (if new.lane == lane then new.sent else []) ≡ (if old.lane == lane then old.sent else []) ++ pieces_of lane (queued lane piece ∷ [])
    → after.sent ≡ old.sent ++ piece ∷ []
sent_there lane old new after piece was is there h =
    ap (λ s. s.sent) there ∙ sym (own new lane is) ∙ h ∙ ap (λ ps. ps ++ pieces_of lane (queued lane piece ∷ [])) (own old lane was)
    ∙ ap (λ ps. old.sent ++ ps) (one_of lane piece)

-- if it told that nothing was sent, nothing was
pub none_sent_there : (lane : ℕ) (old new after : LaneSeatIs) → lane ≡ old.lane → lane ≡ new.lane → after ≡ new
    → (if new.lane == lane then new.sent else []) ≡ (if old.lane == lane then old.sent else [])
    → after.sent ≡ old.sent
none_sent_there lane old new after was is there h =
    ap (λ s. s.sent) there ∙ sym (own new lane is) ∙ h ∙ own old lane was
