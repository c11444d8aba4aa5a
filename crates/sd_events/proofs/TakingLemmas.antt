-- A queue before a drive.
use Rattle.std.proofs.Common.{◌≡◌, ℕ, List, ◌∷◌, Some, None, refl, ap, ◌∙◌}
use Rattle.sd_desk.specs.Desk.{DeskView}
use Rattle.sd_drive.specs.View.{DriveIs}
use Rattle.sd_lane.specs.Queue.{LanesView, queued}
use Rattle.sd_lane.specs.declared.piece.Piece.{Piece}
use Rattle.sd_lane.specs.declared.piece.Queued.{Queued}
use Rattle.sd_world.specs.Stations.{Outcome, TakesPiece}

-- queues of the same parts
pub queue_same : (l l' k k' : ℕ) (h h' : List Queued) → l ≡ l' → k ≡ k' → h ≡ h'
    → ◌≡◌ {A = LanesView} (record { lanes = l; capacity = k; held = h }) (record { lanes = l'; capacity = k'; held = h' })
queue_same l l' k k' h h' a b d =
    ap (λ x. record { lanes = x; capacity = k; held = h }) a
    ∙ ap (λ x. record { lanes = l'; capacity = x; held = h }) b
    ∙ ap (λ x. record { lanes = l'; capacity = k'; held = x }) d

-- a queue that is as it was, beside what is
pub queue_rests : {D : Type 0} (d : DriveIs D) (queue after : LanesView) (desk : DeskView) → after ≡ queue
    → ◌≡◌ {A = Outcome D} (record { drive = d; queue = after; desk = desk; lost = None }) (record { drive = d; queue = queue; desk = desk; lost = None })
queue_rests d queue after desk same = ap (λ (q : LanesView). record { drive = d; queue = q; desk = desk; lost = None }) same

-- a piece came from the queue into the hand
pub took : {D : Type 0} (d after : DriveIs D) (queue queue' : LanesView) (desk : DeskView) (lane ticket : ℕ) (piece : Piece) (rest : List Queued)
    → d.hand ≡ None → queue.held ≡ queued lane piece ∷ rest → ticket ≡ piece.key.id → after ≡ record d { hand = Some piece } → queue' ≡ record queue { held = rest }
    → TakesPiece ticket piece.seq (record { drive = d; queue = queue; desk = desk }) (record { drive = after; queue = queue'; desk = desk; lost = None })
took {D} d after queue queue' desk lane ticket piece rest none held is gave takes = record {
  hand_empty = none;
  lane = lane;
  piece = piece;
  rest = rest;
  held_is = held;
  ticket_is = is;
  seq_is = refl;
  is = ap (λ (x : DriveIs D). record { drive = x; queue = queue'; desk = desk; lost = None }) gave
      ∙ ap (λ (q : LanesView). record { drive = record d { hand = Some piece }; queue = q; desk = desk; lost = None }) takes;
}
