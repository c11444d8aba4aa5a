-- All bodies that were sent of a session: those that were placed, by the bytes on the shelf, unless they are gone; then those on
-- the way.
use Rattle.std.proofs.Common.{◌≡◌, ◌⊎◌, ℕ, inl, inr, Option, Some, None, List, [], ◌∷◌, ◌++◌, map, option_to_list, append_assoc, refl, ap, ◌∙◌}
use Rattle.std.proofs.lemmas.List.{map-append}
use Rattle.sd_base.specs.Record.{Record}
use Rattle.sd_base.specs.declared.number.SessionKey.{SessionKey}
use Rattle.sd_driver.specs.Shelf.{Shelf}
use Rattle.sd_drive.specs.Shelf.{block_at}
use Rattle.sd_drive.specs.View.{DriveIs, item_of_piece, block_of_piece}
use Rattle.sd_journal.specs.Journal.{item_of, live}
use Rattle.sd_label.specs.Cutting.{Standing, Between, AtEnd, Holds}
use Rattle.sd_lane.specs.Queue.{LanesView}
use Rattle.sd_lane.specs.declared.piece.Piece.{Piece}
use Rattle.sd_pack.specs.Body.{PackedBody}
use Rattle.sd_pack.specs.Packing.{Packs, bytes_of}
use Rattle.sd_pack.proofs.BodyLemmas.{same_body}
use Rattle.sd_span.specs.declared.placement.Placement.{Placement}
use Rattle.sd_volume.specs.Image.{Block}
use Rattle.sd_world.specs.Matches.{SentBody, sent_body, sent_bodies, given_to, body_of_piece, queued_bodies, sent_to, bodies_with}
use Rattle.sd_world.proofs.Bodies.{bodies_with-append, sent_front}
pub use Rattle.sd_world.proofs.Bodies.{placed_bodies}

-- those at more placements come after
pub placed_more : (shelf : Shelf) (ps more : List Placement) → placed_bodies shelf (ps ++ more) ≡ placed_bodies shelf ps ++ placed_bodies shelf more
placed_more shelf ps more = map-append (λ p. sent_body (item_of p) (block_at shelf p)) ps more

-- the blocks of the pieces in a hand
abbrev blocks_in : Option Piece → List (Option Block)
blocks_in hand = map (λ (p : Piece). Some (block_of_piece p)) (option_to_list hand)

in_hand : (hand : Option Piece) → sent_bodies (map item_of_piece (option_to_list hand)) (blocks_in hand) ≡ map body_of_piece (option_to_list hand)
in_hand None = refl
in_hand (Some p) =
    let one : PackedBody → SentBody = λ b. record { key = p.key; body = b } in
    ap (λ b. one b ∷ []) (same_body (sent_body (item_of_piece p) (block_of_piece p)).body p.body refl refl refl)

-- the bodies on the way: in the hand, then in the queue
abbrev pub coming : {D : Type 0} → DriveIs D → LanesView → List SentBody
coming d queue = map body_of_piece (option_to_list d.hand) ++ queued_bodies queue

-- what was given to a drive: the bodies placed that are not gone, then the one in the hand
pub given_are : {D : Type 0} (shelf : Shelf) (d : DriveIs D) → given_to shelf d ≡ placed_bodies shelf (live d.journal) ++ map body_of_piece (option_to_list d.hand)
given_are shelf d =
    sent_front shelf d.journal (map item_of_piece (option_to_list d.hand)) (blocks_in d.hand) ∙ ap (λ l. placed_bodies shelf (live d.journal) ++ l) (in_hand d.hand)

-- of a session: those placed that are not gone, then those on the way
pub sent_are : {D : Type 0} (key : SessionKey) (shelf : Shelf) (d : DriveIs D) (queue : LanesView)
    → bodies_with key (sent_to shelf d queue) ≡ bodies_with key (placed_bodies shelf (live d.journal)) ++ bodies_with key (coming d queue)
sent_are key shelf d queue =
    let placed = placed_bodies shelf (live d.journal) in
    ap (λ l. bodies_with key (l ++ queued_bodies queue)) (given_are shelf d)
    ∙ ap (bodies_with key) (append_assoc placed (map body_of_piece (option_to_list d.hand)) (queued_bodies queue))
    ∙ bodies_with-append key placed (coming d queue)

-- Cuttings.

-- a packed cutting is a cutting
pub packed_holds : (room : ℕ) (bodies : List PackedBody) (records : List Record) (standing : Standing) → Packs room bodies records standing
    → Holds (bytes_of bodies) records standing
packed_holds room bodies records standing p = record { fragments = p.fragments; holds_by = p.holds_by }

-- with its end label or without
pub cutting_holds : (room : ℕ) (bodies : List PackedBody) (records : List Record)
    → Packs room bodies records Between ⊎ Packs room bodies records AtEnd
    → (standing : Standing) × Holds (bytes_of bodies) records standing
cutting_holds room bodies records (inl p) = (Between, packed_holds room bodies records Between p)
cutting_holds room bodies records (inr p) = (AtEnd, packed_holds room bodies records AtEnd p)
