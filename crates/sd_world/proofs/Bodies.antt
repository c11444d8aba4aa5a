-- The bodies that were sent to a drive, those of one session among them, and what moves them.
use Rattle.std.proofs.Common.{◌≡◌, ◌≢◌, ℕ, cond, refl, sym, ap, ap₂, ◌∙◌, Bool, true, false, Option, Some, None, List, [], ◌∷◌, ◌++◌, map, append_assoc, append-nil}
use Rattle.std.proofs.lemmas.List.{map-append}
use Rattle.sd_base.specs.Key.{is_key}
use Rattle.sd_base.specs.declared.number.SessionKey.{SessionKey}
use Rattle.sd_driver.specs.Meaning.{Meaning, IsHonest}
use Rattle.sd_driver.specs.Shelf.{Shelf}
use Rattle.sd_drive.specs.Shelf.{blocks, block_at, block_of_entry, KeepsPieces}
use Rattle.sd_drive.specs.View.{DriveIs, items, item_of_piece, block_of_piece}
use Rattle.sd_journal.specs.Journal.{Entry, Item, item_of, items_of, placements, is_purged, live}
use Rattle.sd_lane.specs.Queue.{LanesView, queued}
use Rattle.sd_lane.specs.declared.piece.Piece.{Piece}
use Rattle.sd_lane.specs.declared.piece.Queued.{Queued}
use Rattle.sd_span.proofs.SpanLemmas.{cond_more}
use Rattle.sd_span.specs.declared.placement.Placement.{Placement}
use Rattle.sd_volume.specs.Image.{Block}
use Rattle.sd_world.proofs.Items.{is_key_same, is_key_other}
use Rattle.sd_world.specs.Matches.{SentBody, sent_body, sent_bodies, given_to, body_of_piece, queued_bodies, sent_to, bodies_with}

-- Bodies of one session.

pub bodies_with-append : (key : SessionKey) (xs ys : List SentBody) → bodies_with key (xs ++ ys) ≡ bodies_with key xs ++ bodies_with key ys
bodies_with-append key [] ys = refl
bodies_with-append key (b ∷ xs) ys =
    cond_more (is_key key b.key) b.body (bodies_with key xs) (bodies_with key ys) (bodies_with key (xs ++ ys)) (bodies_with-append key xs ys)

-- one body more at the end is a body more of its own session, and of no other
pub bodies_with_own : (key : SessionKey) (xs : List SentBody) (b : SentBody) → b.key ≡ key → bodies_with key (xs ++ b ∷ []) ≡ bodies_with key xs ++ b.body ∷ []
bodies_with_own key xs b is =
    bodies_with-append key xs (b ∷ [])
    ∙ ap (λ c. bodies_with key xs ++ cond c (b.body ∷ []) []) (is_key_same key b.key (sym is))

pub bodies_with_other : (key : SessionKey) (xs : List SentBody) (b : SentBody) → key.id ≢ b.key.id → bodies_with key (xs ++ b ∷ []) ≡ bodies_with key xs
bodies_with_other key xs b n =
    bodies_with-append key xs (b ∷ [])
    ∙ ap (λ c. bodies_with key xs ++ cond c (b.body ∷ []) []) (is_key_other key b.key n)
    ∙ append-nil (bodies_with key xs)

-- Bodies sent.

-- a call that keeps the pieces keeps the bodies given to the drive
pub given_kept : {D : Type 0} (meaning : D → Meaning) (d d' : DriveIs D)
    → KeepsPieces (meaning d.device) (meaning d'.device) d.journal d'.journal d.hand d'.hand → IsHonest (meaning d.device)
    → given_to (meaning d'.device).shelf d' ≡ given_to (meaning d.device).shelf d
given_kept meaning d d' keeps honest = ap₂ sent_bodies keeps.items (keeps.blocks honest)

-- the bodies at placements
abbrev pub placed_bodies : Shelf → List Placement → List SentBody
placed_bodies shelf ps = map (λ p. sent_body (item_of p) (block_at shelf p)) ps

-- those that are not gone come first
pub sent_front : (shelf : Shelf) (es : List Entry) (is : List Item) (bs : List (Option Block))
    → sent_bodies (items_of (placements es) ++ is) (map (block_of_entry shelf) es ++ bs) ≡ placed_bodies shelf (live es) ++ sent_bodies is bs
sent_front shelf [] is bs = refl
sent_front shelf (e ∷ es) is bs = from (sent_front shelf es is bs) (is_purged e.mark)
  where
    from : sent_bodies (items_of (placements es) ++ is) (map (block_of_entry shelf) es ++ bs) ≡ placed_bodies shelf (live es) ++ sent_bodies is bs
        → (b : Bool) → sent_bodies (items_of (placements (e ∷ es)) ++ is) (cond b None (Some (block_at shelf e.placement)) ∷ (map (block_of_entry shelf) es ++ bs))
        ≡ placed_bodies shelf (cond b (live es) (e.placement ∷ live es)) ++ sent_bodies is bs
    from rest true = rest
    from rest false = ap (λ l. sent_body (item_of e.placement) (block_at shelf e.placement) ∷ l) rest

-- one piece after those placed
sent_bodies_more : (shelf : Shelf) (es : List Entry) (piece : Piece)
    → sent_bodies (items_of (placements es) ++ item_of_piece piece ∷ []) (map (block_of_entry shelf) es ++ Some (block_of_piece piece) ∷ [])
    ≡ sent_bodies (items_of (placements es) ++ []) (map (block_of_entry shelf) es ++ []) ++ body_of_piece piece ∷ []
sent_bodies_more shelf es piece =
    sent_front shelf es (item_of_piece piece ∷ []) (Some (block_of_piece piece) ∷ [])
    ∙ ap (λ l. l ++ body_of_piece piece ∷ []) (sym (sent_front shelf es [] [] ∙ append-nil (placed_bodies shelf (live es))))

-- the bodies of these in a queue
abbrev pub bodies_queued : List Queued → List SentBody
bodies_queued qs = map (λ (q : Queued). body_of_piece q.piece) qs

-- a piece that goes from the queue to the hand stays in its place
pub sent_taken : {D : Type 0} (shelf : Shelf) (d : DriveIs D) (queue : LanesView) (lane : ℕ) (piece : Piece) (rest : List Queued)
    → d.hand ≡ None → queue.held ≡ queued lane piece ∷ rest
    → sent_to shelf (record d { hand = Some piece }) (record queue { held = rest }) ≡ sent_to shelf d queue
sent_taken shelf d queue lane piece rest hand held =
    let es = d.journal in
    let more = bodies_queued rest in
    ap (λ l. l ++ more) (sent_bodies_more shelf es piece)
    ∙ append_assoc (sent_bodies (items_of (placements es) ++ []) (map (block_of_entry shelf) es ++ [])) (body_of_piece piece ∷ []) more
    ∙ ap (λ h. sent_bodies (items d.journal h) (blocks shelf d.journal h) ++ (body_of_piece piece ∷ more)) (sym hand)
    ∙ ap (λ qs. given_to shelf d ++ bodies_queued qs) (sym held)

-- a piece that comes to the end of the queue is the last
pub sent_behind : {D : Type 0} (shelf : Shelf) (d : DriveIs D) (queue queue' : LanesView) (q : Queued) → queue'.held ≡ queue.held ++ q ∷ []
    → sent_to shelf d queue' ≡ sent_to shelf d queue ++ body_of_piece q.piece ∷ []
sent_behind shelf d queue queue' q held =
    ap (λ qs. given_to shelf d ++ bodies_queued qs) held
    ∙ ap (λ l. given_to shelf d ++ l) (map-append (λ (x : Queued). body_of_piece x.piece) queue.held (q ∷ []))
    ∙ sym (append_assoc (given_to shelf d) (queued_bodies queue) (body_of_piece q.piece ∷ []))
