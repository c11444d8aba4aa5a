-- The blocks of one session that a drive placed, by the pieces that were taken for it.
use Rattle.std.proofs.Common.{◌≡◌, ℕ, arith, refl, sym, ap, ◌∙◌, if◌then◌else◌, Bool, true, false, true≢false, List, [], ◌∷◌, ◌++◌, length, length-append, map, option_to_list}
use Rattle.std.proofs.lemmas.List.{append-nil}
use Rattle.std.specs.Prelude.{◌&&◌, ◌||◌, Option, None, Some}
use Rattle.sd_base.specs.Key.{is_key}
use Rattle.sd_base.specs.declared.number.SessionKey.{SessionKey}
use Rattle.sd_closes.specs.Pieces.{bodies_in, keyed, pieces_in}
use Rattle.sd_closes.proofs.Pieces.{length_items, map_pieces}
use Rattle.sd_drive.specs.Shelf.{block_at, block_of_entry, blocks}
use Rattle.sd_drive.specs.View.{block_of_piece, item_of_piece, items}
use Rattle.sd_driver.specs.Shelf.{Shelf}
use Rattle.sd_journal.specs.Journal.{Entry, has_purged, is_purged, is_purged_of, items_of, placed_of, placements}
use Rattle.sd_lane.specs.declared.piece.Piece.{Piece}
use Rattle.sd_lane.specs.declared.piece.Queued.{Queued}
use Rattle.sd_pack.specs.Packing.{bytes_of}
use Rattle.sd_readback.specs.Reading.{blocks_of}
use Rattle.sd_volume.specs.Image.{Block}
use Rattle.sd_world.proofs.Items.{items_with-append, length_placed}
use Rattle.sd_world.specs.World.{items_with}

-- how many: if the hand has no piece of the session, each piece of it that was taken is placed
pub placed_are : (key : SessionKey) (journal : List Entry) (hand : Option Piece) (taken : List Queued)
    → keyed key (option_to_list hand) ≡ []
    → items journal hand ≡ map (λ (q : Queued). item_of_piece q.piece) taken
    → placed_of key journal ≡ length (keyed key (pieces_in taken))
placed_are key journal hand taken none follows =
    let in_hand = map item_of_piece (option_to_list hand) in
    let both = ap length (items_with-append key (items_of (placements journal)) in_hand)
    ∙ length-append (items_with key (items_of (placements journal))) (items_with key in_hand) in
    let held = length_items key (option_to_list hand) ∙ ap length none in
    let same = ap (λ l. length (items_with key l)) (follows ∙ map_pieces item_of_piece taken) ∙ length_items key (pieces_in taken) in
    let placed = length_placed key (placements journal) in
    omega (arith, both, held, same, placed)

-- Which: the bodies of a session among blocks of which some may be gone.

-- those whose blocks are there
abbrev there : SessionKey → List (Option Block) → List (List ℕ)
there key [] = []
there key (None ∷ bs) = there key bs
there key (Some b ∷ bs) = if is_key key b.key then b.body ∷ there key bs else there key bs

there-append : (key : SessionKey) (bs more : List (Option Block)) → there key (bs ++ more) ≡ there key bs ++ there key more
there-append key [] more = refl
there-append key (None ∷ bs) more = there-append key bs more
there-append key (Some b ∷ bs) more = by (is_key key b.key) (there-append key bs more)
  where
    by : (own : Bool) → there key (bs ++ more) ≡ there key bs ++ there key more
        → (if own then b.body ∷ there key (bs ++ more) else there key (bs ++ more)) ≡ (if own then b.body ∷ there key bs else there key bs) ++ there key more
    by true e = ap (λ l. b.body ∷ l) e
    by false e = e

-- those of pieces are the bodies of the session's pieces
there_pieces : (key : SessionKey) (ps : List Piece) → there key (map (λ (p : Piece). Some (block_of_piece p)) ps) ≡ bytes_of (bodies_in (keyed key ps))
there_pieces key [] = refl
there_pieces key (p ∷ ps) = by (is_key key p.key) (there_pieces key ps)
  where
    rest : List (List ℕ)
    rest = there key (map (λ (p : Piece). Some (block_of_piece p)) ps)

    by : (own : Bool) → rest ≡ bytes_of (bodies_in (keyed key ps))
        → (if own then p.body.bytes ∷ rest else rest) ≡ bytes_of (bodies_in (if own then p ∷ keyed key ps else keyed key ps))
    by true e = ap (λ l. p.body.bytes ∷ l) e
    by false e = e

-- those of entries, of which none of the session's is gone, are the bodies at its placements
there_entries : (key : SessionKey) (shelf : Shelf) (es : List Entry) → has_purged key es ≡ false
    → there key (map (block_of_entry shelf) es) ≡ blocks_of key (map (block_at shelf) (placements es))
there_entries key shelf [] none = refl
there_entries key shelf (e ∷ es) none =
    let parts = either_false (is_purged_of key e) (has_purged key es) none in
    by (is_purged e.mark) parts.0 (there_entries key shelf es parts.1)
  where
    either_false : (a b : Bool) → (a || b) ≡ false → (a ≡ false) × (b ≡ false)
    either_false true b none = absurd (true≢false none)
    either_false false b none = (refl, none)

    body : List ℕ
    body = (block_at shelf e.placement).body

    rest : List (List ℕ)
    rest = there key (map (block_of_entry shelf) es)

    laid : List (List ℕ)
    laid = blocks_of key (map (block_at shelf) (placements es))

    other : (own : Bool) → (own && true) ≡ false → own ≡ false
    other true none = absurd (true≢false none)
    other false none = refl

    by : (gone : Bool) → (is_key key e.placement.key && gone) ≡ false → rest ≡ laid
        → there key ((if gone then None else Some (block_at shelf e.placement)) ∷ map (block_of_entry shelf) es) ≡ (if is_key key e.placement.key then body ∷ laid else laid)
    by true none same = same ∙ sym (ap (λ c. if c then body ∷ laid else laid) (other (is_key key e.placement.key) none))
    by false none same = ap (λ l. if is_key key e.placement.key then body ∷ l else l) same

-- if the hand has no piece of the session, and none of its blocks is gone, they are those of its pieces that were taken
pub bodies_are : (key : SessionKey) (shelf : Shelf) (journal : List Entry) (hand : Option Piece) (taken : List Queued)
    → keyed key (option_to_list hand) ≡ []
    → has_purged key journal ≡ false
    → blocks shelf journal hand ≡ map (λ (q : Queued). Some (block_of_piece q.piece)) taken
    → blocks_of key (map (block_at shelf) (placements journal)) ≡ bytes_of (bodies_in (keyed key (pieces_in taken)))
bodies_are key shelf journal hand taken none gone holds =
    let f : Piece → Option Block = λ p. Some (block_of_piece p) in
    let in_hand : there key (map f (option_to_list hand)) ≡ [] = there_pieces key (option_to_list hand) ∙ ap (λ l. bytes_of (bodies_in l)) none in
    sym (there_entries key shelf journal gone)
    ∙ sym (append-nil (there key (map (block_of_entry shelf) journal)))
    ∙ ap (λ l. there key (map (block_of_entry shelf) journal) ++ l) (sym in_hand)
    ∙ sym (there-append key (map (block_of_entry shelf) journal) (map f (option_to_list hand)))
    ∙ ap (there key) (holds ∙ map_pieces f taken)
    ∙ there_pieces key (pieces_in taken)
