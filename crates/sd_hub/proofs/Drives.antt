-- What was given to the drive of a settled line and what is before it, by the pieces that its queue tells of.
use Rattle.std.proofs.Common.{◌≡◌, suc, refl, sym, ap, ap₂, ◌∙◌, arith, Bool, true, false, List, [], ◌∷◌, ◌++◌, length, length-append, map, option_to_list}
use Rattle.std.specs.Prelude.{All, IsTrue, not, ◌&&◌, ◌||◌}
use Rattle.std.specs.List.{list_any}
use Rattle.std.proofs.lemmas.Bool.{true≢false}
use Rattle.std.proofs.lemmas.List.{map-append}
use Rattle.std.proofs.lemmas.List.Elements.{All-head, All-tail}
use Rattle.sd_base.specs.Key.{is_key}
use Rattle.sd_base.specs.declared.number.SessionKey.{SessionKey}
use Rattle.sd_driver.specs.Shelf.{Shelf}
use Rattle.sd_drive.specs.Shelf.{blocks}
use Rattle.sd_drive.specs.View.{DriveIs, item_of_piece, items}
use Rattle.sd_journal.proofs.EntryLemmas.{counting}
use Rattle.sd_journal.specs.Journal.{Entry, is_synced, placed_of, synced_of}
use Rattle.sd_journal.specs.declared.mark.Mark.TheVariants.{Synced}
use Rattle.sd_lane.specs.Queue.{LanesView}
use Rattle.sd_lane.specs.declared.piece.Piece.{Piece}
use Rattle.sd_lane.specs.declared.piece.Queued.{Queued}
use Rattle.sd_line.specs.Side.{blocks_taken, items_taken}
use Rattle.sd_world.proofs.Bodies.{bodies_with-append}
use Rattle.sd_world.proofs.Items.{length_before}
use Rattle.sd_world.specs.Matches.{IsOnTheWay, IsUnsynced, bodies_with, body_of_piece, queued_bodies, sent_bodies, sent_to}
use Rattle.sd_world.specs.World.{items_before, items_with}
use Rattle.sd_closes.specs.Pieces.{bodies_in, keyed, pieces_in}
use Rattle.sd_closes.proofs.Pieces.{length_items, map_pieces}
use Rattle.sd_hub.proofs.Pieces.{bodies-keyed}

-- of what was taken and then of what is held
map_both : {B : Type 0} (f : Piece → B) (taken held : List Queued) → map (λ (q : Queued). f q.piece) taken ++ map (λ (q : Queued). f q.piece) held ≡ map f (pieces_in (taken ++ held))
map_both f taken held = sym (map-append (λ (q : Queued). f q.piece) taken held) ∙ map_pieces f (taken ++ held)

-- the items of a drive that follows what was taken, and of the queue before it
pub items_are : {D : Type 0} (d : DriveIs D) (queue : LanesView) (taken : List Queued) → items d.journal d.hand ≡ items_taken taken
    → items_before d queue ≡ map item_of_piece (pieces_in (taken ++ queue.held))
items_are d queue taken follows = ap (λ l. l ++ map (λ (q : Queued). item_of_piece q.piece) queue.held) follows ∙ map_both item_of_piece taken queue.held

-- the bodies of pieces and of the blocks that they become are those of the pieces
given_taken : (taken : List Queued) → sent_bodies (items_taken taken) (blocks_taken taken) ≡ map (λ (q : Queued). body_of_piece q.piece) taken
given_taken [] = refl
given_taken (q ∷ qs) = ap (λ l. body_of_piece q.piece ∷ l) (given_taken qs)

-- the bodies that were sent to a drive whose blocks are those of what was taken
pub sent_are : {D : Type 0} (shelf : Shelf) (d : DriveIs D) (queue : LanesView) (taken : List Queued) → items d.journal d.hand ≡ items_taken taken
    → blocks shelf d.journal d.hand ≡ blocks_taken taken → sent_to shelf d queue ≡ map body_of_piece (pieces_in (taken ++ queue.held))
sent_are shelf d queue taken follows holds =
    ap (λ l. l ++ queued_bodies queue) (ap₂ sent_bodies follows holds ∙ given_taken taken) ∙ map_both body_of_piece taken queue.held

-- Nothing is outstanding.

-- as many bodies of a session are among pieces as items
same_length : (key : SessionKey) (ps : List Piece) → length (bodies_with key (map body_of_piece ps)) ≡ length (items_with key (map item_of_piece ps))
same_length key ps = ap length (bodies-keyed key ps) ∙ length_bodies (keyed key ps) ∙ sym (length_items key ps)
  where
    length_bodies : (ps : List Piece) → length (bodies_in ps) ≡ length ps
    length_bodies [] = refl
    length_bodies (p ∷ ps) = ap suc (length_bodies ps)

-- a list of no length is empty
no_length : {A : Type 0} (xs : List A) → length xs ≡ 0 → xs ≡ []
no_length [] none = refl
no_length (x ∷ xs) none = absurd (omega (arith, none))

-- if all pieces of a session are placed, none is on the way
pub none_on_the_way : {D : Type 0} (d : DriveIs D) (queue : LanesView) (key : SessionKey) → placed_of key d.journal ≡ length (items_with key (items_before d queue)) → IsOnTheWay d queue key → ⊥
none_on_the_way d queue key all way =
    let hand = map body_of_piece (option_to_list d.hand) in
    let before = length_before key d queue in
    let both = ap length (bodies_with-append key hand (queued_bodies queue)) ∙ length-append (bodies_with key hand) (bodies_with key (queued_bodies queue)) in
    let in_hand = same_length key (option_to_list d.hand) in
    let held = ap (λ l. length (bodies_with key l)) (map_pieces body_of_piece queue.held) ∙ same_length key (pieces_in queue.held)
    ∙ sym (ap (λ l. length (items_with key l)) (map_pieces item_of_piece queue.held)) in
    way (no_length (bodies_with key (hand ++ queued_bodies queue)) (omega (arith, before, both, in_hand, held, all)))

-- if each entry of a session is synced, none is found that isn't
all_synced : (key : SessionKey) (es : List Entry) → All (λ e. IsTrue (is_key key e.placement.key) → e.mark ≡ Synced) es
    → list_any (λ (e : Entry). is_key key e.placement.key && not (is_synced e.mark)) es ≡ false
all_synced key [] all = refl
all_synced key (e ∷ es) all =
    let IsSo : Entry → Type 0 = λ x. IsTrue (is_key key x.placement.key) → x.mark ≡ Synced in
    ap₂ (λ a b. a || b) (one (is_key key e.placement.key) (All-head IsSo e es all)) (all_synced key es (All-tail IsSo e es all))
  where
    one : (own : Bool) → (own ≡ true → e.mark ≡ Synced) → (own && not (is_synced e.mark)) ≡ false
    one true is = ap (λ m. not (is_synced m)) (is refl)
    one false is = refl

-- if as many blocks of a session are synced as are placed, none is unsynced
pub none_unsynced : (key : SessionKey) (es : List Entry) → synced_of key es ≡ placed_of key es → IsUnsynced es key → ⊥
none_unsynced key es all unsynced = true≢false (sym unsynced ∙ all_synced key es ((counting key es).whole.0 all))
