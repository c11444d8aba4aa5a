-- The pieces that were given to a drive or are before it, and the blocks that were placed of a session.
use Rattle.std.proofs.Common.{◌≡◌, ◌≢◌, ℕ, suc, ◌+◌, ◌≤◌, ◌==◌, cond, refl, sym, ap, ap₂, ◌∙◌, arith, true, false, Option, Some, None, List, [], ◌∷◌, ◌++◌, length, map, length-append, append_assoc, append-nil, option_to_list}
use Rattle.std.specs.Prelude.{◌||◌}
use Rattle.std.proofs.lemmas.Bool.{eq-eqb, ne_eqb, and_from, and_right, and_left}
use Rattle.std.proofs.lemmas.List.{map-append}
use Rattle.std.proofs.lemmas.List.Elements.{filter-append}
use Rattle.std.specs.List.{AllByRecursion}
use Rattle.sd_base.specs.Key.{is_key}
use Rattle.sd_base.specs.declared.number.SessionKey.{SessionKey}
use Rattle.sd_drive.specs.View.{DriveIs, items, item_of_piece}
use Rattle.sd_journal.specs.Journal.{Entry, Item, items_of, item_of, placements, placed_of, fails, is_lost, is_purged, has_purged}
use Rattle.sd_lane.specs.Queue.{LanesView, queued}
use Rattle.sd_lane.specs.declared.piece.Piece.{Piece}
use Rattle.sd_lane.specs.declared.piece.Queued.{Queued}
use Rattle.sd_span.specs.Spans.{placements_of}
use Rattle.sd_span.specs.declared.placement.Placement.{Placement}
use Rattle.sd_world.specs.World.{items_before, items_with}
use Rattle.sd_world.specs.Rules.{IsOfOpened}

-- Keys.

pub is_key_same : (a b : SessionKey) → a ≡ b → is_key a b ≡ true
is_key_same a b same =
    and_from (a.time == b.time) (a.id == b.id) (eq-eqb a.time b.time (ap (λ (k : SessionKey). k.time) same)) (eq-eqb a.id b.id (ap (λ (k : SessionKey). k.id) same))

pub is_key_other : (a b : SessionKey) → a.id ≢ b.id → is_key a b ≡ false
is_key_other a b other = and_right (a.time == b.time) (a.id == b.id) (ne_eqb a.id b.id other)

-- Items of one session.

pub items_with-append : (key : SessionKey) (is js : List Item) → items_with key (is ++ js) ≡ items_with key is ++ items_with key js
items_with-append key is js = filter-append (λ (i : Item). is_key key i.key) is js

-- one item more at the end is one more of its own session, and of no other
pub items_with-own : (key : SessionKey) (is : List Item) (i : Item) → is_key key i.key ≡ true
    → length (items_with key (is ++ i ∷ [])) ≡ length (items_with key is) + 1
items_with-own key is i own =
    ap length (items_with-append key is (i ∷ []) ∙ ap (λ c. items_with key is ++ cond c (i ∷ []) []) own) ∙ length-append (items_with key is) (i ∷ [])

pub items_with-other : (key : SessionKey) (is : List Item) (i : Item) → is_key key i.key ≡ false → items_with key (is ++ i ∷ []) ≡ items_with key is
items_with-other key is i other =
    items_with-append key is (i ∷ []) ∙ ap (λ c. items_with key is ++ cond c (i ∷ []) []) other ∙ append-nil (items_with key is)

-- as many items are a session's as placements
pub length_placed : (key : SessionKey) (ps : List Placement) → length (items_with key (items_of ps)) ≡ length (placements_of key ps)
length_placed key [] = refl
length_placed key (p ∷ ps) =
    elim (is_key key p.key) as (λ b. length (cond b (item_of p ∷ items_with key (items_of ps)) (items_with key (items_of ps))) ≡ length (cond b (p ∷ placements_of key ps) (placements_of key ps))) [
      | true ↦ ap suc (length_placed key ps)
      | false ↦ length_placed key ps
    ]

-- the items in the hand, and in the queue
abbrev pub in_hand : Option Piece → List Item
in_hand hand = map item_of_piece (option_to_list hand)

abbrev pub in_queue : LanesView → List Item
in_queue queue = map (λ (q : Queued). item_of_piece q.piece) queue.held

-- how many items a session has: those placed, in the hand and in the queue
pub length_before : {D : Type 0} (key : SessionKey) (d : DriveIs D) (queue : LanesView) → length (items_with key (items_before d queue))
    ≡ placed_of key d.journal + (length (items_with key (in_hand d.hand)) + length (items_with key (in_queue queue)))
length_before key d queue =
    let a = ap length (items_with-append key (items d.journal d.hand) (in_queue queue)) ∙ length-append (items_with key (items d.journal d.hand)) (items_with key (in_queue queue)) in
    let b = ap length (items_with-append key (items_of (placements d.journal)) (in_hand d.hand)) ∙ length-append (items_with key (items_of (placements d.journal))) (items_with key (in_hand d.hand)) in
    let c = length_placed key (placements d.journal) in
    omega (arith, a, b, c)

-- no more is placed than there is
pub placed_most : {D : Type 0} (key : SessionKey) (d : DriveIs D) (queue : LanesView) → placed_of key d.journal ≤ length (items_with key (items_before d queue))
placed_most key d queue = let a = length_before key d queue in omega (arith, a)

-- if all is placed, nothing is in the hand
pub none_in_hand : {D : Type 0} (key : SessionKey) (d : DriveIs D) (queue : LanesView) (piece : Piece) → placed_of key d.journal ≡ length (items_with key (items_before d queue))
    → d.hand ≡ Some piece → is_key key piece.key ≡ true → ⊥
none_in_hand key d queue piece all hand own =
    let a = length_before key d queue in
    let b : length (items_with key (in_hand d.hand)) ≡ 1 = ap (λ h. length (items_with key (in_hand h))) hand ∙ ap (λ c. length (cond c (item_of_piece piece ∷ []) [])) own in
    omega (arith, a, b, all)

-- What moves between queue, hand and journal.

pub items_before-items : {D : Type 0} (d d' : DriveIs D) (queue : LanesView) → items d'.journal d'.hand ≡ items d.journal d.hand → items_before d' queue ≡ items_before d queue
items_before-items d d' queue same = ap (λ l. l ++ in_queue queue) same

pub items_before-take : {D : Type 0} (d : DriveIs D) (queue : LanesView) (lane : ℕ) (piece : Piece) (rest : List Queued)
    → d.hand ≡ None → queue.held ≡ queued lane piece ∷ rest
    → items_before (record d { hand = Some piece }) (record queue { held = rest }) ≡ items_before d queue
items_before-take d queue lane piece rest hand held =
    let placed = items_of (placements d.journal) in
    let more = map (λ (q : Queued). item_of_piece q.piece) rest in
    append_assoc placed (item_of_piece piece ∷ []) more
    ∙ ap (λ l. l ++ (item_of_piece piece ∷ more)) (sym (append-nil placed))
    ∙ ap (λ h. (placed ++ in_hand h) ++ (item_of_piece piece ∷ more)) (sym hand)
    ∙ ap (λ qs. items d.journal d.hand ++ map (λ (q : Queued). item_of_piece q.piece) qs) (sym held)

pub items_before-send : {D : Type 0} (d : DriveIs D) (queue queue' : LanesView) (q : Queued) → queue'.held ≡ queue.held ++ q ∷ []
    → items_before d queue' ≡ items_before d queue ++ item_of_piece q.piece ∷ []
items_before-send d queue queue' q held =
    ap (λ qs. items d.journal d.hand ++ map (λ (x : Queued). item_of_piece x.piece) qs) held
    ∙ ap (λ l. items d.journal d.hand ++ l) (map-append (λ (x : Queued). item_of_piece x.piece) queue.held (q ∷ []))
    ∙ sym (append_assoc (items d.journal d.hand) (in_queue queue) (item_of_piece q.piece ∷ []))

-- Opened sessions.

pub of_opened-more : (time next next' : ℕ) (is : List Item) → next ≤ next' → AllByRecursion (IsOfOpened time next) is → AllByRecursion (IsOfOpened time next') is
of_opened-more time next next' [] up h = tt
of_opened-more time next next' (i ∷ is) up h =
    (record { time_is = h.0.time_is; id_least = h.0.id_least; id_most = omega (arith, h.0.id_most, up) }, of_opened-more time next next' is up h.1)

pub of_opened-push : (time next : ℕ) (is : List Item) (i : Item) → AllByRecursion (IsOfOpened time next) is → IsOfOpened time next i → AllByRecursion (IsOfOpened time next) (is ++ i ∷ [])
of_opened-push time next [] i h own = (own, tt)
of_opened-push time next (x ∷ is) i h own = (h.0, of_opened-push time next is i h.1 own)

pub of_opened-front : (time next : ℕ) (is js : List Item) → AllByRecursion (IsOfOpened time next) (is ++ js) → AllByRecursion (IsOfOpened time next) is
of_opened-front time next [] js h = tt
of_opened-front time next (x ∷ is) js h = (h.0, of_opened-front time next is js h.1)

-- no item is of a session that isn't opened yet
pub items_with-next : (key : SessionKey) (time next : ℕ) (is : List Item) → key.id ≡ next → AllByRecursion (IsOfOpened time next) is → items_with key is ≡ []
items_with-next key time next [] id h = refl
items_with-next key time next (i ∷ is) id h =
    ap (λ c. cond c (i ∷ items_with key is) (items_with key is)) (is_key_other key i.key (λ e. let below = h.0.id_most in omega (arith, below, e, id)))
    ∙ items_with-next key time next is id h.1

-- nor does it fail
pub fails-next : (key : SessionKey) (time next : ℕ) (es : List Entry) → key.id ≡ next → AllByRecursion (IsOfOpened time next) (items_of (placements es)) → fails key es ≡ false
fails-next key time next [] id h = refl
fails-next key time next (e ∷ es) id h =
    ap₂ (λ a b. a || b)
    (and_left (is_key key e.placement.key) (is_lost e.mark) (is_key_other key e.placement.key (λ p. let below = h.0.id_most in omega (arith, below, p, id))))
    (fails-next key time next es id h.1)

-- nor is a block of it gone
pub gone-next : (key : SessionKey) (time next : ℕ) (es : List Entry) → key.id ≡ next → AllByRecursion (IsOfOpened time next) (items_of (placements es)) → has_purged key es ≡ false
gone-next key time next [] id h = refl
gone-next key time next (e ∷ es) id h =
    ap₂ (λ a b. a || b)
    (and_left (is_key key e.placement.key) (is_purged e.mark) (is_key_other key e.placement.key (λ p. let below = h.0.id_most in omega (arith, below, p, id))))
    (gone-next key time next es id h.1)
