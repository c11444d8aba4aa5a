-- The bodies of a session that were placed, as bytes; and when all of its blocks are synced.
use Rattle.std.proofs.Common.{◌≡◌, ◌≢◌, Bool, true, false, true≢false, if◌then◌else◌, List, [], ◌∷◌, map, refl, ap, sym, ◌∙◌, arith}
use Rattle.std.specs.Prelude.{IsTrue, ◌&&◌, ◌||◌, not}
use Rattle.std.specs.List.{AllByRecursion}
use Rattle.std.proofs.lemmas.List.Elements.{All-from_recursion}
use Rattle.sd_base.specs.Key.{is_key}
use Rattle.sd_base.specs.declared.number.SessionKey.{SessionKey}
use Rattle.sd_driver.specs.Shelf.{Shelf}
use Rattle.sd_drive.specs.Shelf.{block_at}
use Rattle.sd_journal.specs.Journal.{Entry, item_of, placements, live, is_purged, is_purged_of, placed_of, synced_of, has_purged, is_synced}
use Rattle.sd_journal.specs.declared.mark.Mark.{Mark}
use Rattle.sd_journal.specs.declared.mark.Mark.TheVariants.{Unsynced, Synced, Lost, Purged}
use Rattle.sd_journal.proofs.EntryLemmas.{counting}
use Rattle.sd_pack.specs.Body.{PackedBody}
use Rattle.sd_pack.specs.Packing.{bytes_of}
use Rattle.sd_readback.specs.Reading.{blocks_of}
use Rattle.sd_span.specs.Spans.{placements_of}
use Rattle.sd_span.specs.declared.placement.Placement.{Placement}
use Rattle.sd_world.specs.Matches.{sent_body, bodies_with, IsUnsynced}
use Rattle.sd_world.proofs.Sent.{placed_bodies}

-- Lists.

pub none_of : {X : Type 0} (xs : List X) → (xs ≢ [] → ⊥) → xs ≡ []
none_of [] some_not = refl
none_of (x ∷ xs) some_not = absurd (some_not (λ e. cc e))

-- the one list is empty exactly if the other is
abbrev pub AreAlike : {X Y : Type 0} → List X → List Y → Type 0
AreAlike xs ys = (xs ≡ [] → ys ≡ []) × (ys ≡ [] → xs ≡ [])

either_false : (a b : Bool) → (a || b) ≡ false → (a ≡ false) × (b ≡ false)
either_false true b none = absurd (true≢false none)
either_false false b none = (refl, none)

not_own : (own : Bool) → (own && true) ≡ false → own ≡ false
not_own true none = absurd (true≢false none)
not_own false none = refl

-- Bodies that were placed.

-- those of a session are its blocks' bodies
pub placed_bytes : (key : SessionKey) (shelf : Shelf) (ps : List Placement) → bytes_of (bodies_with key (placed_bodies shelf ps)) ≡ blocks_of key (map (block_at shelf) ps)
placed_bytes key shelf [] = refl
placed_bytes key shelf (p ∷ ps) =
    let b = block_at shelf p in
    let sent = bodies_with key (placed_bodies shelf ps) in
    let laid = blocks_of key (map (block_at shelf) ps) in
    elim (is_key key p.key) as (λ own. bytes_of (if own then (sent_body (item_of p) b).body ∷ sent else sent) ≡ (if own then b.body ∷ laid else laid)) [
      | true ↦ ap (λ l. b.body ∷ l) (placed_bytes key shelf ps)
      | false ↦ placed_bytes key shelf ps
    ]

-- the bodies of a session of which no block is gone are those at all its placements
pub live_bodies : (key : SessionKey) (shelf : Shelf) (es : List Entry) → has_purged key es ≡ false
    → bodies_with key (placed_bodies shelf (live es)) ≡ bodies_with key (placed_bodies shelf (placements es))
live_bodies key shelf [] none = refl
live_bodies key shelf (e ∷ es) none =
    let parts = either_false (is_purged_of key e) (has_purged key es) none in
    from (is_purged e.mark) refl parts.0 (live_bodies key shelf es parts.1)
  where
    all : List Placement → List PackedBody
    all ps = bodies_with key (placed_bodies shelf ps)

    from : (gone : Bool) → is_purged e.mark ≡ gone → is_purged_of key e ≡ false → all (live es) ≡ all (placements es) → all (live (e ∷ es)) ≡ all (placements (e ∷ es))
    from true is none rest =
        let other : is_key key e.placement.key ≡ false = not_own (is_key key e.placement.key) (sym (ap (λ b. is_key key e.placement.key && b) is) ∙ none) in
        ap (λ b. all (if b then live es else e.placement ∷ live es)) is ∙ rest
        ∙ sym (ap (λ b. if b then (sent_body (item_of e.placement) (block_at shelf e.placement)).body ∷ all (placements es) else all (placements es)) other)
    from false is none rest =
        ap (λ b. all (if b then live es else e.placement ∷ live es)) is
        ∙ ap (λ l. if is_key key e.placement.key then (sent_body (item_of e.placement) (block_at shelf e.placement)).body ∷ l else l) rest

-- a session has a block there exactly if it has a placement
pub placed_alike : (key : SessionKey) (shelf : Shelf) (ps : List Placement) → AreAlike (blocks_of key (map (block_at shelf) ps)) (placements_of key ps)
placed_alike key shelf [] = ((λ e. refl), (λ e. refl))
placed_alike key shelf (p ∷ ps) =
    let laid = blocks_of key (map (block_at shelf) ps) in
    elim (is_key key p.key) as (λ own. AreAlike (if own then (block_at shelf p).body ∷ laid else laid) (if own then p ∷ placements_of key ps else placements_of key ps)) [
      | true ↦ ((λ e. absurd (cc e)), (λ e. absurd (cc e)))
      | false ↦ placed_alike key shelf ps
    ]

-- Blocks that are synced.

synced_here : (own : Bool) (mark : Mark) (rest : Bool) → (((own && not (is_synced mark)) || rest) ≡ true → ⊥) → own ≡ true → mark ≡ Synced
synced_here true Unsynced rest none is = absurd (none refl)
synced_here true Synced rest none is = refl
synced_here true Lost rest none is = absurd (none refl)
synced_here true Purged rest none is = absurd (none refl)
synced_here false mark rest none is = absurd (true≢false (sym is))

none_behind : (here rest : Bool) → ((here || rest) ≡ true → ⊥) → rest ≡ true → ⊥
none_behind true rest none is = none refl
none_behind false rest none is = none is

all_marked : (key : SessionKey) (es : List Entry) → (IsUnsynced es key → ⊥)
    → AllByRecursion (λ (e : Entry). IsTrue (is_key key e.placement.key) → e.mark ≡ Synced) es
all_marked key [] none = tt
all_marked key (e ∷ es) none =
    ((λ own. synced_here (is_key key e.placement.key) e.mark _ none own), all_marked key es (none_behind (is_key key e.placement.key && not (is_synced e.mark)) _ none))

-- no block is gone of a session whose blocks are all synced
pub none_gone : (key : SessionKey) (es : List Entry) → synced_of key es ≡ placed_of key es → has_purged key es ≡ false
none_gone key es all = from (has_purged key es) refl
  where
    from : (gone : Bool) → has_purged key es ≡ gone → has_purged key es ≡ false
    from true is = let fewer = (counting key es).gone is in absurd (omega arith)
    from false is = is

-- if none of a session awaits a sync or is lost, all of its blocks are synced
pub all_synced : (key : SessionKey) (es : List Entry) → (IsUnsynced es key → ⊥) → synced_of key es ≡ placed_of key es
all_synced key es none =
    (counting key es).whole.1 (All-from_recursion (λ (e : Entry). IsTrue (is_key key e.placement.key) → e.mark ≡ Synced) es (all_marked key es none))
