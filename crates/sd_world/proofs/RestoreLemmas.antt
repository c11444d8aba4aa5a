-- What the spans of a drive's journal read to.
use Rattle.std.proofs.Common.{◌≡◌, ◌≢◌, ℕ, Bool, true, false, ◌||◌, ◌&&◌, if◌then◌else◌, List, [], ◌∷◌, ◌++◌, map, refl, ap, sym, subst, ◌∙◌}
use Rattle.std.proofs.lemmas.List.{append_assoc, map-append}
use Rattle.std.specs.List.{flat_map}
use Rattle.std.specs.Str.{bytes_eq}
use Rattle.sd_base.specs.Key.{is_key}
use Rattle.sd_base.specs.declared.number.SessionKey.{SessionKey}
use Rattle.sd_driver.specs.Shelf.{Shelf}
use Rattle.sd_drive.specs.Shelf.{block_at, placements_on}
use Rattle.sd_drive.proofs.LaidLemmas.{placements_on-append, on_here}
use Rattle.sd_journal.specs.Journal.{Entry, placements, live, is_purged, is_purged_of, has_purged}
use Rattle.sd_label.specs.Cutting.{WholeOf}
use Rattle.sd_readback.specs.Reading.{blocks_of}
use Rattle.sd_span.specs.Spans.{placements_of, stretches, in_front, numbered_from}
use Rattle.sd_span.specs.declared.placement.Placement.{Placement}
use Rattle.sd_span.specs.declared.span.Span.{Span}
use Rattle.sd_volume.specs.Image.{Block, VolumeImage}
use Rattle.sd_world.specs.Restore.{PlacedAmongBlocks, PlacedRead}
use Rattle.sd_world.proofs.ReachLemmas.{AllReach, of_if, own_reach, all_reach, reached}
use Rattle.sd_world.proofs.HoldLemmas.{lies_there, laid_with, not_none, has_volume, all_hold}

-- ---- bodies

-- the bodies of a session at placements are those at its own
own_bodies : (shelf : Shelf) (key : SessionKey) (ps : List Placement) → blocks_of key (map (block_at shelf) ps) ≡ map (λ p. (block_at shelf p).body) (placements_of key ps)
own_bodies shelf key [] = refl
own_bodies shelf key (p ∷ ps) =
    let r = own_bodies shelf key ps in
    let body : Placement → List ℕ = λ q. (block_at shelf q).body in
    elim (is_key key p.key) as (λ b. (if b then body p ∷ blocks_of key (map (block_at shelf) ps) else blocks_of key (map (block_at shelf) ps)) ≡ map body (if b then p ∷ placements_of key ps else placements_of key ps)) [
      | true ↦ ap (λ l. body p ∷ l) r
      | false ↦ r
    ]

blocks_reached : (f : Placement → Block) (owns : List (List Placement)) → flat_map (λ bs. bs) (map (map f) owns) ≡ map f (reached owns)
blocks_reached f [] = refl
blocks_reached f (own ∷ owns) = ap (λ l. map f own ++ l) (blocks_reached f owns) ∙ sym (map-append f own (reached owns))

map_some : {A B : Type 0} (f : A → B) (xs : List A) → xs ≢ [] → map f xs ≢ []
map_some f [] some = λ e. some refl
map_some f (x ∷ xs) some = λ e. cc

either_some : {A : Type 0} (b : Bool) (x y : A) (xs ys : List A) → (if b then x ∷ xs else y ∷ ys) ≢ []
either_some true x y xs ys = λ e. cc
either_some false x y xs ys = λ e. cc

front_some : (p : Placement) (ss : List Span) → in_front p ss ≢ []
front_some p [] = λ e. cc
front_some p (s ∷ ss) = either_some (bytes_eq p.volume s.volume) _ _ _ _

stretches_some : (ps : List Placement) → ps ≢ [] → stretches ps ≢ []
stretches_some [] some = λ e. some refl
stretches_some (p ∷ ps) some = front_some p (stretches ps)

numbered_some : (index : ℕ) (ss : List Span) → ss ≢ [] → numbered_from index ss ≢ []
numbered_some index [] some = λ e. some refl
numbered_some index (s ∷ ss) some = λ e. cc

-- ---- placements whose blocks are there

-- those of a front of the journal, of which all of the session are there, are a front of all that are there
pub record LiveFront (key : SessionKey) (journal : List Entry) (ps : List Placement) : Type 0 where
  pub front : List Placement
  pub behind : List Placement
  pub parted : live journal ≡ front ++ behind
  pub own : placements_of key front ≡ placements_of key ps

pub live_front : (key : SessionKey) (journal : List Entry) (ps more : List Placement) → placements journal ≡ ps ++ more → has_purged key journal ≡ false → LiveFront key journal ps
live_front key [] [] more is none = record { front = []; behind = []; parted = refl; own = refl }
live_front key [] (p ∷ ps) more is none = absurd cc
live_front key (e ∷ es) [] more is none = record { front = []; behind = live (e ∷ es); parted = refl; own = refl }
live_front key (e ∷ es) (p ∷ ps) more is none =
    from (is_purged e.mark) refl (first (is_purged_of key e) (has_purged key es) none) (live_front key es ps more (tail_is is) (second (is_purged_of key e) (has_purged key es) none))
  where
    first : (a b : Bool) → (a || b) ≡ false → a ≡ false
    first true b h = cc
    first false b h = refl

    second : (a b : Bool) → (a || b) ≡ false → b ≡ false
    second true b h = cc
    second false b h = h

    other : (a b : Bool) → b ≡ true → (a && b) ≡ false → a ≡ false
    other true b gone h = absurd (cc (sym gone ∙ h))
    other false b gone h = refl

    tail_is : {a b : Placement} {l m : List Placement} → a ∷ l ≡ b ∷ m → l ≡ m
    tail_is e = cc

    head_is : {a b : Placement} {l m : List Placement} → a ∷ l ≡ b ∷ m → a ≡ b
    head_is e = cc

    here : e.placement ≡ p
    here = head_is is

    from : (b : Bool) → is_purged e.mark ≡ b → is_purged_of key e ≡ false → LiveFront key es ps → LiveFront key (e ∷ es) (p ∷ ps)
    from true gone none rest =
        let off : is_key key p.key ≡ false = ap (λ (q : Placement). is_key key q.key) (sym here) ∙ other (is_key key e.placement.key) (is_purged e.mark) gone none in
        record {
          front = rest.front;
          behind = rest.behind;
          parted = ap (λ b. if b then live es else e.placement ∷ live es) gone ∙ rest.parted;
          own = rest.own ∙ sym (of_if key p ps false off);
        }
    from false there none rest = record {
      front = e.placement ∷ rest.front;
      behind = rest.behind;
      parted = ap (λ b. if b then live es else e.placement ∷ live es) there ∙ ap (λ l. e.placement ∷ l) rest.parted;
      own = ap (λ (q : Placement). placements_of key (q ∷ rest.front)) here ∙ ap (λ l. if is_key key p.key then p ∷ l else l) rest.own;
    }

-- ---- the laws

pub placed_read : PlacedRead
placed_read device volumes loaded journal key ps more records ended kept honest is some none whole =
    let f = block_at device.shelf in
    let l = live_front key journal ps more is none in
    let o = own_reach key (live journal) [] l.front l.behind l.parted in
    let R : List Placement → Type 0 = λ own. AllReach (live journal) (stretches own) o.lists in
    let reach = subst R l.own (all_reach key (live journal) [] (stretches (placements_of key l.front)) o.lists o.reach) in
    let h = all_hold device.shelf volumes journal 1 (stretches (placements_of key ps)) o.lists kept.lie (kept.laid honest) reach in
    let body : Placement → List ℕ = λ p. (f p).body in
    let own : blocks_of key (map f ps) ≡ map body (placements_of key ps) = own_bodies device.shelf key ps in
    let bodies : blocks_of key (flat_map (λ bs. bs) (map (map f) o.lists)) ≡ map body (placements_of key ps) =
    ap (blocks_of key) (blocks_reached f o.lists) ∙ own_bodies device.shelf key (reached o.lists) ∙ ap (map body) (o.own ∙ l.own) in
    let P : List (List ℕ) → Type 0 = λ l. WholeOf l records ended in
    record {
      some_span = numbered_some 1 (stretches (placements_of key ps)) (stretches_some (placements_of key ps) some);
      numbered = h.numbered;
      blocks = map (map f) o.lists;
      hold = h.hold;
      some_block = λ none. map_some body (placements_of key ps) some (sym bodies ∙ none);
      whole = subst P (own ∙ sym bodies) whole;
    }

pub placed_among_blocks : PlacedAmongBlocks
placed_among_blocks device volumes loaded journal before more p kept honest is =
    let shelf = device.shelf in
    let f = block_at shelf in
    let n = p.volume in
    let here : placements_on n (live journal) ≡ placements_on n before ++ (p ∷ placements_on n more) =
    ap (placements_on n) is ∙ placements_on-append n before (p ∷ more)
    ∙ ap (λ l. placements_on n before ++ l) (placements_on-append n (p ∷ []) more ∙ ap (λ l. l ++ placements_on n more) (on_here n p refl)) in
    let v = has_volume volumes journal n kept.lie (λ none. not_none (placements_on n before) (p ∷ placements_on n more) (placements_on n more) p refl (sym here ∙ none)) in
    let w = laid_with shelf (live journal) v.volume (placements_on n before ++ (p ∷ placements_on n more)) (ap (λ m. placements_on m (live journal)) v.name_is ∙ here) (kept.laid honest v.at v.volume v.there) in
    let lies = lies_there f w.label w.earlier (placements_on n before) p (placements_on n more) w.lie in
    let P : List Block → Type 0 = λ l. VolumeImage w.stands.held.bytes w.label l w.tail in
    record {
      held = w.stands.held;
      there = ap shelf.volume (sym v.name_is) ∙ w.stands.there;
      label = w.label;
      before = w.earlier ++ map f (placements_on n before);
      behind = map f (placements_on n more);
      tail = w.tail;
      image = subst P (ap (λ l. w.earlier ++ l) (map-append f (placements_on n before) (p ∷ placements_on n more)) ∙ sym (append_assoc w.earlier (map f (placements_on n before)) (f p ∷ map f (placements_on n more)))) w.stands.image;
      start_is = lies.start_is;
      end_is = lies.end_is;
    }
