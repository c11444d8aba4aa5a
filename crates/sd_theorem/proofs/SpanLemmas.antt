-- The placements of a session that are told of what is found, and those of the journal.
use Rattle.std.proofs.Common.{◌≡◌, if◌then◌else◌, ℕ, Bool, true, false, List, [], ◌∷◌, ◌++◌, map, refl, sym, ap, ap₂, subst, ◌∙◌}
use Rattle.std.proofs.lemmas.List.{append-nil}
use Rattle.std.proofs.lemmas.List.Elements.{recursion_from_All}
use Rattle.std.specs.List.{AllByRecursion}
use Rattle.std.specs.Str.{bytes_eq}
use Rattle.sd_base.specs.Key.{is_key}
use Rattle.sd_base.specs.declared.number.SessionKey.{SessionKey}
use Rattle.sd_drive.specs.Shelf.{block_at, placements_on}
use Rattle.sd_driver.specs.Shelf.{Shelf}
use Rattle.sd_scan.specs.Found.{ArePlacements, Found, IsPlacementOf, blocks_in}
use Rattle.sd_scan.proofs.TableLemmas.{none_placed}
use Rattle.sd_world.proofs.ReachLemmas.{of_if}
use Rattle.sd_theorem.specs.Placed.{FindOwn, FindsOwn, LieAt, LiesAt, SaysIndexes, ScanTellsSpans, placements_over}
use Rattle.sd_span.specs.Spans.{numbered_from, placements_of, stretches}
use Rattle.sd_span.specs.declared.placement.Placement.{Placement}
use Rattle.sd_span.proofs.SpanLemmas.{placements_of-append}
use Rattle.sd_volume.specs.Image.{Block}
use Rattle.sd_volume.specs.Volume.{VolumeView}

-- the placements of blocks, parted where these are
record PartedAt (fs gs : List Found) (qs : List Placement) : Type 0 where
  front : List Placement
  back : List Placement
  all_are : qs ≡ front ++ back
  front_are : ArePlacements fs front
  back_are : ArePlacements gs back

parted_at : (fs gs : List Found) (qs : List Placement) → ArePlacements (fs ++ gs) qs → PartedAt fs gs qs
parted_at [] gs qs are = record { front = []; back = qs; all_are = refl; front_are = tt; back_are = are }
parted_at (f ∷ fs) gs [] are = absurd are
parted_at (f ∷ fs) gs (q ∷ qs) are =
    let rest = parted_at fs gs qs are.1 in
    record {
      front = q ∷ rest.front;
      back = rest.back;
      all_are = ap (λ (l : List Placement). q ∷ l) rest.all_are;
      front_are = (are.0, rest.front_are);
      back_are = rest.back_are;
    }

-- two placements of a block are one
one_placement : (f : Found) (p q : Placement) → LiesAt f p → SaysIndexes f.block.body p → IsPlacementOf f q → q ≡ p
one_placement f p q lies says is =
    let indexes = is.indexes says.fragments says.fit says.body_is in
    let key : q.key ≡ p.key = is.key_is ∙ sym lies.key_is in
    let volume : q.volume ≡ p.volume = is.volume_is ∙ sym lies.volume_is in
    let start : q.start ≡ p.start = is.start_is ∙ sym lies.start_is in
    let long : q.length ≡ p.length = is.length_is ∙ sym lies.length_is in
    let first : q.first ≡ p.first = indexes.0 ∙ sym says.first_is in
    let last : q.last ≡ p.last = indexes.1 ∙ sym says.last_is in
    ap (λ k. record q { key = k }) key ∙ ap (λ (l : List ℕ). record q { key = p.key; volume = l }) volume
    ∙ ap (λ n. record q { key = p.key; volume = p.volume; start = n }) start
    ∙ ap (λ n. record q { key = p.key; volume = p.volume; start = p.start; length = n }) long
    ∙ ap (λ n. record q { key = p.key; volume = p.volume; start = p.start; length = p.length; first = n }) first
    ∙ ap (λ n. record p { last = n }) last

-- the placement says the FileIndexes of the body there
abbrev pub Says : Shelf → Placement → Type 0
Says shelf p = SaysIndexes (block_at shelf p).body p

-- the session's placements of blocks that are found are those of the journal
own_placements : (key : SessionKey) (shelf : Shelf) (own : List Found) (ps qs : List Placement) → LieAt own ps → blocks_in own ≡ map (block_at shelf) ps
    → AllByRecursion (Says shelf) (placements_of key ps) → ArePlacements own qs → placements_of key qs ≡ placements_of key ps
own_placements key shelf [] [] [] lie blocks say are = refl
own_placements key shelf [] [] (q ∷ qs) lie blocks say are = absurd are
own_placements key shelf [] (p ∷ ps) qs lie blocks say are = absurd lie
own_placements key shelf (f ∷ own) [] qs lie blocks say are = absurd lie
own_placements key shelf (f ∷ own) (p ∷ ps) [] lie blocks say are = absurd are
own_placements key shelf (f ∷ own) (p ∷ ps) (q ∷ qs) lie blocks say are =
    from (is_key key p.key) refl say (λ rest. own_placements key shelf own ps qs lie.1 (rest_are blocks) rest are.1)
  where
    head_is : {A : Type 0} {a b : A} {l m : List A} → a ∷ l ≡ b ∷ m → a ≡ b
    head_is e = cc

    rest_are : {A : Type 0} {a b : A} {l m : List A} → a ∷ l ≡ b ∷ m → l ≡ m
    rest_are e = cc

    same_key : q.key ≡ p.key
    same_key = are.0.key_is ∙ sym lie.0.key_is

    from : (b : Bool) → is_key key p.key ≡ b → AllByRecursion (Says shelf) (placements_of key (p ∷ ps))
        → (AllByRecursion (Says shelf) (placements_of key ps) → placements_of key qs ≡ placements_of key ps) → placements_of key (q ∷ qs) ≡ placements_of key (p ∷ ps)
    from true is all same =
        let says = subst (AllByRecursion (Says shelf)) (of_if key p ps true is) all in
        let one : q ≡ p = one_placement f p q lie.0 (subst (λ (b : Block). SaysIndexes b.body p) (sym (head_is blocks)) says.0) are.0 in
        of_if key q qs true (ap (is_key key) same_key ∙ is) ∙ ap₂ (λ (a : Placement) (l : List Placement). a ∷ l) one (same says.1) ∙ sym (of_if key p ps true is)
    from false is all same =
        of_if key q qs false (ap (is_key key) same_key ∙ is) ∙ same (subst (AllByRecursion (Says shelf)) (of_if key p ps false is) all) ∙ sym (of_if key p ps false is)

-- what is so of each of a session's placements is so of those on a volume
own_on : (P : Placement → Type 0) (key : SessionKey) (name : List ℕ) (ps : List Placement) → AllByRecursion P (placements_of key ps)
    → AllByRecursion P (placements_of key (placements_on name ps))
own_on P key name [] all = tt
own_on P key name (p ∷ ps) all = from (bytes_eq p.volume name) (λ rest. own_on P key name ps rest)
  where
    Others : Type 0
    Others = AllByRecursion P (placements_of key ps) → AllByRecursion P (placements_of key (placements_on name ps))

    each : (own : Bool) → Others → AllByRecursion P (if own then p ∷ placements_of key ps else placements_of key ps)
        → AllByRecursion P (if own then p ∷ placements_of key (placements_on name ps) else placements_of key (placements_on name ps))
    each true others all = (all.0, others all.1)
    each false others all = others all

    later : (own : Bool) → AllByRecursion P (if own then p ∷ placements_of key ps else placements_of key ps) → AllByRecursion P (placements_of key ps)
    later true all = all.1
    later false all = all

    from : (on : Bool) → Others → AllByRecursion P (placements_of key (if on then p ∷ placements_on name ps else placements_on name ps))
    from true others = each (is_key key p.key) others all
    from false others = others (later (is_key key p.key) all)

-- the placements of a session among those of what is found on a volume
on_one : (key : SessionKey) (shelf : Shelf) (ps qs : List Placement) (v : VolumeView) (found : List Found) → FindsOwn key shelf ps v found
    → AllByRecursion (Says shelf) (placements_of key ps) → ArePlacements found qs → placements_of key qs ≡ placements_of key (placements_on v.name ps)
on_one key shelf ps qs v found own say are =
    let f = own.finds in
    let outer = parted_at f.earlier (f.own ++ f.behind) qs (subst (λ (l : List Found). ArePlacements l qs) f.found_is are) in
    let inner = parted_at f.own f.behind outer.back outer.back_are in
    let none = none_placed f.earlier outer.front key outer.front_are own.none_earlier in
    let none' = none_placed f.behind inner.back key inner.back_are own.none_behind in
    let here = own_on (Says shelf) key v.name ps say in
    let same = own_placements key shelf f.own (placements_on v.name ps) inner.front f.lie f.blocks_are here inner.front_are in
    ap (placements_of key) outer.all_are ∙ placements_of-append key outer.front outer.back
    ∙ ap₂ (λ (x y : List Placement). x ++ y) none (ap (placements_of key) inner.all_are ∙ placements_of-append key inner.front inner.back)
    ∙ ap₂ (λ (x y : List Placement). x ++ y) same none' ∙ append-nil (placements_of key (placements_on v.name ps))

-- and among those of what is found on volumes
over_all : (key : SessionKey) (shelf : Shelf) (ps qs : List Placement) (vs : List VolumeView) (found : List Found) → FindOwn key shelf ps vs found
    → AllByRecursion (Says shelf) (placements_of key ps) → ArePlacements found qs → placements_of key qs ≡ placements_over key ps vs
over_all key shelf ps [] [] found own say are = refl
over_all key shelf ps (q ∷ qs) [] found own say are = absurd (subst (λ (l : List Found). ArePlacements l (q ∷ qs)) own are)
over_all key shelf ps qs (v ∷ vs) found own say are =
    let parted = parted_at own.0 own.1 qs (subst (λ (l : List Found). ArePlacements l qs) own.2 are) in
    ap (placements_of key) parted.all_are ∙ placements_of-append key parted.front parted.back
    ∙ ap₂ (λ (x y : List Placement). x ++ y) (on_one key shelf ps parted.front v own.0 own.3 say parted.front_are)
    (over_all key shelf ps parted.back vs own.1 own.4 say parted.back_are)

pub scan_tells_spans : ScanTellsSpans
scan_tells_spans key shelf ps qs vs found own say over are =
    let says = recursion_from_All (Says shelf) (placements_of key ps) say in
    ap (λ (l : List Placement). numbered_from 1 (stretches l)) (over_all key shelf ps qs vs found own says are ∙ over)
