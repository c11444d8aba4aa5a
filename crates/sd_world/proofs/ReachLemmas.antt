-- Which placements on its volume a stretch reaches over.
use Rattle.std.proofs.Common.{◌≡◌, ℕ, ◌+◌, Bool, true, false, if◌then◌else◌, List, [], ◌∷◌, ◌++◌, refl, ap, sym, subst, ◌∙◌}
use Rattle.std.proofs.lemmas.List.{append_assoc, append-nil}
use Rattle.std.specs.List.{flat_map}
use Rattle.std.specs.Str.{bytes_eq}
use Rattle.std.proofs.lemmas.Slice.Eq.{bytes_eq-Decides}
use Rattle.sd_base.specs.FileIndex.{first_nonzero}
use Rattle.sd_base.specs.Key.{is_key}
use Rattle.sd_base.specs.declared.number.SessionKey.{SessionKey}
use Rattle.sd_drive.specs.Shelf.{placements_on}
use Rattle.sd_drive.proofs.LaidLemmas.{placements_on-append, on_here}
use Rattle.sd_span.specs.Spans.{placements_of, stretch_of, in_front, stretches}
use Rattle.sd_span.specs.declared.placement.Placement.{Placement}
use Rattle.sd_span.specs.declared.span.Span.{Span}
use Rattle.sd_span.proofs.SpanLemmas.{placements_of-append}

-- the stretch reaches from the first of these placements, which lie on its volume after those before, to the last
pub record Reaches (all : List Placement) (s : Span) (before own : List Placement) : Type 0 where
  pub after : List Placement
  pub parted : placements_on s.volume all ≡ before ++ (own ++ after)
  pub first : Placement
  pub behind : List Placement
  pub from : own ≡ first ∷ behind
  pub start_is : s.start ≡ first.start
  pub front : List Placement
  pub last : Placement
  pub to : own ≡ front ++ last ∷ []
  pub end_is : s.end ≡ last.start + last.length

-- each stretch reaches over its own
abbrev pub AllReach : List Placement → List Span → List (List Placement) → Type 0
AllReach all [] [] = Unit {0}
AllReach all [] (own ∷ owns) = ⊥
AllReach all (s ∷ ss) [] = ⊥
AllReach all (s ∷ ss) (own ∷ owns) = ((before : List Placement) × Reaches all s before own) × AllReach all ss owns

-- each stretch reaches over its own, and between those that came earlier and the first stretch no placement on its
-- volume is the session's
abbrev pub ReachFrom : SessionKey → List Placement → List Placement → List Span → List (List Placement) → Type 0
ReachFrom key all earlier [] [] = Unit {0}
ReachFrom key all earlier [] (own ∷ owns) = ⊥
ReachFrom key all earlier (s ∷ ss) [] = ⊥
ReachFrom key all earlier (s ∷ ss) (own ∷ owns) =
    ((gap : List Placement) × (placements_of key gap ≡ []) × Reaches all s (placements_on s.volume earlier ++ gap) own) × AllReach all ss owns

pub all_reach : (key : SessionKey) (all earlier : List Placement) (ss : List Span) (owns : List (List Placement)) → ReachFrom key all earlier ss owns → AllReach all ss owns
all_reach key all earlier [] [] r = tt
all_reach key all earlier [] (own ∷ owns) r = r
all_reach key all earlier (s ∷ ss) [] r = r
all_reach key all earlier (s ∷ ss) (own ∷ owns) r = ((placements_on s.volume earlier ++ r.0.0, r.0.2), r.1)

-- the placements that stretches reach over, in order
abbrev pub reached : List (List Placement) → List Placement
reached owns = flat_map (λ own. own) owns

-- ---- a placement of another session in front

pub of_if : (key : SessionKey) (p : Placement) (ps : List Placement) (b : Bool) → is_key key p.key ≡ b → placements_of key (p ∷ ps) ≡ (if b then p ∷ placements_of key ps else placements_of key ps)
of_if key p ps b is = ap (λ c. if c then p ∷ placements_of key ps else placements_of key ps) is

-- on no volume is it the session's
other_on : (key : SessionKey) (name : List ℕ) (p : Placement) → is_key key p.key ≡ false → placements_of key (placements_on name (p ∷ [])) ≡ []
other_on key name p other = elim (bytes_eq p.volume name) as (λ b. placements_of key (if b then p ∷ [] else []) ≡ []) [
  | true ↦ of_if key p [] false other
  | false ↦ refl
]

-- the front of a volume with one placement more
front_more : (name : List ℕ) (earlier gap : List Placement) (p : Placement) → placements_on name (earlier ++ p ∷ []) ++ gap ≡ placements_on name earlier ++ (placements_on name (p ∷ []) ++ gap)
front_more name earlier gap p = ap (λ l. l ++ gap) (placements_on-append name earlier (p ∷ [])) ∙ append_assoc (placements_on name earlier) (placements_on name (p ∷ [])) gap

reach_past : (key : SessionKey) (all earlier : List Placement) (p : Placement) (ss : List Span) (owns : List (List Placement)) → is_key key p.key ≡ false
    → ReachFrom key all (earlier ++ p ∷ []) ss owns → ReachFrom key all earlier ss owns
reach_past key all earlier p [] [] other r = tt
reach_past key all earlier p [] (own ∷ owns) other r = r
reach_past key all earlier p (s ∷ ss) [] other r = r
reach_past key all earlier p (s ∷ ss) (own ∷ owns) other r =
    let gap = r.0.0 in
    let none : placements_of key (placements_on s.volume (p ∷ []) ++ gap) ≡ [] =
    placements_of-append key (placements_on s.volume (p ∷ [])) gap ∙ ap (λ l. l ++ placements_of key gap) (other_on key s.volume p other) ∙ r.0.1 in
    let P : List Placement → Type 0 = λ l. Reaches all s l own in
    ((placements_on s.volume (p ∷ []) ++ gap, none, subst P (front_more s.volume earlier gap p) r.0.2), r.1)

-- ---- a placement of the session in front

-- what stretches with that placement in front reach over
pub record ReachWith (key : SessionKey) (all earlier : List Placement) (p : Placement) (ss : List Span) (owns : List (List Placement)) : Type 0 where
  pub lists : List (List Placement)
  pub reach : ReachFrom key all earlier (in_front p ss) lists
  pub own : placements_of key (reached lists) ≡ placements_of key (p ∷ reached owns)

-- it is a stretch of its own
reach_alone : (all earlier rest : List Placement) (p : Placement) → all ≡ earlier ++ (p ∷ rest) → Reaches all (stretch_of p) (placements_on p.volume earlier ++ []) (p ∷ [])
reach_alone all earlier rest p e =
    let n = p.volume in
    let parted : placements_on n all ≡ placements_on n earlier ++ (p ∷ placements_on n rest) =
    ap (placements_on n) e ∙ placements_on-append n earlier (p ∷ rest)
    ∙ ap (λ l. placements_on n earlier ++ l) (placements_on-append n (p ∷ []) rest ∙ ap (λ l. l ++ placements_on n rest) (on_here n p refl)) in
    record {
      after = placements_on n rest;
      parted = parted ∙ ap (λ l. l ++ (p ∷ placements_on n rest)) (sym (append-nil (placements_on n earlier)));
      first = p;
      behind = [];
      from = refl;
      start_is = refl;
      front = [];
      last = p;
      to = refl;
      end_is = refl;
    }

-- it begins a stretch on its volume
reach_longer : (all earlier gap own : List Placement) (p : Placement) (s t : Span) → p.volume ≡ s.volume → t ≡ record s { first = first_nonzero p.first s.first; last = first_nonzero s.last p.last; start = p.start }
    → Reaches all s (placements_on s.volume (earlier ++ p ∷ []) ++ gap) own → Reaches all t (placements_on t.volume earlier ++ []) (p ∷ (gap ++ own))
reach_longer all earlier gap own p s t on is r =
    let n = s.volume in
    let before = placements_on n earlier in
    let e : placements_on n (earlier ++ p ∷ []) ++ gap ≡ before ++ (p ∷ gap) = front_more n earlier gap p ∙ ap (λ l. before ++ (l ++ gap)) (on_here n p on) in
    let parted : placements_on n all ≡ (before ++ []) ++ ((p ∷ (gap ++ own)) ++ r.after) =
    r.parted ∙ ap (λ l. l ++ (own ++ r.after)) e ∙ append_assoc before (p ∷ gap) (own ++ r.after)
    ∙ ap (λ l. before ++ (p ∷ l)) (sym (append_assoc gap own r.after)) ∙ ap (λ l. l ++ ((p ∷ (gap ++ own)) ++ r.after)) (sym (append-nil before)) in
    let P : Span → Type 0 = λ x. Reaches all x (placements_on x.volume earlier ++ []) (p ∷ (gap ++ own)) in
    subst P (sym is) (record {
      after = r.after;
      parted = parted;
      first = p;
      behind = gap ++ own;
      from = refl;
      start_is = refl;
      front = p ∷ (gap ++ r.front);
      last = r.last;
      to = ap (λ l. p ∷ l) (ap (λ l. gap ++ l) r.to ∙ sym (append_assoc gap r.front (r.last ∷ [])));
      end_is = r.end_is;
    })

-- a list of none between two is left out
none_between : (key : SessionKey) (p : Placement) (gap own rest : List Placement) → placements_of key gap ≡ [] → placements_of key ((p ∷ (gap ++ own)) ++ rest) ≡ placements_of key (p ∷ (own ++ rest))
none_between key p gap own rest none =
    ap (λ l. placements_of key (p ∷ l)) (append_assoc gap own rest) ∙ placements_of-append key (p ∷ []) (gap ++ (own ++ rest))
    ∙ ap (λ l. placements_of key (p ∷ []) ++ l) (placements_of-append key gap (own ++ rest) ∙ ap (λ l. l ++ placements_of key (own ++ rest)) none)
    ∙ sym (placements_of-append key (p ∷ []) (own ++ rest))

reach_with : (key : SessionKey) (all earlier rest : List Placement) (p : Placement) (ss : List Span) (owns : List (List Placement)) → all ≡ earlier ++ (p ∷ rest)
    → ReachFrom key all (earlier ++ p ∷ []) ss owns → ReachWith key all earlier p ss owns
reach_with key all earlier rest p [] [] e r = record { lists = (p ∷ []) ∷ []; reach = (([], refl, reach_alone all earlier rest p e), tt); own = refl }
reach_with key all earlier rest p [] (own ∷ owns) e r = absurd r
reach_with key all earlier rest p (s ∷ ss) [] e r = absurd r
reach_with key all earlier rest p (s ∷ ss) (own ∷ owns) e r = from (bytes_eq p.volume s.volume) refl
  where
    longer : Span
    longer = record s { first = first_nonzero p.first s.first; last = first_nonzero s.last p.last; start = p.start }

    begun : (b : Bool) → bytes_eq p.volume s.volume ≡ b → in_front p (s ∷ ss) ≡ (if b then longer ∷ ss else stretch_of p ∷ s ∷ ss)
    begun b is = ap (λ c. if c then longer ∷ ss else stretch_of p ∷ s ∷ ss) is

    from : (b : Bool) → bytes_eq p.volume s.volume ≡ b → ReachWith key all earlier p (s ∷ ss) (own ∷ owns)
    from true is =
        let gap = r.0.0 in
        let P : List Span → Type 0 = λ l. ReachFrom key all earlier l ((p ∷ (gap ++ own)) ∷ owns) in
        record {
          lists = (p ∷ (gap ++ own)) ∷ owns;
          reach = subst P (sym (begun true is)) (([], refl, reach_longer all earlier gap own p s longer ((bytes_eq-Decides p.volume s.volume).0 is) refl r.0.2), r.1);
          own = none_between key p gap own (reached owns) r.0.1;
        }
    from false is =
        let P : List Span → Type 0 = λ l. ReachFrom key all earlier l ((p ∷ []) ∷ own ∷ owns) in
        record {
          lists = (p ∷ []) ∷ own ∷ owns;
          reach = subst P (sym (begun false is)) (([], refl, reach_alone all earlier rest p e), ((placements_on s.volume (earlier ++ p ∷ []) ++ r.0.0, r.0.2), r.1));
          own = refl;
        }

-- ---- the stretches of a session

-- what they reach over holds all placements of the session and no others of it
pub record OwnReach (key : SessionKey) (all earlier ps : List Placement) : Type 0 where
  pub lists : List (List Placement)
  pub reach : ReachFrom key all earlier (stretches (placements_of key ps)) lists
  pub own : placements_of key (reached lists) ≡ placements_of key ps

pub own_reach : (key : SessionKey) (all earlier ps more : List Placement) → all ≡ earlier ++ (ps ++ more) → OwnReach key all earlier ps
own_reach key all earlier [] more e = record { lists = []; reach = tt; own = refl }
own_reach key all earlier (p ∷ ps) more e =
    from (own_reach key all (earlier ++ p ∷ []) ps more (e ∙ sym (append_assoc earlier (p ∷ []) (ps ++ more)))) (is_key key p.key) refl
  where
    from : OwnReach key all (earlier ++ p ∷ []) ps → (b : Bool) → is_key key p.key ≡ b → OwnReach key all earlier (p ∷ ps)
    from r true is =
        let w = reach_with key all earlier (ps ++ more) p (stretches (placements_of key ps)) r.lists e r.reach in
        let here = of_if key p ps true is in
        let P : List Placement → Type 0 = λ l. ReachFrom key all earlier (stretches l) w.lists in
        record {
          lists = w.lists;
          reach = subst P (sym here) w.reach;
          own = w.own ∙ of_if key p (reached r.lists) true is ∙ ap (λ l. p ∷ l) r.own ∙ sym here;
        }
    from r false is =
        let here = of_if key p ps false is in
        let P : List Placement → Type 0 = λ l. ReachFrom key all earlier (stretches l) r.lists in
        record {
          lists = r.lists;
          reach = subst P (sym here) (reach_past key all earlier p (stretches (placements_of key ps)) r.lists is r.reach);
          own = r.own ∙ sym here;
        }
