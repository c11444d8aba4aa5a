-- What a board keeps.
use Rattle.std.proofs.Common.{◌≡◌, ℕ, ◌+◌, ◌-◌, ◌≤◌, ◌<◌, refl, sym, ap, subst, ◌∙◌, inl, inr, arith, Option, Some, List, [], ◌∷◌, ◌++◌, length, slice_get, slice_set}
use Rattle.std.specs.Prelude.{Result, Ok, Err, OnErr, OnOk}
use Rattle.std.proofs.lemmas.List.{length-append}
use Rattle.std.proofs.lemmas.Option.{slice_get_within}
use Rattle.sd_base.proofs.ChoiceLemmas.{same_some}
use Rattle.sd_base.specs.Limits.{most_drives}
use Rattle.sd_drive.proofs.Places.{get_more, length_set}
use Rattle.sd_line.specs.Ends.{EndIs}
use Rattle.sd_world.proofs.Lookups.{get_set-tells}
use Rattle.sd_board.specs.Board.{AreNumbered, BoardIs, KeepsBoard, MayRest, Rests}
use Rattle.sd_board.specs.Lines.{LinesIs, next_number, promised_more}
use Rattle.sd_board.specs.Opening.{ChoosesLane}
use Rattle.sd_board.specs.Slots.{DriveLanesIs, MayLie, TakesLowest, lies_in}
use Rattle.sd_board.specs.declared.seen.DriveSeen.{DriveSeen}
use Rattle.sd_board.specs.declared.sent.Sent.{Sent}
use Rattle.sd_board.proofs.ViewLemmas.{IsReached}

-- Drives.

-- another of its number in a drive's place
pub numbered_set : (ds : List DriveLanesIs) (at : ℕ) (d new : DriveLanesIs) → AreNumbered ds → slice_get ds at ≡ Some d → new.no ≡ d.no
    → AreNumbered (slice_set ds at new)
numbered_set ds at d new h there same k x stands = elim (get_set-tells ds at k new x stands) [
  | inl p ↦ ap (λ (y : DriveLanesIs). y.no) p.1 ∙ same ∙ h at d there ∙ ap (λ n. n + 1) (sym p.0)
  | inr p ↦ h k x p.1
]

-- the next one after them
pub numbered_push : (ds : List DriveLanesIs) (new : DriveLanesIs) → AreNumbered ds → new.no ≡ length ds + 1 → AreNumbered (ds ++ new ∷ [])
numbered_push ds new h is k x stands = elim (get_more ds new k x stands) [
  | inl there ↦ h k x there
  | inr l ↦ ap (λ (y : DriveLanesIs). y.no) l.value ∙ is ∙ ap (λ n. n + 1) (sym l.place)
]

-- a board with another of its number in a drive's place
pub keeps_drive : (b : BoardIs) (at : ℕ) (d new : DriveLanesIs) → KeepsBoard b → slice_get b.drives at ≡ Some d → new.no ≡ d.no
    → KeepsBoard (record b { drives = slice_set b.drives at new })
keeps_drive b at d new h there same = record {
  most = (let long = length_set b.drives at new in let most = h.most in omega (arith, long, most));
  numbered = numbered_set b.drives at d new h.numbered there same;
}

-- a board with one more drive
pub keeps_push : (b : BoardIs) (new : DriveLanesIs) (drives : List DriveLanesIs) → KeepsBoard b → length b.drives < most_drives → new.no ≡ length b.drives + 1
    → drives ≡ b.drives ++ new ∷ [] → KeepsBoard (record b { drives = drives })
keeps_push b new drives h few own is =
    let long : length (b.drives ++ new ∷ []) ≡ length b.drives + 1 = length-append b.drives (new ∷ []) in
    subst (λ (ds : List DriveLanesIs). KeepsBoard (record b { drives = ds })) (sym is)
    (record { most = omega (arith, long, few); numbered = numbered_push b.drives new h.numbered own })

-- Ends that rest.

-- the drives with one in whose slot an end was laid, or with those that were
pub rests_numbered : (ds new : List DriveLanesIs) (e : EndIs) (way : Option Sent) → AreNumbered ds → Rests ds e way new → AreNumbered new
rests_numbered ds new e way h (d, there, may, is) =
    subst AreNumbered (sym is) (numbered_set ds (e.seat.no - 1) d (lies_in e way d) h there refl)

pub rests_long : (ds new : List DriveLanesIs) (e : EndIs) (way : Option Sent) → Rests ds e way new → length new ≡ length ds
rests_long ds new e way (d, there, may, is) = ap length is ∙ length_set ds (e.seat.no - 1) (lies_in e way d)

-- a board on which one rests
pub keeps_rest : (b : BoardIs) (new : List DriveLanesIs) (e : EndIs) (way : Option Sent) → KeepsBoard b → Rests b.drives e way new → KeepsBoard (record b { drives = new })
keeps_rest b new e way h r = record {
  most = (let long = rests_long b.drives new e way r in let most = h.most in omega (arith, long, most));
  numbered = rests_numbered b.drives new e way h.numbered r;
}

-- a board on which one rests, or none does
pub keeps_either : {T E : Type 0} (b : BoardIs) (new : List DriveLanesIs) (e : EndIs) (way : Option Sent) (r : Result T E) → KeepsBoard b
    → OnOk r (Rests b.drives e way new) → OnErr r (new ≡ b.drives) → KeepsBoard (record b { drives = new })
keeps_either b new e way (Ok x) h ok err = keeps_rest b new e way h ok
keeps_either b new e way (Err x) h ok err = subst (λ (ds : List DriveLanesIs). KeepsBoard (record b { drives = ds })) (sym err) h

-- An end at its drive.
module _ (ds : List DriveLanesIs) (e : EndIs) (place : ℕ) (d : DriveLanesIs) (at : place ≡ e.seat.no - 1) (there : slice_get ds place ≡ Some d) where
  pub rests : (way : Option Sent) (new : DriveLanesIs) → MayLie d e × (new ≡ lies_in e way d) → Rests ds e way (slice_set ds place new)
  rests way new (may, is) = (
    d,
    subst (λ (n : ℕ). slice_get ds n ≡ Some d) at there,
    may,
    ap (slice_set ds place) is ∙ ap (λ (n : ℕ). slice_set ds n (lies_in e way d)) at,
  )

  pub rests_not : (MayLie d e → ⊥) → MayRest ds e → ⊥
  rests_not not (x, stands, may) =
      not (subst (λ (y : DriveLanesIs). MayLie y e) (same_some (sym stands ∙ subst (λ (n : ℕ). slice_get ds n ≡ Some d) at there)) may)

-- and at none
pub rests_nowhere : (ds : List DriveLanesIs) (e : EndIs) (place : ℕ) → place ≡ e.seat.no - 1 → length ds ≤ place → MayRest ds e → ⊥
rests_nowhere ds e place at past (d, there, may) =
    let within = slice_get_within ds (e.seat.no - 1) d there in
    omega (arith, at, past, within)

-- A lane is chosen.

module _ (b : BoardIs) (seen : List DriveSeen) (pool media : List ℕ) (ticket drive place : ℕ) (read new : DriveLanesIs) (e : EndIs) (lines : LinesIs)
    (h : KeepsBoard b) (r : IsReached b.drives seen pool media drive place) (there : slice_get b.drives place ≡ Some read) (takes : TakesLowest read e new) where
  -- the board without the lane's end
  abbrev pub chosen_board : BoardIs
  chosen_board = record b { drives = slice_set b.drives place new; lines = lines }

  pub chooses : ticket ≡ next_number b.lines → lines ≡ promised_more b.lines → ChoosesLane b seen pool media ticket drive e chosen_board
  chooses number more = record {
    ticket_is = number;
    place = place;
    drive_is = r.number_is;
    first = r.first;
    lanes = read;
    lanes' = new;
    there = there;
    takes = takes;
    is = ap (λ (l : LinesIs). record b { drives = slice_set b.drives place new; lines = l }) more;
  }

  pub keeps_chosen : KeepsBoard chosen_board
  keeps_chosen = record {
    most = (let long = length_set b.drives place new in let few = h.most in omega (arith, long, few));
    numbered = numbered_set b.drives place read new h.numbered there (ap (λ (d : DriveLanesIs). d.no) takes.is);
  }
