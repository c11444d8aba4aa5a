-- Names that are claimed, and names that are being claimed.
use Rattle.std.proofs.Common.{◌≡◌, ◌≢◌, ℕ, Bool, true, false, refl, sym, ap, ◌∙◌, Option, Some, None, List}
use Rattle.std.specs.Option.{option_map}
use Rattle.std.specs.Str.{bytes_eq}
use Rattle.std.proofs.lemmas.Slice.Eq.{bytes_eq-Decides}
use Rattle.sd_desk.specs.Desk.{DeskView, OtherClaimsStay, SameClaims, claim_of, claimed_by, new_claim}
use Rattle.sd_desk.specs.declared.claim.Claim.{Claim}
use Rattle.sd_board.specs.Names.{EndsClaim, KeepsNames, NamePlaced, NamesIs, NamesStay, place_by, place_of}
use Rattle.sd_board.specs.declared.names.VolumePlace.TheVariants.{Nowhere, Coming}

-- the drive of a claim, if there is one
abbrev drive_in : Option Claim → Option ℕ
drive_in o = option_map (λ (c : Claim). c.drive) o

-- what holds of a name and of each other holds of all
all_names : (P : List ℕ → Type 0) (name : List ℕ) → P name → ((other : List ℕ) → other ≢ name → P other) → (x : List ℕ) → P x
all_names P name here others x = by (bytes_eq x name) refl
  where
    by : (b : Bool) → bytes_eq x name ≡ b → P x
    by true is = let same = (bytes_eq-Decides x name).0 is in rw same here
    by false is = others x (λ same. (let t = (bytes_eq-Decides x name).1 same in cc (t, is)))

-- a name that is nowhere is claimed for no drive
nowhere : (a b : Option ℕ) → place_by a b ≡ Nowhere → (a ≡ None) × (b ≡ None)
nowhere None None is = (refl, refl)
nowhere None (Some d) is = absurd (cc is)
nowhere (Some d) b is = absurd (cc is)

-- one that is being claimed is so for that drive
coming : (a b : Option ℕ) (drive : ℕ) → place_by a b ≡ Coming drive → a ≡ Some drive
coming None None drive is = absurd (cc is)
coming None (Some d) drive is = absurd (cc is)
coming (Some d) b drive is = ap Some (cc is)

-- what claims say of a name is where it is
same_place : (old new : NamesIs) (name : List ℕ) → claim_of new.coming name ≡ claim_of old.coming name → claim_of new.desk name ≡ claim_of old.desk name
    → place_of name new ≡ place_of name old
same_place old new name c d =
    ap (λ o. place_by (drive_in o) (claimed_by new.desk name)) c ∙ ap (λ o. place_by (claimed_by old.coming name) (drive_in o)) d

-- A name is being claimed from now on.
module _ (old new : NamesIs) (name : List ℕ) (drive : ℕ) (comes : claim_of new.coming name ≡ Some (new_claim drive)) (others : OtherClaimsStay name old.coming new.coming)
    (claimed : claim_of new.desk name ≡ Some (new_claim drive)) (stay : OtherClaimsStay name old.desk new.desk) where
  pub begins : new.desk.requests ≡ old.desk.requests → NamePlaced name (Coming drive) old new
  begins asked = record {
    placed = ap (λ o. place_by (drive_in o) (claimed_by new.desk name)) comes;
    others = λ other apart. same_place old new other (others other apart) (stay other apart);
    requests = asked;
  }

  pub keeps_begun : KeepsNames old → KeepsNames new
  keeps_begun keeps =
      all_names (λ x. (d : ℕ) → claimed_by new.coming x ≡ Some d → claimed_by new.desk x ≡ Some d) name
      (λ d is. ap drive_in (claimed ∙ sym comes) ∙ is)
      (λ other apart d is. ap drive_in (stay other apart) ∙ keeps other d (sym (ap drive_in (others other apart)) ∙ is))

-- There was no memory.
module _ (old new : NamesIs) (name : List ℕ) (free : place_of name old ≡ Nowhere) (gone : claim_of new.coming name ≡ None) (others : OtherClaimsStay name old.coming new.coming)
    (same : SameClaims old.desk new.desk) where
  pub stays : new.desk.requests ≡ old.desk.requests → NamesStay old new
  stays asked = record {
    places = all_names (λ x. place_of x new ≡ place_of x old) name
        (ap (λ o. place_by (drive_in o) (claimed_by new.desk name)) gone
        ∙ ap (place_by None) (ap drive_in (same name) ∙ (nowhere (claimed_by old.coming name) (claimed_by old.desk name) free).1)
        ∙ sym free)
        (λ other apart. same_place old new other (others other apart) (same other));
    requests = asked;
  }

  pub keeps_stayed : KeepsNames old → KeepsNames new
  keeps_stayed keeps =
      all_names (λ x. (d : ℕ) → claimed_by new.coming x ≡ Some d → claimed_by new.desk x ≡ Some d) name
      (λ d is. absurd (cc (ap drive_in gone, is)))
      (λ other apart d is. ap drive_in (same other) ∙ keeps other d (sym (ap drive_in (others other apart)) ∙ is))

-- The claiming of a name ends.

-- the places of a name that another desk has
module _ (old new : NamesIs) (name : List ℕ) (keeps : KeepsNames old) (at : ℕ) (comes : claimed_by old.coming name ≡ Some at) (gone : claim_of new.coming name ≡ None)
    (others : OtherClaimsStay name old.coming new.coming) where
  now_at : (o : Option ℕ) → claimed_by new.desk name ≡ o → place_of name new ≡ place_by None o
  now_at o is = ap (λ c. place_by (drive_in c) (claimed_by new.desk name)) gone ∙ ap (place_by None) is

  -- it is kept
  pub ends_kept : new.desk ≡ old.desk → EndsClaim true name old new
  ends_kept is = record {
    kept_there = λ drive was kept.
        let own = keeps name drive (coming (claimed_by old.coming name) (claimed_by old.desk name) drive was) in
        record {
          placed = now_at (Some drive) (ap (λ (d : DeskView). claimed_by d name) is ∙ own);
          others = λ other apart. same_place old new other (others other apart) (ap (λ (d : DeskView). claim_of d other) is);
          requests = ap (λ (d : DeskView). d.requests) is;
        };
    let_go = λ drive was kept. absurd (cc kept);
    not_coming = λ none. absurd (none (λ is_none. cc (is_none, comes)));
  }

  -- it is let go
  pub ends_free : claim_of new.desk name ≡ None → OtherClaimsStay name old.desk new.desk → new.desk.requests ≡ old.desk.requests → EndsClaim false name old new
  ends_free free stay asked = record {
    kept_there = λ drive was kept. absurd (cc kept);
    let_go = λ drive was kept. record {
      placed = now_at None (ap drive_in free);
      others = λ other apart. same_place old new other (others other apart) (stay other apart);
      requests = asked;
    };
    not_coming = λ none. absurd (none (λ is_none. cc (is_none, comes)));
  }

  pub keeps_ended : OtherClaimsStay name old.desk new.desk → KeepsNames new
  keeps_ended stay =
      all_names (λ x. (d : ℕ) → claimed_by new.coming x ≡ Some d → claimed_by new.desk x ≡ Some d) name
      (λ d is. absurd (cc (ap drive_in gone, is)))
      (λ other apart d is. ap drive_in (stay other apart) ∙ keeps other d (sym (ap drive_in (others other apart)) ∙ is))
