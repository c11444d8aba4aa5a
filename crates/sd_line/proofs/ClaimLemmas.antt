-- The desk of a daemon that has one drive alone.
use Rattle.std.proofs.Common.{◌≡◌, ◌≢◌, ℕ, zero, suc, Bool, true, false, None, Some, List, [], ◌∷◌, map, slice_get, refl, sym, ap, ◌∙◌, inl, inr}
use Rattle.std.specs.Prelude.{◌⊎◌, ◌==◌, ◌++◌, not, filter}
use native.Mathlib.Decide.{ℕ_discrete}
use Rattle.std.specs.Option.{option_map}
use Rattle.std.specs.BTreeMap.{is_at}
use Rattle.std.specs.Cmp.Lexicographic.{slice_cmp}
use Rattle.std.specs.Map.{lookup}
use Rattle.std.specs.Ordering.{nat_cmp}
use Rattle.std.specs.Str.{bytes_eq}
use Rattle.std.proofs.lemmas.Bool.{cond-true, cond-false}
use Rattle.std.proofs.lemmas.List.Elements.{All-nil, All-cons, All-head, All-tail}
use Rattle.std.proofs.lemmas.Map.Text.{is_eq-slice_cmp}
use Rattle.std.proofs.lemmas.Slice.Eq.{bytes_eq-Decides}
use Rattle.sd_desk.specs.Desk.{DeskView, claim_of, claimed_by, new_claim, HasNotAsked}
use Rattle.sd_desk.specs.declared.claim.Claim.{Claim}
use Rattle.sd_desk.specs.declared.request.Request.{Request}
use Rattle.sd_drive.specs.Moves.{index_of}
use Rattle.sd_drive.specs.View.{DriveIs, names}
use Rattle.sd_drive.proofs.FindLemmas.{place_there, place_none}
use Rattle.sd_drive.proofs.Places.{get_map}
use Rattle.sd_line.specs.Operates.{desk_of}
use Rattle.sd_volume.specs.Volume.{VolumeView}
use Rattle.sd_world.specs.Operators.{SameDesk, ClaimsName, AnswersDrive, AsksOnce}

-- the claims of these names
abbrev claims_at : Claim → List (List ℕ) → List (List ℕ × Claim)
claims_at claim ns = map (λ name. (name, claim)) ns

finds : (name other : List ℕ) (b : Bool) → bytes_eq name other ≡ b → is_at (slice_cmp nat_cmp name) other ≡ b
finds name other b is = is_eq-slice_cmp name other ∙ is

-- a name that isn't among them is not claimed
none_found : (claim : Claim) (name : List ℕ) (ns : List (List ℕ)) → ((at : ℕ) → slice_get ns at ≢ Some name)
    → lookup (is_at (slice_cmp nat_cmp name)) (claims_at claim ns) ≡ None
none_found claim name [] apart = refl
none_found claim name (n ∷ ns) apart = from (none_found claim name ns (λ at. apart (suc at))) (bytes_eq name n) refl
  where
    from : lookup (is_at (slice_cmp nat_cmp name)) (claims_at claim ns) ≡ None → (b : Bool) → bytes_eq name n ≡ b
        → lookup (is_at (slice_cmp nat_cmp name)) (claims_at claim (n ∷ ns)) ≡ None
    from later true is = absurd (apart 0 (ap Some (sym ((bytes_eq-Decides name n).0 is))))
    from later false is = cond-false _ _ _ (finds name n false is) ∙ later

-- one that is, is
one_found : (claim : Claim) (name : List ℕ) (ns : List (List ℕ)) (at : ℕ) → slice_get ns at ≡ Some name
    → lookup (is_at (slice_cmp nat_cmp name)) (claims_at claim ns) ≡ Some claim
one_found claim name [] at there = cc
one_found claim name (n ∷ ns) zero there =
    cond-true _ _ _ (finds name n true ((bytes_eq-Decides name n).1 (let same : n ≡ name = cc there in sym same)))
one_found claim name (n ∷ ns) (suc at) there = from (one_found claim name ns at there) (bytes_eq name n) refl
  where
    from : lookup (is_at (slice_cmp nat_cmp name)) (claims_at claim ns) ≡ Some claim → (b : Bool) → bytes_eq name n ≡ b
        → lookup (is_at (slice_cmp nat_cmp name)) (claims_at claim (n ∷ ns)) ≡ Some claim
    from later true is = cond-true _ _ _ (finds name n true is)
    from later false is = cond-false _ _ _ (finds name n false is) ∙ later

module _ {D : Type 0} (own : ℕ) (d : DriveIs D) (requests : List Request) (name : List ℕ) where
  pub unclaimed : index_of d.volumes name ≡ None → claimed_by (desk_of own d requests) name ≡ None
  unclaimed none = ap (option_map (λ (c : Claim). c.drive)) (none_found (new_claim own) name (names d.volumes) (place_none d.volumes name none))

  pub is_claimed : (at : ℕ) → index_of d.volumes name ≡ Some at → claimed_by (desk_of own d requests) name ≢ None
  is_claimed at is none =
      let p = place_there d.volumes name at is in
      let there : slice_get (names d.volumes) at ≡ Some name = get_map (λ (v : VolumeView). v.name) d.volumes at p.0 p.1 ∙ ap Some p.2 in
      let one = ap (option_map (λ (c : Claim). c.drive)) (one_found (new_claim own) name (names d.volumes) at there) in
      cc (sym one ∙ none)

-- nothing of a desk changes
pub same_desk : (desk : DeskView) → SameDesk desk desk
same_desk desk = record { claims = λ name. refl; requests = refl }

-- the desk with one claim more
abbrev pub with_claim : ℕ → List ℕ → DeskView → DeskView
with_claim own name desk = record desk { claims = (name, new_claim own) ∷ desk.claims }

pub claims_more : (own : ℕ) (name : List ℕ) (desk : DeskView) → claimed_by desk name ≡ None → ClaimsName name own desk (with_claim own name desk)
claims_more own name desk none = record {
  unclaimed = none;
  claimed = cond-true _ _ _ (finds name name true ((bytes_eq-Decides name name).1 refl));
  others = λ other apart. from other apart (bytes_eq other name) refl;
  requests = refl;
}
  where
    from : (other : List ℕ) → other ≢ name → (b : Bool) → bytes_eq other name ≡ b → claim_of (with_claim own name desk) other ≡ claim_of desk other
    from other apart true is = absurd (apart ((bytes_eq-Decides other name).0 is))
    from other apart false is = cond-false _ _ _ (finds other name false is)

-- the desk once the drive was answered
abbrev pub answered : ℕ → DeskView → DeskView
answered own desk = record desk { requests = filter (λ (r : Request). not (r.drive == own)) desk.requests }

pub answers : (own : ℕ) (desk : DeskView) → AnswersDrive own desk (answered own desk)
answers own desk = record { claims = λ name. refl; requests = refl }

-- no request is the drive's, or one is
asked : (own : ℕ) (rs : List Request) → HasNotAsked own rs ⊎ (HasNotAsked own rs → ⊥)
asked own [] = inl (All-nil (λ (r : Request). r.drive ≢ own))
asked own (r ∷ rs) = elim (ℕ_discrete r.drive own) [
  | yes same ↦ inr (λ none. All-head (λ (x : Request). x.drive ≢ own) r rs none same)
  | no apart ↦ elim (asked own rs) [
    | inl none ↦ inl (All-cons (λ (x : Request). x.drive ≢ own) r rs apart none)
    | inr some ↦ inr (λ none. some (All-tail (λ (x : Request). x.drive ≢ own) r rs none))
  ]
]

-- the desk once a request was asked, unless the drive has one
pub asked_once : (request : Request) (desk : DeskView) → (new : DeskView) × AsksOnce request desk new
asked_once request desk = elim (asked request.drive desk.requests) [
  | inl none ↦ (
    record desk { requests = desk.requests ++ request ∷ [] },
    record { claims = λ name. refl; first = λ not_yet. refl; again = λ some. absurd (some none) },
  )
  | inr some ↦ (desk, record { claims = λ name. refl; first = λ none. absurd (some none); again = λ again. refl })
]
