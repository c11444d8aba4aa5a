-- What the names of a desk's claims say, as its map has them.
use Rattle.std.proofs.Common.{◌≡◌, ◌≢◌, ℕ, cond, Option, Some, OnOk, Result, Ok, Err, List, [], ◌∷◌, String, refl, sym, ap, ◌∙◌}
use Rattle.std.proofs.lemmas.Bool.{cond-false, false_from_ne_true}
use Rattle.std.proofs.lemmas.Map.Text.{btree_map_updates_text}
use Rattle.std.proofs.lemmas.Slice.Eq.{bytes_eq-Decides}
use Rattle.std.specs.BTreeMap.{BTreeMap, UpdatesBy, get_by_text, is_at}
use Rattle.std.specs.Cmp.Lexicographic.{slice_cmp}
use Rattle.std.specs.Map.{lookup}
use Rattle.std.specs.Ordering.{nat_cmp}
use Rattle.std.specs.Str.{bytes_eq}
use Rattle.std.specs.String.{string_bytes, string_cmp}
use Rattle.sd_desk.specs.Desk.{claims_of}
use Rattle.sd_desk.specs.declared.claim.Claim.{Claim}

-- a name is found among the claims as its text is among the entries
pub claims_lookup : {A : Type 0} (name : List ℕ) (entries : List (String A × Claim))
    → lookup (is_at (slice_cmp nat_cmp name)) (claims_of entries)
    ≡ lookup (is_at (λ (k : String A). slice_cmp nat_cmp name (string_bytes k))) entries
claims_lookup name [] = refl
claims_lookup name (e ∷ es) =
    ap (cond (is_at (slice_cmp nat_cmp name) (string_bytes e.0)) (Some e.1)) (claims_lookup name es)

-- the same map has the same claims
pub same_claims : {A : Type 0} (name : List ℕ) (old new : BTreeMap (String A) Claim) → new ≡ old
    → lookup (is_at (slice_cmp nat_cmp name)) (claims_of new.entries)
    ≡ lookup (is_at (slice_cmp nat_cmp name)) (claims_of old.entries)
same_claims {A} name old new same =
    ap (λ (m : BTreeMap (String A) Claim). lookup (is_at (slice_cmp nat_cmp name)) (claims_of m.entries)) same

-- a change at one name leaves the others
pub others_stay : {A : Type 0} (name other : List ℕ) (old new : BTreeMap (String A) Claim) (claim : Option Claim)
    → UpdatesBy string_cmp (λ k. slice_cmp nat_cmp name (string_bytes k)) old new claim → other ≢ name
    → get_by_text new other ≡ get_by_text old other
others_stay name other old new claim updates differs =
    btree_map_updates_text name old new claim updates other
    ∙ cond-false (bytes_eq name other) _ _ (false_from_ne_true _ (λ same. differs (sym ((bytes_eq-Decides name other).0 same))))

-- what follows of a success
pub on_ok : {T E P Q : Type 0} (r : Result T E) → (P → Q) → OnOk r P → OnOk r Q
on_ok (Ok v) f p = f p
on_ok (Err e) f p = tt
