-- The fragments of one record, and the bodies that its later ones fill.
use Rattle.std.specs.Prelude.{◌≡◌, ℕ, ◌≤◌, pos, neg_ℤ, List, [], ◌∷◌, ◌++◌, length, take, map}
use Rattle.sd_base.specs.Record.{Record}
use Rattle.sd_record.specs.Fragment.{Fragment, fragment_bytes, GoesOn, Continue}
use Rattle.sd_pack.specs.Body.{PackedBody, body_of}

-- a record's first fragment, with `count` bytes of its data
abbrev pub first_fragment : Record → ℕ → Fragment
first_fragment r count =
    record {
      index = pos r.index;
      stream = pos r.stream;
      size = length r.bytes;
      part = take count r.bytes;
    }

-- a later fragment, with `count` bytes of the data that are left
abbrev pub later_fragment : Record → List ℕ → ℕ → Fragment
later_fragment r left count =
    record {
      index = pos r.index;
      stream = neg_ℤ (pos r.stream);
      size = length left;
      part = take count left;
    }

-- the fragment fits into a body of its own, and fills it if it goes on
pub record FitsAlone (room : ℕ) (f : Fragment) : Type 0 where
  pub fits : length (fragment_bytes f) ≤ room
  pub fills : GoesOn f → length (fragment_bytes f) ≡ room

-- each of them does
abbrev pub FitAlone : ℕ → List Fragment → Type 0
FitAlone room [] = Unit {0}
FitAlone room (f ∷ fs) = FitsAlone room f × FitAlone room fs

-- one body for each fragment
abbrev pub bodies_alone : List Fragment → List PackedBody
bodies_alone fs = map (λ f. body_of (f ∷ [])) fs

-- the bodies of a record's later fragments, from where `left` of its data remain to where `rest` do:
-- whatever fragments go on with `rest`, after these they go on with `left`
pub record LaterBodies (room : ℕ) (r : Record) (left rest : List ℕ) (bodies : List PackedBody)
    : Type 0 where
  pub parts : List Fragment
  pub bodies_are : bodies ≡ bodies_alone parts
  pub fit : FitAlone room parts
  pub go_on : (more : List Fragment) → Continue (pos r.index) (pos r.stream) rest more
      → Continue (pos r.index) (pos r.stream) left (parts ++ more)
