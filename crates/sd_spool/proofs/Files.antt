-- The files of lanes.
use Rattle.std.proofs.Common.{rules, ◌≡◌, ◌≢◌, ℕ, ◌<◌, ◌+◌, ◌%◌, ◌^◌, List, ◌∷◌, [], ◌++◌, get_or, ap, sym, ◌∙◌, arith}
use Rattle.std.specs.Prelude.{codes, All}
use Rattle.std.specs.Fmt.{decimal}
use Rattle.std.proofs.lemmas.Fmt.{decimal_digit, decimal_injective, decimal_by_steps}
use Rattle.std.proofs.lemmas.List.Elements.{All-append, All-cons, All-nil}
use Rattle.sd_folder.specs.Place.{IsFileName}
use Rattle.sd_spool.specs.FileSpool.{LaneFilesDiffer, lane_file, lane_name}

-- the name with the drive's one digit
with_digit : (drive lane : ℕ) → drive < 10
    → lane_file drive lane ≡ codes "/spool~" ++ (((48 + drive) ∷ []) ++ (codes "~" ++ decimal lane))
with_digit drive lane one = ap (λ (d : List ℕ). codes "/spool~" ++ (d ++ (codes "~" ++ decimal lane))) (decimal_digit drive one)

pub lane_files_differ : LaneFilesDiffer
lane_files_differ drive lane other_drive other_lane one other_one fits other_fits same =
    let e = sym (with_digit drive lane one) ∙ same ∙ with_digit other_drive other_lane other_one in
    (search (rules), decimal_injective lane other_lane fits other_fits (search (rules)))

-- what may stand in a file's name
abbrev Fits : ℕ → Type 0
Fits c = (c ≢ 47) × (c ≢ 0)

above : (c : ℕ) → 47 < c → Fits c
above c more = ((λ e. absurd (omega (arith, e))), (λ e. absurd (omega (arith, e))))

digits_fit : (n : ℕ) → n < 2 ^ 64 → All Fits (decimal n)
digits_fit =
    decimal_by_steps (λ n ds. All Fits ds)
    (λ n one. All-cons Fits (48 + n) [] (above (48 + n) (omega arith)) (All-nil Fits))
    (λ n ds many fit. All-append Fits ds ((48 + n % 10) ∷ []) fit (All-cons Fits (48 + n % 10) [] (above (48 + n % 10) (omega arith)) (All-nil Fits)))

-- the name of a lane's file is one
pub IsFileName-lane : (drive lane : ℕ) → drive < 2 ^ 64 → lane < 2 ^ 64 → IsFileName (lane_name drive lane)
IsFileName-lane drive lane fits lane_fits = (
  (λ e. absurd (starts [] e (omega arith))),
  All-append Fits (codes "spool~") _ word (All-append Fits (decimal drive) _ (digits_fit drive fits)
      (All-cons Fits 126 _ (above 126 (omega arith)) (digits_fit lane lane_fits))),
  (λ e. absurd (starts (46 ∷ []) e (omega arith))),
  (λ e. absurd (starts (46 ∷ 46 ∷ []) e (omega arith))),
)
  where
    -- it begins with an s
    starts : (other : List ℕ) → lane_name drive lane ≡ other → get_or other 0 0 < 115 → ⊥
    starts other e small = (let first : 115 ≡ get_or other 0 0 = ap (λ l. get_or l 0 0) e in absurd (omega (arith, first, small)))

    word : All Fits (codes "spool~")
    word = All-cons Fits 115 (codes "pool~") (above 115 (omega arith)) (All-cons Fits 112 (codes "ool~") (above 112 (omega arith))
        (All-cons Fits 111 (codes "ol~") (above 111 (omega arith)) (All-cons Fits 111 (codes "l~") (above 111 (omega arith))
        (All-cons Fits 108 (codes "~") (above 108 (omega arith)) (All-cons Fits 126 [] (above 126 (omega arith)) (All-nil Fits))))))
