-- Fields one after another.
use Rattle.std.proofs.Common.{◌≡◌, ℕ, ◌+◌, ◌≤◌, List, [], ◌++◌, length, take, drop, ap, ap₂, sym, ◌∙◌, arith}
use Rattle.std.proofs.lemmas.List.{take_at, drop_at, drop-drop, take-append-drop, drop-append-le, length-append, length-take-le, length-drop}

-- what was written between the checksum and a place of a note, which has its length
pub record IsWritten (bytes : List ℕ) (at : ℕ) (front : List ℕ) : Type 0 where
  pub long : length bytes ≡ 48
  pub front_is : drop 4 (take at bytes) ≡ front

-- one field more
pub write_field : (at n : ℕ) (bytes front field after : List ℕ) → 4 ≤ at → at + n ≤ 48 → length field ≡ n → IsWritten bytes at front
    → after ≡ take at bytes ++ field ++ drop (at + n) bytes
    → IsWritten after (at + n) (front ++ field)
write_field at n bytes front field after low high many written is =
    let before : length (take at bytes) ≡ at = length-take-le at bytes (omega (arith, written.long)) in
    let both : length (take at bytes ++ field) ≡ at + n = length-append (take at bytes) field ∙ omega (arith, before, many) in
    rw is (record {
      long = length-append (take at bytes ++ field) (drop (at + n) bytes) ∙ omega (arith, both, length-drop (at + n) bytes, written.long);
      front_is = ap (drop 4) (take_at (take at bytes ++ field) _ (at + n) both) ∙ (drop-append-le 4 (take at bytes) field (omega (arith, before)) ∙ ap (λ (f : List ℕ). f ++ field) written.front_is);
    })

-- what comes after a field
pub behind : (n at : ℕ) (field rest : List ℕ) → length field ≡ n → drop (n + at) (field ++ rest) ≡ drop at rest
behind n at field rest many = sym (drop-drop at n (field ++ rest)) ∙ ap (drop at) (drop_at field rest n many)

-- the bytes from a place on are the field there and what comes after it
pub next_field : (at n : ℕ) (bytes field rest : List ℕ) → take n (drop at bytes) ≡ field → drop (at + n) bytes ≡ rest → drop at bytes ≡ field ++ rest
next_field at n bytes field rest here after =
    sym (take-append-drop n (drop at bytes)) ∙ ap₂ (λ (f r : List ℕ). f ++ r) here (drop-drop n at bytes ∙ after)
