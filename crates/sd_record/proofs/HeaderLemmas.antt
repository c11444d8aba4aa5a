-- A header at a place of a body, field by field.
use Rattle.std.proofs.Common.{◌≡◌, ℕ, ◌+◌, ◌-◌, ◌^◌, ◌<◌, ◌≤◌, refl, sym, ap, subst, ◌∙◌, arith, inl, inr, List, [], ◌++◌, take, drop, length, min}
use Rattle.std.specs.Prelude.{ℤ, FitsSigned}
use Rattle.std.specs.Int.{w32}
use Rattle.std.proofs.lemmas.List.{append_assoc, append-nil, length-append, length-drop, length-take-le, take_at, drop_at, take-append-drop, drop_all, drop-drop}
use Rattle.sd_base.specs.Field.{u32_bytes, i32_bytes}
use Rattle.sd_base.proofs.FieldLemmas.{length-u32_bytes, i32_apart, put_next, read_next}
use Rattle.sd_record.specs.Fragment.{Fragment, fragment_bytes, IsFragment, IsZeroStream, IsHeaderAt, HasZeroStream, StandsAt}
use Rattle.sd_record.proofs.FragmentLemmas.{length-fragment_bytes}

-- three fields of four bytes written one after another fill a header
pub put_header : (blank first second third : List ℕ) (index stream size : List ℕ) → length blank ≡ 12
    → length index ≡ 4 → length stream ≡ 4 → length size ≡ 4
    → first ≡ take 0 blank ++ index ++ drop (0 + 4) blank → second ≡ take 4 first ++ stream ++ drop (4 + 4) first
    → third ≡ take 8 second ++ size ++ drop (8 + 4) second → third ≡ index ++ stream ++ size
put_header blank first second third index stream size twelve i4 s4 n4 e1 e2 e3 =
    let one : first ≡ index ++ drop 4 blank = e1 ∙ put_next [] index blank 0 4 refl in
    let two : second ≡ (index ++ stream) ++ drop 4 (drop 4 blank) =
    e2 ∙ ap (λ l. take 4 l ++ stream ++ drop 8 l) one ∙ put_next index stream (drop 4 blank) 4 4 i4 in
    let three : third ≡ ((index ++ stream) ++ size) ++ drop 4 (drop 4 (drop 4 blank)) =
    e3 ∙ ap (λ l. take 8 l ++ size ++ drop 12 l) two
    ∙ put_next (index ++ stream) size (drop 4 (drop 4 blank)) 8 4 (length-append index stream ∙ omega arith) in
    let none : drop 4 (drop 4 (drop 4 blank)) ≡ [] =
    drop_all 4 (drop 4 (drop 4 blank)) (omega (arith, length-drop 4 (drop 4 blank), length-drop 4 blank)) in
    three ∙ ap (λ l. ((index ++ stream) ++ size) ++ l) none ∙ append-nil _

-- three fields read one after another are a header
pub read_header : (body rest index stream size : List ℕ) (at : ℕ) → rest ≡ drop at body → take 4 (drop 0 rest) ≡ index
    → take 4 (drop 4 rest) ≡ stream → take 4 (drop 8 rest) ≡ size → drop at body ≡ index ++ stream ++ size ++ drop (at + 12) body
read_header body rest index stream size at is_rest e0 e4 e8 =
    let one = read_next 4 rest index e0 in
    let second : drop 4 rest ≡ stream ++ drop 8 rest =
    read_next 4 (drop 4 rest) stream e4 ∙ ap (λ l. stream ++ l) (drop-drop 4 4 rest) in
    let third : drop 8 rest ≡ size ++ drop (at + 12) body =
    read_next 4 (drop 8 rest) size e8 ∙ ap (λ l. size ++ l) (drop-drop 4 8 rest ∙ ap (drop 12) is_rest ∙ drop-drop 12 at body) in
    sym is_rest ∙ one ∙ ap (λ l. index ++ l) second ∙ ap (λ l. index ++ (stream ++ l)) third
    ∙ sym (append_assoc index stream (size ++ drop (at + 12) body)) ∙ sym (append_assoc (index ++ stream) size (drop (at + 12) body))

-- if fewer than twelve bytes are left, there is no fragment
pub no_header : (body rest : List ℕ) (at : ℕ) (f : Fragment) → length body < at + 12 → drop at body ≡ fragment_bytes f ++ rest → ⊥
no_header body rest at f short e =
    let long : length body - at ≡ 12 + length f.part + length rest =
    sym (length-drop at body) ∙ ap length e ∙ length-append (fragment_bytes f) rest ∙ ap (λ n. n + length rest) (length-fragment_bytes f) in
    omega arith

-- the stream of a header is four bytes after its place
pub stream_at : (body : List ℕ) (at : ℕ) (index stream : ℤ) (size : ℕ) → IsHeaderAt body at index stream size
    → take 4 (drop (at + 4) body) ≡ i32_bytes stream
stream_at body at index stream size header =
    let flat = simp append_assoc at header in
    sym (ap (take 4) (drop-drop 4 at body)) ∙ ap (λ l. take 4 (drop 4 l)) flat
    ∙ ap (take 4) (drop_at (i32_bytes index) _ 4 (length-u32_bytes _)) ∙ take_at (i32_bytes stream) _ 4 (length-u32_bytes _)

zero_fits : (stream : ℤ) → IsZeroStream stream → FitsSigned w32 stream
zero_fits stream zero = elim zero [
  | inl none ↦ subst (FitsSigned w32) (sym none) (record { sfits = omega arith })
  | inr least ↦ subst (FitsSigned w32) (sym least) (record { sfits = omega arith })
]

-- a header whose stream is named is no header of a zero stream
pub not_zero_stream : (body : List ℕ) (at : ℕ) (index stream : ℤ) (size : ℕ) → FitsSigned w32 stream
    → IsHeaderAt body at index stream size → (IsZeroStream stream → ⊥) → HasZeroStream body at → ⊥
not_zero_stream body at index stream size fits header named zero =
    let same = sym (stream_at body at index stream size header) ∙ zero.3 in
    named (subst IsZeroStream (sym (i32_apart stream zero.1 [] [] fits (zero_fits zero.1 zero.2) (ap (λ l. l ++ []) same)).0) zero.2)

-- the fragment that a whole header begins, its part cut where its size or the body ends
pub stands_there : (body part : List ℕ) (at next : ℕ) (index stream : ℤ) (size : ℕ) → at + 12 ≤ length body
    → FitsSigned w32 index → FitsSigned w32 stream → size < 2 ^ 32 → (IsZeroStream stream → ⊥)
    → IsHeaderAt body at index stream size → part ≡ take (min (length (drop (at + 12) body)) size) (drop (at + 12) body)
    → next ≡ at + 12 + length part
    → StandsAt body at (record { index = index; stream = stream; size = size; part = part }) next
stands_there body part at next index stream size there fits_i fits_s fits_n named header cut next_is =
    let whole : length part ≡ min (length (drop (at + 12) body)) size =
    ap length cut ∙ length-take-le (min (length (drop (at + 12) body)) size) (drop (at + 12) body) (omega arith) in
    let left = length-drop (at + 12) body in
    let rest : drop (at + 12) body ≡ part ++ drop next body =
    sym (take-append-drop (length part) (drop (at + 12) body))
    ∙ ap (λ l. l ++ drop (length part) (drop (at + 12) body)) (ap (λ n. take n (drop (at + 12) body)) whole ∙ sym cut)
    ∙ ap (λ l. part ++ l) (drop-drop (length part) (at + 12) body ∙ ap (λ n. drop n body) (sym next_is)) in
    record {
      bytes_there = header ∙ ap (λ l. (i32_bytes index ++ i32_bytes stream ++ u32_bytes size) ++ l) rest ∙ sym (append_assoc (i32_bytes index ++ i32_bytes stream ++ u32_bytes size) part (drop next body));
      part_length = omega arith;
      next_is = next_is;
      fragment = record { index_fits = fits_i; stream_fits = fits_s; stream_named = named; size_fits = fits_n; part_within = omega arith };
    }

-- a header and a fragment that are at one place have one stream
pub one_stream : (body rest : List ℕ) (at : ℕ) (index stream : ℤ) (size : ℕ) (f : Fragment) → FitsSigned w32 index → FitsSigned w32 stream
    → IsFragment f → IsHeaderAt body at index stream size → drop at body ≡ fragment_bytes f ++ rest → stream ≡ f.stream
one_stream body rest at index stream size f fits_i fits_s fits header there =
    let flat = simp append_assoc at (sym header ∙ there) in
    (i32_apart stream f.stream _ _ fits_s fits.stream_fits (i32_apart index f.index _ _ fits_i fits.index_fits flat).1).0
