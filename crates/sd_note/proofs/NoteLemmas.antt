-- The bytes of a note, taken apart and put together.
use Rattle.std.proofs.Common.{◌≡◌, ◌≢◌, ℕ, ◌+◌, ◌-◌, ◌^◌, ◌<◌, ◌≤◌, List, [], ◌++◌, length, take, drop, codes, refl, ap, ap₂, sym, ◌∙◌, arith, Option, Some, None}
use Rattle.std.specs.Prelude.{ℤ, FitsSigned, IfSome}
use Rattle.std.specs.Int.{w64}
use Rattle.std.proofs.lemmas.List.{append_assoc, take_at, drop_at, drop-drop, take_all, take-append-drop, length-append, length-drop}
use Rattle.sd_base.specs.Field.{u32_bytes, u64_bytes, i64_bytes}
use Rattle.sd_base.proofs.FieldLemmas.{length-u32_bytes, length-u64_bytes, u32_bytes-injective, u64_bytes-injective, i64_apart}
use Rattle.sd_crc.specs.Crc32.{crc32_of}
use Rattle.sd_note.specs.declared.note.Note.{Note}
use Rattle.sd_note.specs.Note.{note_form, not_torn, torn_number, note_fields, FitsNote, IsNote, SaysFields, HasForm, HasSum}
use Rattle.sd_note.proofs.FieldLemmas.{behind, next_field}

-- the form, as the number that the code compares with
pub form_bytes : u32_bytes 1397633073 ≡ note_form
unfolding u32_bytes
form_bytes = refl

-- one field has one number
pub u32_same : (x y : ℕ) → x < 2 ^ 32 → y < 2 ^ 32 → u32_bytes x ≡ u32_bytes y → x ≡ y
u32_same x y hx hy e = u32_bytes-injective x y [] [] hx hy (ap (λ bytes. bytes ++ []) e)

u64_same : (x y : ℕ) → x < 2 ^ 64 → y < 2 ^ 64 → u64_bytes x ≡ u64_bytes y → x ≡ y
u64_same x y hx hy e = u64_bytes-injective x y [] [] hx hy (ap (λ bytes. bytes ++ []) e)

i64_same : (x y : ℤ) → FitsSigned w64 x → FitsSigned w64 y → i64_bytes x ≡ i64_bytes y → x ≡ y
i64_same x y hx hy e = (i64_apart x y [] [] hx hy (ap (λ bytes. bytes ++ []) e)).0

torn_fits : (torn : Option ℕ) → IfSome torn (λ length. length < not_torn) → torn_number torn < 2 ^ 64
torn_fits (Some length) below = omega (arith, below)
torn_fits None below = omega arith

torn_same : (torn other : Option ℕ) → IfSome torn (λ length. length < not_torn) → IfSome other (λ length. length < not_torn) → torn_number torn ≡ torn_number other → torn ≡ other
torn_same (Some length) (Some other) below below' e = ap Some e
torn_same (Some length) None below below' e = absurd (omega (arith, below, e))
torn_same None (Some other) below below' e = absurd (omega (arith, below', e))
torn_same None None below below' e = refl

-- a note by its parts
note_of : ℤ → ℕ → ℕ → ℕ → ℕ → Option ℕ → Note
note_of moment end last next_number time torn =
    record { moment = moment; end = end; last = last; next_number = next_number; time = time; torn = torn }

note_same : (note other : Note) → note.moment ≡ other.moment → note.end ≡ other.end → note.last ≡ other.last
    → note.next_number ≡ other.next_number → note.time ≡ other.time → note.torn ≡ other.torn
    → note ≡ other
unfolding note_of
note_same note other moment end last next_number time torn =
    ap₂ (λ m e. note_of m e note.last note.next_number note.time note.torn) moment end
    ∙ (ap₂ (λ l n. note_of other.moment other.end l n note.time note.torn) last next_number
    ∙ ap₂ (λ t c. note_of other.moment other.end other.last other.next_number t c) time torn)

-- the fields say one note
pub says_same : (bytes : List ℕ) (note other : Note) → SaysFields bytes note → SaysFields bytes other → note ≡ other
says_same bytes note other a b =
    note_same note other (i64_same _ _ a.fits.moment b.fits.moment (sym a.moment ∙ b.moment)) (u64_same _ _ a.fits.end b.fits.end (sym a.end ∙ b.end)) (u64_same _ _ a.fits.last b.fits.last (sym a.last ∙ b.last)) (u32_same _ _ a.fits.next_number b.fits.next_number (sym a.next_number ∙ b.next_number)) (u32_same _ _ a.fits.time b.fits.time (sym a.time ∙ b.time)) (torn_same note.torn other.torn a.fits.torn b.fits.torn (u64_same _ _ (torn_fits note.torn a.fits.torn) (torn_fits other.torn b.fits.torn) (sym a.torn ∙ b.torn)))

-- a note, field by field
note_parts : (sum : List ℕ) (note : Note)
    → sum ++ note_fields note
    ≡ sum ++ (note_form ++ (i64_bytes note.moment ++ (u64_bytes note.end ++ (u64_bytes note.last ++ (u32_bytes note.next_number ++ (u32_bytes note.time ++ u64_bytes (torn_number note.torn)))))))
unfolding note_fields
note_parts sum note = simp append_assoc

pub length-note_fields : (note : Note) → length (note_fields note) ≡ 44
unfolding note_fields
length-note_fields note = simp (length-append, length-u32_bytes, length-u64_bytes)

-- eight fields one after another, the first two of four bytes
record Eight (bytes s f m e l n t k : List ℕ) : Type 0 where
  at_4 : take 4 (drop 4 bytes) ≡ f
  at_8 : take 8 (drop 8 bytes) ≡ m
  at_16 : take 8 (drop 16 bytes) ≡ e
  at_24 : take 8 (drop 24 bytes) ≡ l
  at_32 : take 4 (drop 32 bytes) ≡ n
  at_36 : take 4 (drop 36 bytes) ≡ t
  at_40 : take 8 (drop 40 bytes) ≡ k
  long : length bytes ≡ 48

eight : (s f m e l n t k : List ℕ) → length s ≡ 4 → length f ≡ 4 → length m ≡ 8 → length e ≡ 8 → length l ≡ 8 → length n ≡ 4 → length t ≡ 4 → length k ≡ 8
    → Eight (s ++ (f ++ (m ++ (e ++ (l ++ (n ++ (t ++ k))))))) s f m e l n t k
eight s f m e l n t k ls lf lm le ll ln lt lk =
    let k_is : take 8 k ≡ k = take_all 8 k (omega (arith, lk)) in
    let from_t : (at : ℕ) → drop (4 + at) (t ++ k) ≡ drop at k = λ at. behind 4 at t k lt in
    let from_n : (at : ℕ) → drop (4 + at) (n ++ (t ++ k)) ≡ drop at (t ++ k) = λ at. behind 4 at n _ ln in
    let from_l : (at : ℕ) → drop (8 + at) (l ++ (n ++ (t ++ k))) ≡ drop at (n ++ (t ++ k)) = λ at. behind 8 at l _ ll in
    let from_e : (at : ℕ) → drop (8 + at) (e ++ (l ++ (n ++ (t ++ k)))) ≡ drop at (l ++ (n ++ (t ++ k))) = λ at. behind 8 at e _ le in
    let from_m : (at : ℕ) → drop (8 + at) (m ++ (e ++ (l ++ (n ++ (t ++ k))))) ≡ drop at (e ++ (l ++ (n ++ (t ++ k)))) = λ at. behind 8 at m _ lm in
    let from_f : (at : ℕ) → drop (4 + at) (f ++ (m ++ (e ++ (l ++ (n ++ (t ++ k)))))) ≡ drop at (m ++ (e ++ (l ++ (n ++ (t ++ k))))) = λ at. behind 4 at f _ lf in
    let from_s : (at : ℕ) → drop (4 + at) (s ++ (f ++ (m ++ (e ++ (l ++ (n ++ (t ++ k))))))) ≡ drop at (f ++ (m ++ (e ++ (l ++ (n ++ (t ++ k)))))) = λ at. behind 4 at s _ ls in
    record {
      at_4 = ap (take 4) (from_s 0) ∙ take_at f _ 4 lf;
      at_8 = ap (take 8) (from_s 4 ∙ from_f 0) ∙ take_at m _ 8 lm;
      at_16 = ap (take 8) (from_s 12 ∙ (from_f 8 ∙ from_m 0)) ∙ take_at e _ 8 le;
      at_24 = ap (take 8) (from_s 20 ∙ (from_f 16 ∙ (from_m 8 ∙ from_e 0))) ∙ take_at l _ 8 ll;
      at_32 = ap (take 4) (from_s 28 ∙ (from_f 24 ∙ (from_m 16 ∙ (from_e 8 ∙ from_l 0)))) ∙ take_at n _ 4 ln;
      at_36 = ap (take 4) (from_s 32 ∙ (from_f 28 ∙ (from_m 20 ∙ (from_e 12 ∙ (from_l 4 ∙ from_n 0))))) ∙ take_at t _ 4 lt;
      at_40 = ap (take 8) (from_s 36 ∙ (from_f 32 ∙ (from_m 24 ∙ (from_e 16 ∙ (from_l 8 ∙ (from_n 4 ∙ from_t 0)))))) ∙ k_is;
      long = simp (length-append) (omega (arith, ls, lf, lm, le, ll, ln, lt, lk));
    }

eight_of_note : (sum : ℕ) (note : Note)
    → Eight (u32_bytes sum ++ note_fields note) (u32_bytes sum) note_form (i64_bytes note.moment) (u64_bytes note.end) (u64_bytes note.last) (u32_bytes note.next_number) (u32_bytes note.time) (u64_bytes (torn_number note.torn))
eight_of_note sum note =
    rw (note_parts (u32_bytes sum) note) (eight _ _ _ _ _ _ _ _ (length-u32_bytes _) refl (length-u64_bytes _) (length-u64_bytes _) (length-u64_bytes _) (length-u32_bytes _) (length-u32_bytes _) (length-u64_bytes _))

-- what is known of the bytes of a note
pub record Known (bytes : List ℕ) (note : Note) : Type 0 where
  pub long : length bytes ≡ 48
  pub form : take 4 (drop 4 bytes) ≡ note_form
  pub sum : HasSum bytes
  pub says : SaysFields bytes note

pub known : (bytes : List ℕ) (note : Note) → IsNote bytes note → Known bytes note
known bytes note is =
    let sum = crc32_of (note_fields note) in
    let parts = eight_of_note sum note in
    let four = length-u32_bytes sum in
    rw is.bytes_are (record {
      long = parts.long;
      form = parts.at_4;
      sum = take_at (u32_bytes sum) (note_fields note) 4 four ∙ ap (λ rest. u32_bytes (crc32_of rest)) (sym (drop_at (u32_bytes sum) (note_fields note) 4 four));
      says = record {
        fits = is.fits;
        moment = parts.at_8;
        end = parts.at_16;
        last = parts.at_24;
        next_number = parts.at_32;
        time = parts.at_36;
        torn = parts.at_40;
      };
    })

-- bytes of which this is known are the note's
pub note_from_known : (bytes : List ℕ) (note : Note) → Known bytes note → IsNote bytes note
unfolding note_fields
note_from_known bytes note is =
    let says = is.says in
    let last : drop 40 bytes ≡ u64_bytes (torn_number note.torn) = sym (take_all 8 (drop 40 bytes) (omega (arith, is.long, length-drop 40 bytes))) ∙ says.torn in
    let joined = next_field 4 4 bytes _ _ is.form (next_field 8 8 bytes _ _ says.moment (next_field 16 8 bytes _ _ says.end (next_field 24 8 bytes _ _ says.last (next_field 32 4 bytes _ _ says.next_number (next_field 36 4 bytes _ _ says.time last))))) in
    let summed : drop 4 bytes ≡ note_fields note = joined ∙ simp append_assoc in
    record {
      bytes_are = sym (take-append-drop 4 bytes) ∙ ap₂ (λ (f r : List ℕ). f ++ r) (is.sum ∙ ap (λ rest. u32_bytes (crc32_of rest)) summed) summed;
      fits = says.fits;
    }
