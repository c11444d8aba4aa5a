-- The fields of labels: texts that a zero byte ends, and numbers.
use Rattle.std.proofs.Common.{◌≡◌, ℕ, ◌+◌, ◌-◌, ◌^◌, ◌<◌, ◌≤◌, refl, sym, ap, ◌∙◌, arith, Bool, true, false, List, [], ◌∷◌, ◌++◌, take, drop, length, get_or, Some, None, set, ltb, cond, rules, Ok, Err, Result}
use Rattle.std.specs.Prelude.{ℤ, FitsSigned, IsTrue, IfOk, ◌==◌, position, codes}
use Rattle.std.specs.List.{position_or_len}
use Rattle.std.specs.Str.{IsAscii}
use Rattle.std.specs.Int.{w64}
use Rattle.std.proofs.lemmas.List.{append_assoc, length-append, length-drop, length-take, take-append-drop, take_rest, drop_more, get_or-take, take_more_set, append_cancel_right, append_cancel_left}
use Rattle.std.proofs.lemmas.Slice.{take-put_mid}
use Rattle.std.proofs.lemmas.Option.{same_Some}
use Rattle.std.proofs.lemmas.Bool.{lt-ltb}
use Rattle.std.proofs.lemmas.List.Elements.{All-weaker, All-head, All-tail, All-from_get_or, All-from_recursion}
use Rattle.std.proofs.lemmas.List.Quantifiers.{position-Some}
use Rattle.std.proofs.lemmas.Str.Ascii.{IsAscii-from_all}
use Rattle.std.proofs.lemmas.Bool.Decides.{nat_tests}
use Rattle.sd_base.specs.Field.{u32_bytes, u64_bytes, i64_bytes}
use Rattle.sd_base.specs.Name.{IsName, is_name_char}
use Rattle.sd_base.proofs.FieldLemmas.{length-u32_bytes, u32_apart, u64_apart, i64_apart, append_apart, read_next}
use borrow.Rule.Slice.PartMut.{put_mid}
use Rattle.sd_label.specs.Label.{HasNoZero, text_bytes, front_bytes}

-- a number that is read where its bytes begin what is left
pub u32_read : (rest more : List ℕ) (x value : ℕ) → x < 2 ^ 32 → value < 2 ^ 32 → take 4 rest ≡ u32_bytes x
    → rest ≡ u32_bytes value ++ more → (x ≡ value) × (take (length rest - 4) (drop 4 rest) ≡ more)
u32_read rest more x value x_fits fits field begins =
    let same = u32_apart x value (drop 4 rest) more x_fits fits (sym (read_next 4 rest (u32_bytes x) field) ∙ begins) in
    (same.0, take_rest rest 4 ∙ same.1)

pub u64_read : (rest more : List ℕ) (x value : ℕ) → x < 2 ^ 64 → value < 2 ^ 64 → take 8 rest ≡ u64_bytes x
    → rest ≡ u64_bytes value ++ more → (x ≡ value) × (take (length rest - 8) (drop 8 rest) ≡ more)
u64_read rest more x value x_fits fits field begins =
    let same = u64_apart x value (drop 8 rest) more x_fits fits (sym (read_next 8 rest (u64_bytes x) field) ∙ begins) in
    (same.0, take_rest rest 8 ∙ same.1)

pub i64_read : (rest more : List ℕ) (x value : ℤ) → FitsSigned w64 x → FitsSigned w64 value → take 8 rest ≡ i64_bytes x
    → rest ≡ i64_bytes value ++ more → (x ≡ value) × (take (length rest - 8) (drop 8 rest) ≡ more)
i64_read rest more x value x_fits fits field begins =
    let same = i64_apart x value (drop 8 rest) more x_fits fits (sym (read_next 8 rest (i64_bytes x) field) ∙ begins) in
    (same.0, take_rest rest 8 ∙ same.1)

-- what begins with a field is at least as long
pub begins_long : (rest field more : List ℕ) (n : ℕ) → length field ≡ n → rest ≡ field ++ more → n ≤ length rest
begins_long rest field more n long begins =
    let whole : length rest ≡ length field + length more = ap length begins ∙ length-append field more in omega arith

-- characters of a name are ASCII, and none is zero
name_char_within : (c : ℕ) → IsTrue (is_name_char c) → (0 < c) × (c < 128)
name_char_within c is_char = grind (arith, nat_tests)

pub IsName-no_zero : (name : List ℕ) → IsName name → HasNoZero name
IsName-no_zero name is_name =
    All-weaker (λ c. IsTrue (is_name_char c)) (λ c. 0 < c) (λ c h. (name_char_within c h).0) name is_name.2

pub IsName-ascii : (name : List ℕ) → IsName name → IsAscii name
IsName-ascii name is_name =
    IsAscii-from_all name (All-weaker (λ c. IsTrue (is_name_char c)) (λ c. c < 128) (λ c h. (name_char_within c h).1) name is_name.2)

pub length-text_bytes : (text : List ℕ) → length (text_bytes text) ≡ length text + 1
unfolding text_bytes
length-text_bytes text = length-append text (0 ∷ [])

pub length-front_bytes : (version : ℕ) → length (front_bytes version) ≡ 16
unfolding front_bytes
length-front_bytes version =
    simp (length-append, length-text_bytes, length-u32_bytes)

abbrev is_zero : ℕ → Bool
is_zero byte = byte == 0

-- the first zero byte ends a text that has none
first_zero : (text more : List ℕ) → HasNoZero text → position_or_len is_zero (text ++ 0 ∷ more) ≡ length text
first_zero [] more none = refl
first_zero (c ∷ text) more none =
    let head : 0 < c = All-head (λ byte. 0 < byte) c text none in
    let rest = first_zero text more (All-tail (λ byte. 0 < byte) c text none) in
    grind (arith, nat_tests)

position_at : (xs : List ℕ) (n : ℕ) → position_or_len is_zero xs ≡ n → n < length xs → position is_zero xs ≡ Some n
position_at xs n at within =
    let test : ltb (position_or_len is_zero xs) (length xs) ≡ true = lt-ltb (position_or_len is_zero xs) (length xs) (omega arith) in
    ap (λ b. cond b (Some (position_or_len is_zero xs)) None) test ∙ ap Some at

pub position-text_bytes : (text more : List ℕ) → HasNoZero text → position is_zero (text_bytes text ++ more) ≡ Some (length text)
unfolding text_bytes
position-text_bytes text more none =
    let long : length (text ++ 0 ∷ more) ≡ length text + length (0 ∷ more) = length-append text (0 ∷ more) in
    ap (position is_zero) (append_assoc text (0 ∷ []) more) ∙ position_at (text ++ 0 ∷ more) (length text) (first_zero text more none) (omega arith)

not_zero : (byte : ℕ) → is_zero byte ≡ false → 0 < byte
not_zero byte e = grind (arith, nat_tests)

-- what comes before the first zero byte is a text, and the byte ends it
pub text_before_zero : (xs : List ℕ) (end : ℕ) → position is_zero xs ≡ Some end
    → HasNoZero (take end xs) × (xs ≡ text_bytes (take end xs) ++ drop (end + 1) xs)
unfolding text_bytes
text_before_zero xs end found =
    let first = position-Some is_zero xs end 0 found in
    let zero : get_or xs end 0 ≡ 0 = let byte = first.1 in grind (arith, nat_tests) in (
      All-from_get_or (λ byte. 0 < byte) (take end xs) 0 (λ i within.
          let below : i < end = omega (arith, length-take end xs) in
          not_zero (get_or (take end xs) i 0) (ap is_zero (get_or-take end xs i 0 below) ∙ first.2 i below)),
      sym (take-append-drop end xs) ∙ ap (λ l. take end xs ++ l) (drop_more xs end 0 first.0 ∙ ap (λ byte. byte ∷ drop (end + 1) xs) zero)
          ∙ sym (append_assoc (take end xs) (0 ∷ []) (drop (end + 1) xs)),
    )

-- two texts that begin the same bytes are one
pub text_apart : (a b xs ys : List ℕ) → HasNoZero a → HasNoZero b → text_bytes a ++ xs ≡ text_bytes b ++ ys → (a ≡ b) × (xs ≡ ys)
unfolding text_bytes
text_apart a b xs ys a_none b_none e =
    let long : length a ≡ length b =
    same_Some (length a) (length b) (sym (position-text_bytes a xs a_none) ∙ ap (position is_zero) e ∙ position-text_bytes b ys b_none) in
    let texts = append_apart (text_bytes a) (text_bytes b) xs ys (length-text_bytes a ∙ ap (λ n. n + 1) long ∙ sym (length-text_bytes b)) e in
    (append_cancel_right a b (0 ∷ []) texts.0, texts.1)

-- the bytes that are read up to a zero byte are the text that they begin with
pub text_read : (rest text more : List ℕ) (end : ℕ) → position is_zero rest ≡ Some end → HasNoZero text → rest ≡ text_bytes text ++ more
    → (take end rest ≡ text) × (take (length rest - (end + 1)) (drop (end + 1) rest) ≡ more)
text_read rest text more end found none begins =
    let before = text_before_zero rest end found in
    let same = text_apart (take end rest) text (drop (end + 1) rest) more before.0 none (sym before.1 ∙ begins) in
    (same.0, take_rest rest (end + 1) ∙ same.1)

abbrev pub profile_text : List ℕ
profile_text = codes "sd-profile\n"

pub profile_text-no_zero : HasNoZero profile_text
profile_text-no_zero = All-from_recursion (λ byte. 0 < byte) profile_text (search rules)

-- the front is a text and a number
pub front_parts : (version : ℕ) (xs more : List ℕ) → xs ≡ front_bytes version ++ more → xs ≡ text_bytes profile_text ++ (u32_bytes version ++ more)
unfolding front_bytes
front_parts version xs more e = e ∙ append_assoc (text_bytes profile_text) (u32_bytes version) more

pub front_whole : (version : ℕ) (xs rest more : List ℕ) → xs ≡ text_bytes profile_text ++ rest → rest ≡ u32_bytes version ++ more → xs ≡ front_bytes version ++ more
unfolding front_bytes
front_whole version xs rest more text number =
    text ∙ ap (λ l. text_bytes profile_text ++ l) number ∙ sym (append_assoc (text_bytes profile_text) (u32_bytes version) more)

-- a version that is read after the text of the profile
pub front_read : {E : Type 0} (read : Result ℕ E) (xs rest more : List ℕ) → xs ≡ text_bytes profile_text ++ rest
    → IfOk read (λ version. rest ≡ u32_bytes version ++ more) → IfOk read (λ version. xs ≡ front_bytes version ++ more)
front_read (Ok version) xs rest more text number = front_whole version xs rest more text number
front_read (Err e) xs rest more text number = number

-- two fronts that begin the same bytes are one
pub front_apart : (version other : ℕ) (xs ys : List ℕ) → version < 2 ^ 32 → other < 2 ^ 32 → front_bytes version ++ xs ≡ front_bytes other ++ ys
    → (version ≡ other) × (xs ≡ ys)
front_apart version other xs ys fits other_fits e =
    let behind = append_cancel_left (text_bytes profile_text) _ _ (sym (front_parts version _ xs refl) ∙ e ∙ front_parts other _ ys refl) in
    u32_apart version other xs ys fits other_fits behind

-- a text and its zero byte written at a place of an array
pub text_put : (bytes text written : List ℕ) (at k : ℕ) → at + length text + 1 ≤ length bytes → written ≡ text → k ≡ length text
    → take (at + length text + 1) (set (put_mid at k bytes written) (at + length text) 0) ≡ take at bytes ++ text_bytes text
unfolding text_bytes
text_put bytes text written at k room same width =
    let whole : length (put_mid at k bytes written) ≡ length bytes =
    omega (arith, length-append {A = ℕ}, length-take {A = ℕ}, length-drop {A = ℕ}, ap length same) in
    take_more_set (put_mid at k bytes written) (at + length text) 0 (omega arith)
    ∙ ap (λ l. l ++ 0 ∷ []) (take-put_mid at k bytes written (at + length text) (omega (arith, ap length same)) (omega arith) ∙ ap (λ l. take at bytes ++ l) same)
    ∙ append_assoc (take at bytes) text (0 ∷ [])

-- a field that is added is said by what it spells
pub text_added : (old before new text name : List ℕ) → before ≡ old → new ≡ before ++ text_bytes text → text ≡ name → new ≡ old ++ text_bytes name
text_added old before new text name same added spelled =
    added ∙ ap (λ l. l ++ text_bytes text) same ∙ ap (λ t. old ++ text_bytes t) spelled

pub field_added : (old before new field : List ℕ) → before ≡ old → new ≡ before ++ field → new ≡ old ++ field
field_added old before new field same added = added ∙ ap (λ l. l ++ field) same
