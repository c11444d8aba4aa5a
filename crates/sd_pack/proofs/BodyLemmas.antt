-- A body with one fragment more.
use Rattle.std.proofs.Common.{◌≡◌, ◌≢◌, ℕ, ◌<◌, refl, sym, ap, ◌∙◌, arith, List, [], ◌∷◌, ◌++◌, length, map}
use Rattle.std.proofs.lemmas.List.{append-nil}
use Rattle.std.proofs.lemmas.Grind.{flat_map-append}
use Rattle.sd_record.specs.Fragment.{Fragment, fragment_bytes, fragments_bytes}
use Rattle.sd_pack.specs.Body.{PackedBody, file_index, first_file_index, last_file_index, body_of, with_fragment, empty_body}
use Rattle.sd_base.specs.FileIndex.{first_nonzero}
use Rattle.sd_base.proofs.IndexLemmas.{first_nonzero-zero, first_nonzero_assoc}
use Rattle.sd_pack.specs.Packing.{bytes_of, all_bytes, unless_empty}
use Rattle.sd_pack.specs.RecordParts.{bodies_alone}

pub some_length : {X : Type 0} (xs : List X) → xs ≢ [] → 0 < length xs
some_length [] some = absurd (some refl)
some_length (x ∷ xs) some = omega arith

pub length_some : {X : Type 0} (xs : List X) → 0 < length xs → xs ≢ []
length_some [] long = absurd (omega arith)
length_some (x ∷ xs) long = λ none. cc none

first_file_index-push : (fs : List Fragment) (f : Fragment) → first_file_index (fs ++ f ∷ []) ≡ first_nonzero (first_file_index fs) (file_index f.index)
first_file_index-push [] f = first_nonzero-zero (file_index f.index)
first_file_index-push (g ∷ fs) f =
    ap (first_nonzero (file_index g.index)) (first_file_index-push fs f)
    ∙ sym (first_nonzero_assoc (file_index g.index) (first_file_index fs) (file_index f.index))

last_file_index-push : (fs : List Fragment) (f : Fragment) → last_file_index (fs ++ f ∷ []) ≡ first_nonzero (file_index f.index) (last_file_index fs)
last_file_index-push [] f = sym (first_nonzero-zero (file_index f.index))
last_file_index-push (g ∷ fs) f =
    ap (λ n. first_nonzero n (file_index g.index)) (last_file_index-push fs f)
    ∙ first_nonzero_assoc (file_index f.index) (last_file_index fs) (file_index g.index)

pub fragments_bytes-push : (fs : List Fragment) (f : Fragment) → fragments_bytes (fs ++ f ∷ []) ≡ fragments_bytes fs ++ fragment_bytes f
fragments_bytes-push fs f =
    flat_map-append fragment_bytes fs (f ∷ []) ∙ ap (λ l. fragments_bytes fs ++ l) (append-nil (fragment_bytes f))

pub same_body : (a b : PackedBody) → a.bytes ≡ b.bytes → a.first ≡ b.first → a.last ≡ b.last → a ≡ b
same_body a b e f l =
    let made : List ℕ → ℕ → ℕ → PackedBody = (λ e f l. record { bytes = e; first = f; last = l }) in
    ap (λ x. made x a.first a.last) e ∙ ap (λ x. made b.bytes x a.last) f ∙ ap (λ x. made b.bytes b.first x) l

pub body_of-push : (fs : List Fragment) (f : Fragment) → body_of (fs ++ f ∷ []) ≡ with_fragment (body_of fs) f
body_of-push fs f =
    same_body (body_of (fs ++ f ∷ [])) (with_fragment (body_of fs) f) (fragments_bytes-push fs f) (first_file_index-push fs f) (last_file_index-push fs f)

pub body_of-one : (f : Fragment) → body_of (f ∷ []) ≡ with_fragment empty_body f
body_of-one f = body_of-push [] f

-- the bytes of each body of fragments
pub bytes_of-bodies : (fragments : List (List Fragment)) → bytes_of (map body_of fragments) ≡ map fragments_bytes fragments
bytes_of-bodies [] = refl
bytes_of-bodies (fs ∷ fragments) = ap (λ l. fragments_bytes fs ∷ l) (bytes_of-bodies fragments)

pub all_bytes-alone : (fs : List Fragment) → all_bytes (bodies_alone fs) ≡ fragments_bytes fs
all_bytes-alone [] = refl
all_bytes-alone (f ∷ fs) =
    ap (λ l. l ++ all_bytes (bodies_alone fs)) (append-nil (fragment_bytes f))
    ∙ ap (λ l. fragment_bytes f ++ l) (all_bytes-alone fs)

-- a body that is left out if it is empty has its bytes either way
all_bytes-unless : (bytes : List ℕ) (body : PackedBody) → body.bytes ≡ bytes → all_bytes (unless_empty bytes body) ≡ bytes
all_bytes-unless [] body e = refl
all_bytes-unless (x ∷ bytes) body e = append-nil body.bytes ∙ e

pub all_bytes_and_open : (waiting : List PackedBody) (body : PackedBody) → all_bytes (waiting ++ unless_empty body.bytes body) ≡ all_bytes waiting ++ body.bytes
all_bytes_and_open waiting body =
    flat_map-append (λ b. b.bytes) waiting (unless_empty body.bytes body) ∙ ap (λ l. all_bytes waiting ++ l) (all_bytes-unless body.bytes body refl)

open_there : (bytes : List ℕ) (body : PackedBody) → bytes ≢ [] → unless_empty bytes body ≡ body ∷ []
open_there [] body some = absurd (some refl)
open_there (x ∷ bytes) body some = refl

pub bodies_and_open : (waiting : List PackedBody) (body : PackedBody) → body.bytes ≢ [] → waiting ++ unless_empty body.bytes body ≡ waiting ++ body ∷ []
bodies_and_open waiting body some = ap (λ l. waiting ++ l) (open_there body.bytes body some)
