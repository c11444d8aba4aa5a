-- Names of volumes, and those of their notes.
use Rattle.std.proofs.Common.{◌≡◌, ◌≢◌, ℕ, ◌<◌, List, [], ◌∷◌, ◌++◌, length, get_or, ap, sym, ◌∙◌, arith, IsTrue, length-append, rules}
use Rattle.std.specs.Prelude.{All}
use Rattle.std.proofs.lemmas.List.{append_cancel_right}
use Rattle.std.proofs.lemmas.List.Elements.{All-append, All-contains, All-weaker, All-cons, All-nil, Contains-append_right}
use Rattle.sd_base.specs.Name.{IsName, is_name_char}
use Rattle.sd_folder.specs.Place.{IsFileName}
use Rattle.sd_notes.specs.Named.{NamesNothing}
use Rattle.sd_notes.specs.Place.{MayHaveNote, note_name, new_name}

-- what may stand in a file's name
abbrev Fits : ℕ → Type 0
Fits c = (c ≢ 47) × (c ≢ 0)

-- a character of a name may
char_fits : (c : ℕ) → IsTrue (is_name_char c) → Fits c
char_fits c h = ((λ e. absurd (cc (ap is_name_char e))), (λ e. absurd (cc (ap is_name_char e))))

tilde_fits : Fits 126
tilde_fits = ((λ e. absurd (omega (arith, e))), (λ e. absurd (omega (arith, e))))

-- a name and something after it that begins with a ~
marked : (name more : List ℕ) → IsName name → All Fits (126 ∷ more) → IsFileName (name ++ 126 ∷ more)
marked name more is fits = (
  (λ e. (let l = ap length e in let n = length-append name (126 ∷ more) in absurd (omega (arith, l, n)))),
  All-append Fits name (126 ∷ more) (All-weaker (λ c. IsTrue (is_name_char c)) Fits char_fits name is.2) fits,
  (λ e. (let l = ap length e in let n = length-append name (126 ∷ more) in let some = is.0 in absurd (omega (arith, l, n, some)))),
  two name more is.0,
)
  where
    two : (name more : List ℕ) → 0 < length name → name ++ 126 ∷ more ≢ 46 ∷ 46 ∷ []
    two [] more some e = absurd (omega (arith, some))
    two (c ∷ []) more some e = (let second : 126 ≡ 46 = ap (λ l. get_or l 1 0) e in absurd (omega (arith, second)))
    two (c ∷ d ∷ rest) more some e = (let l = ap length e in let n = length-append rest (126 ∷ more) in absurd (omega (arith, l, n)))

-- the note of a volume, and a new one, have names of files
pub IsFileName-note : (name : List ℕ) → IsName name → IsFileName (note_name name)
IsFileName-note name is = marked name [] is (All-cons Fits 126 [] tilde_fits (All-nil Fits))

pub IsFileName-new : (name : List ℕ) → IsName name → IsFileName (new_name name)
IsFileName-new name is =
    marked name (126 ∷ []) is (All-cons Fits 126 (126 ∷ []) tilde_fits (All-cons Fits 126 [] tilde_fits (All-nil Fits)))

-- what ends with a ~ is no volume's name, and it is one note's at most
pub names_nothing : (text volume : List ℕ) → text ≡ volume ++ 126 ∷ [] → (IsName volume → MayHaveNote volume → ⊥) → NamesNothing text
names_nothing text volume is none = (
  (λ named. (let h : IsTrue (is_name_char 126) = All-contains (λ c. IsTrue (is_name_char c)) text 126 named.2 (rw is (Contains-append_right volume (126 ∷ []) 126 (search rules))) in cc)),
  (λ name named may same. (
      let one : name ≡ volume = append_cancel_right name volume (126 ∷ []) (sym same ∙ is) in
      none (rw one at named) (rw one at may)
      )),
)
