-- The first key of an ordered table that isn't known is the least such key.
use Rattle.std.proofs.Common.{◌≡◌, ◌⊎◌, inl, inr, ℕ, false, if◌then◌else◌, List, [], ◌∷◌, Option, Some, None, IsSome, String, Global, string_bytes, Ordering, Less, Equal, Greater, nat_cmp, is_eq, refl, sym, ap, subst, ◌∙◌}
use Rattle.std.proofs.lemmas.Bool.{cases_Bool, false≢true}
use Rattle.std.proofs.lemmas.Cmp.{nat_list_cmp_total, tied_itself}
use Rattle.std.proofs.lemmas.Map.Text.{is_eq-slice_cmp}
use Rattle.std.proofs.lemmas.Slice.Eq.{bytes_eq-Decides}
use Rattle.std.specs.Cmp.Lexicographic.{slice_cmp}
use Rattle.std.specs.List.{AllByRecursion}
use Rattle.std.specs.List.Sorted.{IsStrictlySortedBy}
use Rattle.std.specs.Map.{keys_of}
use Rattle.std.specs.Ordering.{is_lt, match_ordering, ordering_reverse}
use Rattle.std.specs.String.{string_cmp}
use Rattle.toml.specs.Data.{Data, get_member}
use Rattle.toml.specs.View.{view, members_view}
use Rattle.toml.proofs.Views.{Entry}
use Rattle.sd_conf.specs.Keys.{AllKnown, IsFirstUnknown, is_known}
use Rattle.sd_conf.specs.declared.keys.Level.{Level}

-- the first of some keys that isn't known
abbrev pub first_of : Level → List (String Global) → Option (List ℕ)
first_of level [] = None
first_of level (k ∷ ks) = if is_known level (string_bytes k) then first_of level ks else Some (string_bytes k)

-- keys that compare equal are one
pub same_key : (k l : List ℕ) → slice_cmp nat_cmp k l ≡ Equal → k ≡ l
same_key k l e = (bytes_eq-Decides k l).0 (sym (is_eq-slice_cmp k l) ∙ ap is_eq e)

in_either : (o : Ordering) (d : Data) (rest : Option Data) → IsSome (match_ordering o rest (Some d) rest) → (o ≡ Equal) ⊎ IsSome rest
in_either Less d rest h = inr h
in_either Equal d rest h = inl refl
in_either Greater d rest h = inr h

there_behind : (o : Ordering) (d : Data) (rest : Option Data) → IsSome rest → IsSome (match_ordering o rest (Some d) rest)
there_behind Less d rest h = h
there_behind Equal d rest h = refl
there_behind Greater d rest h = h

-- a key that is there is the first one or comes after it
is_first_or_behind : (key : List ℕ) (e : Entry) (es : List Entry) → IsSome (get_member key (members_view (e ∷ es)))
    → (slice_cmp nat_cmp key (string_bytes e.0) ≡ Equal) ⊎ IsSome (get_member key (members_view es))
is_first_or_behind key e es is = in_either (slice_cmp nat_cmp key (string_bytes e.0)) (view e.1) (get_member key (members_view es)) is

-- what comes after a key is greater
above : (k : String Global) (es : List Entry) → AllByRecursion (λ y. string_cmp k y ≡ Less) (keys_of es) → (key : List ℕ)
    → IsSome (get_member key (members_view es)) → slice_cmp nat_cmp key (string_bytes k) ≡ Greater
above k [] h key is = absurd (false≢true is)
above k (e ∷ es) h key is =
    elim (is_first_or_behind key e es is) [
      | inl same ↦
          (let found : key ≡ string_bytes e.0 = same_key key (string_bytes e.0) same in
          rw found (nat_list_cmp_total.antisymm (string_bytes e.0) (string_bytes k) ∙ ap ordering_reverse h.0))
      | inr behind ↦ above k es h.1 key behind
    ]

pub none_unknown : (level : Level) (es : List Entry) → first_of level (keys_of es) ≡ None → AllKnown level (members_view es)
none_unknown level [] h = λ key is. absurd (false≢true is)
none_unknown level (e ∷ es) h = λ key is. elim (cases_Bool (is_known level (string_bytes e.0))) [
  | inl known ↦ (elim (is_first_or_behind key e es is) [
    | inl same ↦ ap (is_known level) (same_key key (string_bytes e.0) same) ∙ known
    | inr behind ↦ none_unknown level es (rw known at h) key behind
  ])
  | inr other ↦ absurd (let clash = rw other at h in cc)
]

pub some_unknown : (level : Level) (es : List Entry) → IsStrictlySortedBy string_cmp (keys_of es) → (key : List ℕ)
    → first_of level (keys_of es) ≡ Some key → IsFirstUnknown level (members_view es) key
unfolding IsStrictlySortedBy
some_unknown level [] sorted key h = absurd cc
some_unknown level (e ∷ es) sorted key h =
    elim (cases_Bool (is_known level (string_bytes e.0))) [
      | inl known ↦
          (let rest = some_unknown level es sorted.1 key (rw known at h) in
          record {
            there = there_behind (slice_cmp nat_cmp key (string_bytes e.0)) (view e.1) (get_member key (members_view es)) rest.there;
            unknown = rest.unknown;
            least = λ other is unknown. elim (is_first_or_behind other e es is) [
              | inl same ↦ absurd (let k = ap (is_known level) (same_key other (string_bytes e.0) same) ∙ known in cc)
              | inr behind ↦ rest.least other behind unknown
            ];
          })
      | inr other ↦
          (let found : string_bytes e.0 ≡ key = (let h' = rw other at h in cc) in
          subst (IsFirstUnknown level (members_view (e ∷ es))) found
          (record {
            there = rw (tied_itself nat_list_cmp_total (string_bytes e.0)) refl;
            unknown = other;
            least = λ k is unknown. elim (is_first_or_behind k e es is) [
              | inl same ↦ ap is_lt same
              | inr behind ↦ ap is_lt (above e.0 es sorted.0 k behind)
            ];
          }))
    ]

-- the front of what is left of the keys isn't known: it is the first such
pub front_unknown : (level : Level) (keys left rest : List (String Global)) (k : String Global) (text : List ℕ) → first_of level left ≡ first_of level keys
    → left ≡ k ∷ rest → text ≡ string_bytes k → is_known level text ≡ false → first_of level keys ≡ Some text
front_unknown level keys left rest k text kept front spelled unknown =
    let here : is_known level (string_bytes k) ≡ false = ap (is_known level) (sym spelled) ∙ unknown in
    sym kept ∙ ap (first_of level) front ∙ rw here (ap Some (sym spelled))
