-- That the steps of a ledger keep the rule of its table.
use Rattle.std.proofs.Common.{◌≡◌, ◌≢◌, ◌⊎◌, ℕ, zero, suc, refl, sym, subst, ◌∙◌, inl, inr, arith, List, [], ◌∷◌, ◌++◌, Some, slice_get, slice_set}
use mathlib.Core.Option.{some, some-injective, some-ne-none}
use lib.ListN.{get_elem?}
use Rattle.atomic_table.proofs.Lists.{at_longer, at_set, at_snoc, set_again}
use Rattle.sd_ledger.specs.Ledger.{AreAmong, AreWritten, IsAmong, KnownIs, nothing}

module _ {E : Type 0} where
  -- Entries.

  front : (xs ys : List E) (at : ℕ) (y : E) → slice_get xs at ≡ Some y → slice_get (xs ++ ys) at ≡ Some y
  front [] ys at y e = absurd (cc e)
  front (x ∷ xs) ys zero y e = e
  front (x ∷ xs) ys (suc at) y e = front xs ys at y e

  among_more : (xs : List E) (x y : E) → IsAmong y xs → IsAmong y (xs ++ x ∷ [])
  among_more xs x y (at, e) = (at, front xs (x ∷ []) at y e)

  none : (y : E) → IsAmong y [] → ⊥
  none y (at, e) = cc e

  -- Views.

  first_of : (views : List (KnownIs E)) (id : ℕ) (me : KnownIs E) → id ≡ 0 → get_elem? views id ≡ some me → get_elem? views 0 ≡ some me
  first_of views id me first here = subst (λ i. get_elem? views i ≡ some me) first here

  set_first : (views : List (KnownIs E)) (id : ℕ) (me w : KnownIs E) → id ≡ 0 → get_elem? views id ≡ some me → get_elem? (slice_set views id w) 0 ≡ some w
  set_first [] id me w first here = absurd (some-ne-none me (sym here))
  set_first (x ∷ xs) zero me w first here = refl
  set_first (x ∷ xs) (suc n) me w first here = absurd (omega (arith, first))

  pub looks : (views : List (KnownIs E)) (id : ℕ) (me : KnownIs E) → id ≡ 0 → AreWritten views → get_elem? views id ≡ some me → AreAmong me.shown me.written
  looks views id me first rule here = let here0 = first_of views id me first here in rule 0 me me here0 here0

  pub stays : (views : List (KnownIs E)) (id : ℕ) (me : KnownIs E) → AreWritten views → get_elem? views id ≡ some me → AreWritten (slice_set views id me)
  stays views id me rule here = subst AreWritten (sym (set_again views id me here)) rule

  pub writes : (views : List (KnownIs E)) (id : ℕ) (me : KnownIs E) (x : E) → id ≡ 0 → AreWritten views → get_elem? views id ≡ some me
      → AreWritten (slice_set views id (record { written = me.written ++ x ∷ []; shown = me.shown }))
  writes views id me x first rule here at v owner hv ho y m =
      let w : KnownIs E = record { written = me.written ++ x ∷ []; shown = me.shown } in
      let here0 = first_of views id me first here in
      let own : w ≡ owner = some-injective w owner (sym (set_first views id me w first here) ∙ ho) in
      let among : IsAmong y w.written = elim (at_set views id at w v hv) [
        | inl s ↦ among_more me.written x y (rule 0 me me here0 here0 y (subst (λ (u : KnownIs E). IsAmong y u.shown) (sym s.1) m))
        | inr n ↦ among_more me.written x y (rule at v me n.1 here0 y m)
      ] in
      subst (λ (o : KnownIs E). IsAmong y o.written) own among

  pub shows : (views : List (KnownIs E)) (id : ℕ) (me : KnownIs E) → id ≡ 0 → AreWritten views → get_elem? views id ≡ some me
      → AreWritten (slice_set views id me ++ record { written = []; shown = me.written } ∷ [])
  shows views id me first rule here at v owner hv ho y m =
      let r : KnownIs E = record { written = []; shown = me.written } in
      let here0 = first_of views id me first here in
      let own : me ≡ owner = some-injective me owner (sym (at_longer (slice_set views id me) (r ∷ []) 0 me (set_first views id me me first here)) ∙ ho) in
      let among : IsAmong y me.written = elim (at_snoc (slice_set views id me) r v at hv) [
        | inl h ↦ elim (at_set views id at me v h) [
          | inl s ↦ rule 0 me me here0 here0 y (subst (λ (u : KnownIs E). IsAmong y u.shown) (sym s.1) m)
          | inr n ↦ rule at v me n.1 here0 y m
        ]
        | inr is ↦ subst (λ (u : KnownIs E). IsAmong y u.shown) (sym is) m
      ] in
      subst (λ (o : KnownIs E). IsAmong y o.written) own among

  pub hands : (views : List (KnownIs E)) (id : ℕ) (me : KnownIs E) → id ≡ 0 → AreWritten views → get_elem? views id ≡ some me
      → AreWritten (slice_set views id (record { written = me.written; shown = [] }) ++ record { written = []; shown = me.shown } ∷ [])
  hands views id me first rule here at v owner hv ho y m =
      let l : KnownIs E = record { written = me.written; shown = [] } in
      let r : KnownIs E = record { written = []; shown = me.shown } in
      let here0 = first_of views id me first here in
      let own : l ≡ owner = some-injective l owner (sym (at_longer (slice_set views id l) (r ∷ []) 0 l (set_first views id me l first here)) ∙ ho) in
      let among : IsAmong y l.written = elim (at_snoc (slice_set views id l) r v at hv) [
        | inl h ↦ elim (at_set views id at l v h) [
          | inl s ↦ absurd (none y (subst (λ (u : KnownIs E). IsAmong y u.shown) (sym s.1) m))
          | inr n ↦ rule at v me n.1 here0 y m
        ]
        | inr is ↦ rule 0 me me here0 here0 y (subst (λ (u : KnownIs E). IsAmong y u.shown) (sym is) m)
      ] in
      subst (λ (o : KnownIs E). IsAmong y o.written) own among

  pub takes : (views : List (KnownIs E)) (id : ℕ) (me : KnownIs E) (other : ℕ) (w : KnownIs E) → id ≡ 0 → AreWritten views → get_elem? views id ≡ some me
      → (other ≡ id → ⊥) → get_elem? (slice_set views id (record { written = me.written; shown = w.shown })) other ≡ some w
      → AreWritten (slice_set (slice_set views id (record { written = me.written; shown = w.shown })) other nothing)
  takes views id me other w first rule here apart there at v owner hv ho y m =
      let b : KnownIs E = record { written = me.written; shown = w.shown } in
      let here0 = first_of views id me first here in
      let its : get_elem? views other ≡ some w = elim (at_set views id other b w there) [
        | inl s ↦ absurd (apart s.0)
        | inr n ↦ n.1
      ] in
      let own : b ≡ owner = elim (at_set (slice_set views id b) other 0 nothing owner ho) [
        | inl s ↦ absurd (apart (sym s.0 ∙ sym first))
        | inr n ↦ some-injective b owner (sym (set_first views id me b first here) ∙ n.1)
      ] in
      let among : IsAmong y b.written = elim (at_set (slice_set views id b) other at nothing v hv) [
        | inl s ↦ absurd (none y (subst (λ (u : KnownIs E). IsAmong y u.shown) (sym s.1) m))
        | inr n ↦ elim (at_set views id at b v n.1) [
          | inl s ↦ rule other w me its here0 y (subst (λ (u : KnownIs E). IsAmong y u.shown) (sym s.1) m)
          | inr k ↦ rule at v me k.1 here0 y m
        ]
      ] in
      subst (λ (o : KnownIs E). IsAmong y o.written) own among
