-- The oldest of the connections that were looked at so far, and how many of them have a session.
use Rattle.std.proofs.Common.{◌≡◌, ◌≤◌, ◌<◌, ◌+◌, ◌⊎◌, ℕ, zero, suc, inl, inr, subst, refl, arith, List, [], ◌∷◌, Option, Some, None, IfSome, IfNone, IsSomeAnd, Contains, Bool, cond, count_by, is_some}
use Rattle.std.proofs.lemmas.List.Sums.{sum_by-cons}
use Rattle.slab.specs.Slab.{entries_from}
use Rattle.sd_serve.specs.Connections.{has_session}
use Rattle.sd_serve.specs.declared.connection_table.OpenConnection.{OpenConnection}

-- a connection that is older than none at its place is the oldest so far, or a younger one is not
abbrev pub Covers : ℕ → Option (ℕ × OpenConnection) → OpenConnection → Type 0
Covers talk oldest c = talk < c.talk → IsSomeAnd oldest (λ o. o.1.talk ≤ c.talk)

pub first_there : {X : Type 0} (x : X) (rest : List X) → Contains (x ∷ rest) x
first_there x rest = (0, omega arith, refl)

pub none_there : {X : Type 0} (x : X) → Contains [] x → ⊥
none_there x there = omega (arith, there.1)

-- what the oldest covered, one that is no younger covers
still_covers : (talk before : ℕ) (after : Option (ℕ × OpenConnection)) (c : OpenConnection) → IsSomeAnd after (λ o. o.1.talk ≤ before) → before ≤ c.talk
    → IsSomeAnd after (λ o. o.1.talk ≤ c.talk)
still_covers talk before None c keeps older = absurd keeps
still_covers talk before (Some o) c keeps older = omega (arith, keeps, older)

pub covers_later : (talk : ℕ) (before after : Option (ℕ × OpenConnection)) (c : OpenConnection) → IfSome before (λ o. IsSomeAnd after (λ p. p.1.talk ≤ o.1.talk))
    → Covers talk before c → Covers talk after c
covers_later talk None after c keeps covers beyond = absurd (covers beyond)
covers_later talk (Some o) after c keeps covers beyond = still_covers talk o.1.talk after c keeps (covers beyond)

pub covers_same : (talk : ℕ) (oldest : Option (ℕ × OpenConnection)) (c d : OpenConnection) → c ≡ d → Covers talk oldest c → Covers talk oldest d
covers_same talk oldest c d same covers = subst (Covers talk oldest) same covers

-- what is so of the oldest before and of the one that was looked at is so of the oldest
pub comes_with : (P Q : ℕ × OpenConnection → Type 0) (before after : Option (ℕ × OpenConnection)) (new : ℕ × OpenConnection)
    → IfSome after (λ o. (before ≡ Some o) ⊎ ((o ≡ new) × Q o)) → IfSome before P → ((o : ℕ × OpenConnection) → o ≡ new → Q o → P o) → IfSome after P
comes_with P Q before None new comes held news = tt
comes_with P Q before (Some o) new comes held news = elim comes [
  | inl is ↦ subst (λ (b : Option (ℕ × OpenConnection)). IfSome b P) is held
  | inr is ↦ news o is.0 is.1
]

not_beyond : (talk n : ℕ) → (talk < n → ⊥) → n ≤ talk
not_beyond talk zero none = omega arith
not_beyond zero (suc n) none = absurd (none (omega arith))
not_beyond (suc talk) (suc n) none = omega (arith, not_beyond talk n (λ b. none (omega (arith, b))))

-- the oldest that covers all is no younger than any
pub oldest_of_all : (talk : ℕ) (is_open : OpenConnection → Type 0) (oldest : Option (ℕ × OpenConnection))
    → ((other : OpenConnection) → is_open other → Covers talk oldest other)
    → IfSome oldest (λ o. (other : OpenConnection) → is_open other → talk < other.talk → o.1.talk ≤ other.talk)
oldest_of_all talk is_open None covers = tt
oldest_of_all talk is_open (Some o) covers = covers

-- if there is none, no number is above
pub none_of_all : (talk : ℕ) (is_open : OpenConnection → Type 0) (oldest : Option (ℕ × OpenConnection))
    → ((other : OpenConnection) → is_open other → Covers talk oldest other)
    → IfNone oldest ((other : OpenConnection) → is_open other → other.talk ≤ talk)
none_of_all talk is_open (Some o) covers = tt
none_of_all talk is_open None covers = λ other is. not_beyond talk other.talk (covers other is)

-- whether an entry of the table has a session
abbrev pub in_a_session : (ℕ × OpenConnection) → Bool
in_a_session e = is_some e.1.session

-- as many entries have one as places
pub sessions_of_entries : (key : ℕ) (places : List (Option OpenConnection)) → count_by in_a_session (entries_from key places) ≡ count_by has_session places
sessions_of_entries key [] = refl
sessions_of_entries key (None ∷ rest) =
    omega (arith, sessions_of_entries (key + 1) rest, sum_by-cons (λ o. cond (has_session o) 1 0) None rest)
sessions_of_entries key (Some c ∷ rest) =
    omega (
      arith,
      sessions_of_entries (key + 1) rest,
      sum_by-cons (λ o. cond (has_session o) 1 0) (Some c) rest,
      sum_by-cons (λ e. cond (in_a_session e) 1 0) (key, c) (entries_from (key + 1) rest),
    )
