-- Sessions come into the world one after another.
use Rattle.std.proofs.Common.{◌≡◌, suc, refl, sym, ap, subst, List, [], ◌∷◌, ◌++◌, length}
use Rattle.sd_journal.specs.Journal.{Entry}
use Rattle.sd_line.specs.Ends.{ToldSession}
use Rattle.sd_hub.specs.Worlds.{SettlesEach, SettlesOne}
use Rattle.sd_world.specs.World.{WorldSession}

-- one session after the others
each_push : (journal : List Entry) (ss : List ToldSession) (es : List WorldSession) (s : ToldSession) (e : WorldSession) → SettlesEach journal ss es → SettlesOne journal s e
    → SettlesEach journal (ss ++ s ∷ []) (es ++ e ∷ [])
each_push journal [] [] s e each one = (one, tt)
each_push journal [] (f ∷ es) s e each one = absurd each
each_push journal (t ∷ ss) [] s e each one = absurd each
each_push journal (t ∷ ss) (f ∷ es) s e each one = (each.0, each_push journal ss es s e each.1 one)

-- one session more
pub each_more : (journal : List Entry) (ss : List ToldSession) (es all : List WorldSession) (s : ToldSession) (e : WorldSession) → SettlesEach journal ss es → SettlesOne journal s e
    → all ≡ es ++ e ∷ [] → SettlesEach journal (ss ++ s ∷ []) all
each_more journal ss es all s e each one is = subst (λ (xs : List WorldSession). SettlesEach journal (ss ++ s ∷ []) xs) (sym is) (each_push journal ss es s e each one)

-- as many are in the world
pub each_length : (journal : List Entry) (ss : List ToldSession) (es : List WorldSession) → SettlesEach journal ss es → length es ≡ length ss
each_length journal [] [] each = refl
each_length journal [] (e ∷ es) each = absurd each
each_length journal (s ∷ ss) [] each = absurd each
each_length journal (s ∷ ss) (e ∷ es) each = ap suc (each_length journal ss es each.1)
