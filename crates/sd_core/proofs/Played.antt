-- Steps put one after the other: what they do to the world, and what came of them.
use Rattle.std.proofs.Common.{◌≡◌, ℕ, ◌+◌, ◌||◌, List, [], ◌∷◌, ◌++◌, refl, subst, arith}
use Rattle.std.proofs.lemmas.List.Sums.{sum_by-append}
use Rattle.std.proofs.lemmas.List.Folds.{list_any-append}
use Rattle.sd_driver.specs.Meaning.{Meaning}
use Rattle.sd_machine.specs.declared.event.Event.{Event}
use Rattle.sd_machine.specs.declared.event.Event.TheVariants.{Place, Seek}
use Rattle.sd_machine.specs.declared.reply.Reply.{Reply}
use Rattle.sd_machine.specs.declared.reply.Reply.TheVariants.{NeedVolume, Mounted}
use Rattle.sd_world.specs.Steps.{IsStep, StepsAlong}
use Rattle.sd_world.specs.World.{WorldView}
use Rattle.sd_core.specs.declared.headway.Round.{Round}
use Rattle.sd_core.specs.Rounds.{PlaysOn, Tells, has_moved, placed_in, placing}
use Rattle.sd_base.specs.Count.{counted}

pub along_append : {D : Type 0} (meaning : D → Meaning) (a b c : WorldView D) (es fs : List Event) (rs ss : List Reply)
    → StepsAlong meaning a es rs b → StepsAlong meaning b fs ss c → StepsAlong meaning a (es ++ fs) (rs ++ ss) c
along_append meaning a b c [] fs [] ss p q = subst (λ w. StepsAlong meaning w fs ss c) p q
along_append meaning a b c [] fs (r ∷ rs) ss p q = absurd p
along_append meaning a b c (e ∷ es) fs [] ss p q = absurd p
along_append meaning a b c (e ∷ es) fs (r ∷ rs) ss p q = (p.0, p.1, along_append meaning p.0 b c es fs rs ss p.2 q)

pub counted_sum : (m n : ℕ) → counted (counted m + counted n) ≡ counted (m + n)
counted_sum m n = omega arith

pub placed_in-append : (rs ss : List Reply) → placed_in (rs ++ ss) ≡ placed_in rs + placed_in ss
placed_in-append rs ss = sum_by-append _ rs ss

tells_and : (x y r : Round) (rs ss : List Reply) → Tells x rs → Tells y ss → r.moved ≡ (x.moved || y.moved) → r.placed ≡ counted (x.placed + y.placed) → Tells r (rs ++ ss)
tells_and x y r rs ss p q moved placed = record {
  moved = (let e = list_any-append has_moved rs ss in let a = p.moved in let b = q.moved in cc);
  placed = (let e = placed_in-append rs ss in let a = p.placed in let b = q.placed in let n = counted_sum (placed_in rs) (placed_in ss) in cc);
}

-- steps of one kind, and steps of another after them
pub on_and : {D : Type 0} (meaning : D → Meaning) (J K L : List Event → List Reply → Type 0) (a b c : WorldView D) (x y r : Round)
    → PlaysOn meaning J a x b → PlaysOn meaning K b y c
    → r.moved ≡ (x.moved || y.moved) → r.placed ≡ counted (x.placed + y.placed)
    → ((es fs : List Event) (rs ss : List Reply) → J es rs → K fs ss → L (es ++ fs) (rs ++ ss))
    → PlaysOn meaning L a r c
on_and meaning J K L a b c x y r p q moved placed kinds = record {
  events = p.events ++ q.events;
  replies = p.replies ++ q.replies;
  is_kind = kinds p.events q.events p.replies q.replies p.is_kind q.is_kind;
  along = along_append meaning a b c p.events q.events p.replies q.replies p.along q.along;
  tells = tells_and x y r p.replies q.replies p.tells q.tells moved placed;
}

-- these events and these replies
abbrev pub Are : List Event → List Reply → List Event → List Reply → Type 0
Are es rs events replies = (events ≡ es) × (replies ≡ rs)

pub on_step : {D : Type 0} (meaning : D → Meaning) (a b : WorldView D) (event : Event) (reply : Reply) (x : Round) → IsStep meaning a event reply b → Tells x (reply ∷ [])
    → PlaysOn meaning (Are (event ∷ []) (reply ∷ [])) a x b
on_step meaning a b event reply x step tells = record {
  events = event ∷ [];
  replies = reply ∷ [];
  is_kind = (refl, refl);
  along = (b, step, refl);
  tells = tells;
}

-- no step
pub on_none : {D : Type 0} (meaning : D → Meaning) (K : List Event → List Reply → Type 0) (w : WorldView D) (x : Round) → Tells x [] → K [] [] → PlaysOn meaning K w x w
on_none meaning K w x tells kind = record { events = []; replies = []; is_kind = kind; along = refl; tells = tells }

-- the same steps, as steps of another kind
pub on_kind : {D : Type 0} (meaning : D → Meaning) (J K : List Event → List Reply → Type 0) (a b : WorldView D) (x : Round) → PlaysOn meaning J a x b
    → ((es : List Event) (rs : List Reply) → J es rs → K es rs) → PlaysOn meaning K a x b
on_kind meaning J K a b x p kinds = record {
  events = p.events;
  replies = p.replies;
  is_kind = kinds p.events p.replies p.is_kind;
  along = p.along;
  tells = p.tells;
}

-- What a drive plays.

pub placing_once : (drive : ℕ) (placed : Reply) → (placed ≡ NeedVolume → ⊥) → placing drive (placed ∷ []) ≡ Place drive ∷ []
placing_once drive NeedVolume other = absurd (other refl)
placing_once drive placed other = refl

pub placing_sought : (drive : ℕ) (sought : Reply) → ((name : List ℕ) → sought ≡ Mounted name → ⊥) → placing drive (NeedVolume ∷ sought ∷ []) ≡ Place drive ∷ Seek drive ∷ []
placing_sought drive (Mounted name) other = absurd (other name refl)
placing_sought drive sought other = refl
