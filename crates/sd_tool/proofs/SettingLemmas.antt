-- Settings one after another, and what those of one drive come to.
use Rattle.std.proofs.Common.{◌≡◌, ◌≢◌, ℕ, Option, None, Some, inl, inr, subst, append-nil, ◌+◌, ◌<◌, ◌==◌, cond, if◌then◌else◌, Bool, true, false, refl, sym, ap, ◌∙◌, List, [], ◌∷◌, ◌++◌, length, take, get_or, map}
use Rattle.std.specs.Prelude.{filter, IfNone}
use Rattle.std.proofs.lemmas.List.{take_more, map-append}
use Rattle.std.proofs.lemmas.List.Elements.{filter-append}
use Rattle.sd_machine.proofs.Lookups.{chosen}
use Rattle.sd_plan.specs.declared.call.Call.{Call}
use Rattle.sd_plan.specs.declared.fail.Fail.{Fail}
use Rattle.sd_script.specs.Grammar.{HasForm}
use Rattle.sd_script.specs.declared.line.ScriptLine.TheVariants.{Set}
use Rattle.sd_script.specs.declared.line.Setting.{Setting}
use Rattle.sd_memdrive.specs.declared.drive.MemDrive.{MemDrive}
use Rattle.sd_drive.proofs.Places.{get_more}
use Rattle.sd_tool.specs.MemDrives.{AreSetUp, IsSetUp}
use Rattle.sd_tool.specs.Settings.{AreSettings, ValuesView, fails_for, given_capacity, values_after, values_with}

-- Settings.

pub settings_more : (lines : List (List ℕ)) (ss : List Setting) (line : List ℕ) (s : Setting) → AreSettings lines ss → HasForm line (Set s) → AreSettings (lines ++ line ∷ []) (ss ++ s ∷ [])
settings_more [] [] line s are form = (form, tt)
settings_more [] (x ∷ ss) line s are form = absurd are
settings_more (l ∷ lines) [] line s are form = absurd are
settings_more (l ∷ lines) (x ∷ ss) line s are form = (are.0, settings_more lines ss line s are.1 form)

pub values_more : (v : ValuesView) (ss : List Setting) (s : Setting) → values_after v (ss ++ s ∷ []) ≡ values_with (values_after v ss) s
values_more v [] s = refl
values_more v (x ∷ ss) s = values_more (values_with v x) ss s

-- if there is none, that tells something else too
pub none_tells : {A X Y : Type 0} (o : Option A) → (X → Y) → IfNone o X → IfNone o Y
none_tells None tells h = tells h
none_tells (Some a) tells h = tt

-- Capacities.

given-append : (drive before : ℕ) (cs : List (ℕ × ℕ)) (c : ℕ × ℕ)
    → given_capacity drive before (cs ++ c ∷ []) ≡ (if c.0 == drive then c.1 else given_capacity drive before cs)
given-append drive before [] c = refl
given-append drive before (x ∷ cs) c = given-append drive (if x.0 == drive then x.1 else before) cs c

-- the capacity by one line more
given_more : (drive before : ℕ) (cs : List (ℕ × ℕ)) (n bytes : ℕ) (c : ℕ × ℕ) → c ≡ get_or cs n c → n < length cs → bytes ≡ given_capacity drive before (take n cs)
    → (if c.0 == drive then c.1 else bytes) ≡ given_capacity drive before (take (n + 1) cs)
given_more drive before cs n bytes c is within told =
    ap (λ b. if c.0 == drive then c.1 else b) told ∙ sym (given-append drive before (take n cs) c)
    ∙ sym (ap (given_capacity drive before) (take_more cs n c within ∙ ap (λ x. take n cs ++ x ∷ []) (sym is)))

-- by a line of the drive
pub given_here : (drive before : ℕ) (cs : List (ℕ × ℕ)) (n bytes : ℕ) (c : ℕ × ℕ) → c ≡ get_or cs n c → n < length cs → bytes ≡ given_capacity drive before (take n cs)
    → c.0 ≡ drive → c.1 ≡ given_capacity drive before (take (n + 1) cs)
given_here drive before cs n bytes c is within told here =
    chosen (λ r. c.1 ≡ r) c.0 drive c.1 bytes (λ p. refl) (λ other. absurd (other here)) ∙ given_more drive before cs n bytes c is within told

-- by a line of another drive
pub given_else : (drive before : ℕ) (cs : List (ℕ × ℕ)) (n bytes : ℕ) (c : ℕ × ℕ) → c ≡ get_or cs n c → n < length cs → bytes ≡ given_capacity drive before (take n cs)
    → c.0 ≢ drive → bytes ≡ given_capacity drive before (take (n + 1) cs)
given_else drive before cs n bytes c is within told other =
    chosen (λ r. bytes ≡ r) c.0 drive c.1 bytes (λ p. absurd (other p)) (λ q. refl) ∙ given_more drive before cs n bytes c is within told

-- Calls that fail.

-- the call, if it is of the drive
abbrev pub one_fail : ℕ → ℕ × Fail Call → List (Fail Call)
one_fail drive f = if f.0 == drive then f.1 ∷ [] else []

fails-cond : (b : Bool) (f : ℕ × Fail Call) → map (λ (x : ℕ × Fail Call). x.1) (cond b (f ∷ []) []) ≡ cond b (f.1 ∷ []) []
fails-cond true f = refl
fails-cond false f = refl

fails-one : (drive : ℕ) (f : ℕ × Fail Call) → fails_for drive (f ∷ []) ≡ one_fail drive f
fails-one drive f = fails-cond (f.0 == drive) f

fails-append : (drive : ℕ) (fs gs : List (ℕ × Fail Call)) → fails_for drive (fs ++ gs) ≡ fails_for drive fs ++ fails_for drive gs
fails-append drive fs gs =
    ap (map (λ (f : ℕ × Fail Call). f.1)) (filter-append (λ (f : ℕ × Fail Call). f.0 == drive) fs gs)
    ∙ map-append (λ (f : ℕ × Fail Call). f.1) (filter (λ (f : ℕ × Fail Call). f.0 == drive) fs) (filter (λ (f : ℕ × Fail Call). f.0 == drive) gs)

-- the plan by one line more
fails_more : (drive : ℕ) (fs : List (ℕ × Fail Call)) (n : ℕ) (plan : List (Fail Call)) (f : ℕ × Fail Call) → f ≡ get_or fs n f → n < length fs → plan ≡ fails_for drive (take n fs)
    → plan ++ one_fail drive f ≡ fails_for drive (take (n + 1) fs)
fails_more drive fs n plan f is within told =
    ap (λ p. p ++ one_fail drive f) told ∙ ap (λ p. fails_for drive (take n fs) ++ p) (sym (fails-one drive f)) ∙ sym (fails-append drive (take n fs) (f ∷ []))
    ∙ sym (ap (fails_for drive) (take_more fs n f within ∙ ap (λ x. take n fs ++ x ∷ []) (sym is)))

-- by a line of the drive
pub fails_here : (drive : ℕ) (fs : List (ℕ × Fail Call)) (n : ℕ) (plan : List (Fail Call)) (f : ℕ × Fail Call) → f ≡ get_or fs n f → n < length fs → plan ≡ fails_for drive (take n fs)
    → f.0 ≡ drive → plan ++ f.1 ∷ [] ≡ fails_for drive (take (n + 1) fs)
fails_here drive fs n plan f is within told here =
    chosen (λ r. plan ++ f.1 ∷ [] ≡ plan ++ r) f.0 drive (f.1 ∷ []) [] (λ p. refl) (λ other. absurd (other here)) ∙ fails_more drive fs n plan f is within told

-- by a line of another drive
pub fails_else : (drive : ℕ) (fs : List (ℕ × Fail Call)) (n : ℕ) (plan : List (Fail Call)) (f : ℕ × Fail Call) → f ≡ get_or fs n f → n < length fs → plan ≡ fails_for drive (take n fs)
    → f.0 ≢ drive → plan ≡ fails_for drive (take (n + 1) fs)
fails_else drive fs n plan f is within told other =
    sym (append-nil plan) ∙ chosen (λ r. plan ++ [] ≡ plan ++ r) f.0 drive (f.1 ∷ []) [] (λ p. absurd (other p)) (λ q. refl) ∙ fails_more drive fs n plan f is within told

-- Drives.

-- a drive more
pub set_up_more : (v : ValuesView) (ds : List MemDrive) (d : MemDrive) → AreSetUp v ds → IsSetUp v (length ds + 1) d → AreSetUp v (ds ++ d ∷ [])
set_up_more v ds d are here at e is = elim (get_more ds d at e is) [
  | inl p ↦ are at e p
  | inr p ↦ subst (λ x. IsSetUp v (at + 1) x) (sym p.value) (subst (λ n. IsSetUp v (n + 1) d) (sym p.place) here)
]
