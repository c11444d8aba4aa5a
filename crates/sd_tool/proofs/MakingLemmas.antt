-- What worlds are made with, drive by drive, and that settings that go together are those of a world.
use Rattle.std.proofs.Common.{◌≡◌, ◌≢◌, ◌+◌, ◌*◌, ◌<◌, ◌≤◌, ℕ, Bool, true, false, Option, None, Some, List, [], ◌∷◌, ◌++◌, All, take, length, get_or, codes, inl, inr, refl, sym, ap, subst, ◌∙◌, arith}
use Rattle.std.specs.Prelude.{nat_lt, if◌then◌else◌}
use Rattle.std.specs.List.{AllZip}
use Rattle.std.proofs.lemmas.Bool.{cases_Bool, cases_lt, lt-ltb, ltb-false, ltb-true}
use Rattle.std.proofs.lemmas.List.{take_more}
use Rattle.std.proofs.lemmas.List.Elements.{All-nil, All-cons}
use Rattle.sd_base.specs.Limits.{most_drives, most_lanes}
use Rattle.sd_base.proofs.ZipLemmas.{zip_push}
use Rattle.sd_core.specs.Conf.{IsConf, empty_queue}
use Rattle.sd_lane.specs.Queue.{LanesView}
use Rattle.sd_lane.specs.declared.piece.Queued.{Queued}
use Rattle.sd_core.specs.declared.conf.WorldConf.{WorldConf}
use Rattle.sd_tool.specs.Settings.{AreSettable, ValuesView, drives_of, is_spool_short, misfit_of}
use Rattle.sd_tool.specs.declared.fits.Misfit.TheVariants as misfit

-- one more of a list
pub taken_more : {A : Type 0} (xs : List A) (n : ℕ) (x : A) → x ≡ get_or xs n x → n < length xs → take (n + 1) xs ≡ take n xs ++ x ∷ []
taken_more xs n x is within = take_more xs n x within ∙ ap (λ y. take n xs ++ y ∷ []) (sym is)

-- what is so of two lists is so with one more of each
pub zip_more : {A B : Type 0} (R : A → B → Type 0) (xs : List A) (n : ℕ) (x : A) (ys all : List B) (y : B) → x ≡ get_or xs n x → n < length xs → all ≡ ys ++ y ∷ []
    → AllZip R (take n xs) ys → R x y → AllZip R (take (n + 1) xs) all
zip_more R xs n x ys all y is within all_are h r =
    subst (λ l. AllZip R l all) (sym (taken_more xs n x is within))
    (subst (λ l. AllZip R (take n xs ++ x ∷ []) l) (sym all_are) (zip_push R (take n xs) ys x y h r))

-- a queue that holds nothing
pub is_empty_queue : (lanes capacity : ℕ) (held : List Queued) (asked room : ℕ) → lanes ≡ asked → capacity ≡ room → held ≡ []
    → ◌≡◌ {A = LanesView} (record { lanes = lanes; capacity = capacity; held = held }) (empty_queue asked room)
is_empty_queue lanes capacity held asked room many has none = rw (many, has, none) refl

-- Settings that go together.

-- of two tests one after another neither finds anything
none_found : {A : Type 0} (found : Bool) (one : A) (others : Option A) → (if found then Some one else others) ≡ None → (found ≡ false) × (others ≡ None)
none_found true one others none = absurd cc
none_found false one others none = (refl, none)

-- a spool, if there is one, has room for a block
spool_fits : (spool block : ℕ) → is_spool_short spool block ≡ false → spool ≢ 0 → block ≤ spool
spool_fits spool block fits some = elim (cases_lt spool block) [
  | inl short ↦ absurd (let clash = rw (lt-ltb 0 spool (omega (arith, some)), lt-ltb spool block short) at fits in cc)
  | inr fit ↦ fit
]

-- what is so of each drive that was given, and of the usual one if none was, is so of all
all_drives : (P : List ℕ × ℕ → Type 0) (v : ValuesView) → All P v.drives → P (codes "File", 4) → All P (drives_of v)
all_drives P v given usual = elim (cases_Bool (nat_lt 0 (length v.drives))) [
  | inl some ↦ rw some given
  | inr none ↦ rw none (All-cons P (codes "File", 4) [] usual (All-nil P))
]

-- how many drives there are
drives_fit : (v : ValuesView) → length v.drives ≤ most_drives → (1 ≤ length (drives_of v)) × (length (drives_of v) ≤ most_drives)
drives_fit v few = elim (cases_Bool (nat_lt 0 (length v.drives))) [
  | inl some ↦ rw some (ltb-true 0 (length v.drives) some, few)
  | inr none ↦ rw none (omega arith, omega arith)
]

-- no drive has too many lanes
pub lanes_within : (v : ValuesView) → AreSettable v → All (λ (d : List ℕ × ℕ). d.1 ≤ most_lanes) (drives_of v)
lanes_within v settable = all_drives (λ (d : List ℕ × ℕ). d.1 ≤ most_lanes) v settable.lanes_most (omega arith)

-- settings that go together are those of a world
pub settings_fit : (v : ValuesView) (conf : WorldConf) → AreSettable v → misfit_of v ≡ None
    → conf.block ≡ v.block → conf.volume ≡ v.volume → conf.spool ≡ v.spool → conf.queue ≡ v.queue → conf.drives.items ≡ drives_of v → IsConf conf
settings_fit v conf settable none block_is volume_is spool_is queue_is drives_are =
    let volume = none_found (nat_lt v.volume (v.block * 2)) misfit.Volume _ none in
    let spool = none_found (is_spool_short v.spool v.block) misfit.Spool _ volume.1 in
    let drives = none_found (nat_lt most_drives (length v.drives)) misfit.Drive _ spool.1 in
    let room : v.block * 2 ≤ v.volume = ltb-false v.volume (v.block * 2) volume.0 in
    let many = drives_fit v (ltb-false most_drives (length v.drives) drives.0) in
    record {
      block_least = omega (arith, block_is, settable.block.0);
      block_most = omega (arith, block_is, settable.block.1);
      volume_least = omega (arith, block_is, volume_is, room);
      volume_most = omega (arith, volume_is, settable.volume);
      spool_least = λ some. omega (arith, block_is, spool_is, spool_fits v.spool v.block spool.0 (λ zero. some (spool_is ∙ zero)));
      spool_most = omega (arith, spool_is, settable.spool);
      queue_least = omega (arith, queue_is, settable.queue.0);
      queue_most = omega (arith, queue_is, settable.queue.1);
      drives_least = omega (arith, ap length drives_are, many.0);
      drives_most = omega (arith, ap length drives_are, many.1);
      lanes_least = subst (All (λ (d : List ℕ × ℕ). 1 ≤ d.1)) (sym drives_are) (all_drives (λ (d : List ℕ × ℕ). 1 ≤ d.1) v settable.lanes_least (omega arith));
      lanes_most = subst (All (λ (d : List ℕ × ℕ). d.1 ≤ most_lanes)) (sym drives_are) (lanes_within v settable);
    }
