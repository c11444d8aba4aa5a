-- The values at keys, as they are read.
use Rattle.std.proofs.Common.{◌≡◌, ◌⊎◌, inl, inr, ℕ, ◌≤◌, ℤ, pos, Bool, true, ◌||◌, le-leb, List, [], Option, Some, None, Result, Ok, Err, option_map, unwrap_or, Bor, string_bytes, nat_cmp, codes, refl, subst, arith}
use Rattle.std.proofs.lemmas.Bool.Decides.{nat_tests}
use Rattle.std.specs.BTreeMap.{is_at}
use Rattle.std.specs.Cmp.Lexicographic.{slice_cmp}
use Rattle.std.specs.Map.{lookup}
use Rattle.toml.specs.Data.{Data, as_integer, as_str, get_member}
use Rattle.toml.specs.View.{view, members_view}
use Rattle.toml.specs.declared.value.Value.{Value}
use Rattle.toml.proofs.Views.{Entry, table_get}
use Rattle.sd_base.specs.Limits.{most_volume}
use Rattle.sd_base.specs.Name.{IsName}
use Rattle.sd_conf.specs.FirstFault.{At, HostTest, MediaTest, NameTest}
use Rattle.sd_conf.specs.Limits.{default_host}
use Rattle.sd_conf.specs.Told.{Tells}
use Rattle.sd_conf.specs.Values.{optional, is_within, is_spool_limit, number_fault, number_or, text_at, text_fault}
use Rattle.sd_conf.specs.declared.fault.ConfFault.{ConfFault}
use Rattle.sd_conf.specs.declared.fault.FaultKind.{FaultKind}
use Rattle.sd_conf.specs.declared.fault.FaultKind.TheVariants.{Missing, Kind, Range}
use Rattle.sd_conf.proofs.ToldLemmas.{fault_tells}

-- what is found at a key is the member
pub at_key : (r : Option (Bor Value)) (key : List ℕ) (es : List Entry) → option_map (λ x. x.now) r ≡ lookup (is_at (λ x. slice_cmp nat_cmp key (string_bytes x))) es
    → (found : Option (Bor Value)) → r ≡ found → option_map (λ x. view x.now) found ≡ get_member key (members_view es)
at_key r key es is found same = subst (λ q. option_map (λ x. view x.now) q ≡ get_member key (members_view es)) same (table_get r key es is)

-- Numbers.

pub number_lacks : (key : List ℕ) (is_good : ℤ → Bool) (default : ℕ) (d : Option Data) → None ≡ d
    → At key (optional (number_fault is_good) d) None × (default ≡ number_or default d)
number_lacks key is_good default d e = subst (λ q. At key (optional (number_fault is_good) q) None × (default ≡ number_or default q)) e (refl, refl)

pub number_read : (key : List ℕ) (is_good : ℤ → Bool) (default n : ℕ) (v : Data) (d : Option Data) → Some v ≡ d → as_integer v ≡ Some (pos n) → is_good (pos n) ≡ true
    → At key (optional (number_fault is_good) d) None × (n ≡ number_or default d)
number_read key is_good default n v d e is good =
    subst (λ q. At key (optional (number_fault is_good) q) None × (n ≡ number_or default q)) e
    (rw is (rw good (refl, refl)))

pub number_misfits : (key : List ℕ) (is_good : ℤ → Bool) (v : Data) (d : Option Data) (found : FaultKind) → Some v ≡ d → number_fault is_good v ≡ Some found
    → At key (optional (number_fault is_good) d) (Some (key, found))
number_misfits key is_good v d found e wrong = subst (λ q. At key (optional (number_fault is_good) q) (Some (key, found))) e (rw wrong refl)

pub within : (least most n : ℕ) → least ≤ n → n ≤ most → is_within least most (pos n) ≡ true
within least most n low high = rw (le-leb least n low, le-leb n most high)

pub spools : (block n : ℕ) → (n ≡ 0) ⊎ ((block ≤ n) × (n ≤ most_volume)) → is_spool_limit block (pos n) ≡ true
spools block n (inl none) = rw none refl
spools block n (inr (low, high)) = rw (within block most_volume n low high) or_true
  where
    or_true : (is_within 0 0 (pos n) || true) ≡ true
    or_true = grind (arith, nat_tests)

-- Texts.

pub text_lacks : (key : List ℕ) (d : Option Data) → None ≡ d
    → At key (optional text_fault d) None × (None ≡ text_at d)
text_lacks key d e = subst (λ q. At key (optional text_fault q) None × (None ≡ text_at q)) e (refl, refl)

pub text_read : (key t : List ℕ) (v : Data) (d : Option Data) → Some v ≡ d → Some t ≡ as_str v
    → At key (optional text_fault d) None × (Some t ≡ text_at d)
text_read key t v d e is = subst (λ q. At key (optional text_fault q) None × (Some t ≡ text_at q)) e (rw (← is) (refl, refl))

pub text_misfits : (key : List ℕ) (v : Data) (d : Option Data) → Some v ≡ d → None ≡ as_str v
    → At key (optional text_fault d) (Some (key, Kind))
text_misfits key v d e is = subst (λ q. At key (optional text_fault q) (Some (key, Kind))) e (rw (← is) refl)

-- Names.

pub name_misfits : (key : List ℕ) (text : Option (List ℕ)) → None ≡ text → NameTest key text (Some (key, Kind))
name_misfits key text e = subst (λ q. NameTest key q (Some (key, Kind))) e refl

pub name_read : (key t : List ℕ) (text : Option (List ℕ)) → Some t ≡ text → IsName t → NameTest key text None × (t ≡ unwrap_or text [])
name_read key t text e name = subst (λ q. NameTest key q None × (t ≡ unwrap_or q [])) e (inl (name, refl), refl)

pub name_refused : (key t : List ℕ) (text : Option (List ℕ)) → Some t ≡ text → (IsName t → ⊥) → NameTest key text (Some (key, Range))
name_refused key t text e never = subst (λ q. NameTest key q (Some (key, Range))) e (inr (never, refl))

-- a text that was read as a name is there, so what stands for it if it is missing is the same to it
name_or : (key : List ℕ) (text : Option (List ℕ)) (default : List ℕ) (result : Result (List ℕ) ConfFault)
    → Tells (NameTest key text) (unwrap_or text []) result → Tells (NameTest key text) (unwrap_or text default) result
name_or key None default (Ok told) (none, says) = absurd (cc none)
name_or key (Some text) default (Ok told) read = read
name_or key text default (Err fault) found =
    fault_tells (λ told. told) (λ told. told) (NameTest key text) (unwrap_or text []) (unwrap_or text default) fault found

pub media_lacks : (d : Option Data) → None ≡ d → MediaTest d (Some (codes "media", Missing))
media_lacks d e = subst (λ q. MediaTest q (Some (codes "media", Missing))) e refl

pub media_there : (v : Data) (d : Option Data) (result : Result (List ℕ) ConfFault) → Some v ≡ d
    → Tells (NameTest (codes "media") (as_str v)) (unwrap_or (as_str v) []) result → Tells (MediaTest d) (unwrap_or (text_at d) []) result
media_there v d result e told = subst (λ q. Tells (MediaTest q) (unwrap_or (text_at q) []) result) e told

pub host_lacks : (host : List ℕ) (d : Option Data) → None ≡ d → host ≡ default_host → HostTest d None × (host ≡ unwrap_or (text_at d) default_host)
host_lacks host d e same = subst (λ q. HostTest q None × (host ≡ unwrap_or (text_at q) default_host)) e (refl, same)

pub host_there : (v : Data) (d : Option Data) (result : Result (List ℕ) ConfFault) → Some v ≡ d
    → Tells (NameTest (codes "host") (as_str v)) (unwrap_or (as_str v) []) result → Tells (HostTest d) (unwrap_or (text_at d) default_host) result
host_there v d result e told =
    subst (λ q. Tells (HostTest q) (unwrap_or (text_at q) default_host) result) e (name_or (codes "host") (as_str v) default_host result told)
