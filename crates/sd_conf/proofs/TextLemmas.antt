-- What the reading of a text tells, exactly.
use Rattle.std.proofs.Common.{◌≡◌, ◌⊎◌, inl, inr, List, ℕ, Option, Some, None, Result, Ok, Err, IfOk, refl, sym, ap, subst, ◌∙◌}
use Rattle.std.proofs.lemmas.Option.{same_Some}
use Rattle.toml.specs.Data.{Members}
use Rattle.toml.specs.Parse.{parse_document}
use Rattle.sd_conf.specs.Conf.{IsConfText, HasFirstFault, IsWithinLimits, conf_of}
use Rattle.sd_conf.specs.FirstFault.{Fault, FirstFault}
use Rattle.sd_conf.specs.Told.{Tells}
use Rattle.sd_conf.specs.declared.conf.Conf.{Conf}
use Rattle.sd_conf.specs.declared.fault.ConfFault.{ConfFault}
use Rattle.sd_conf.specs.declared.fault.ConfFault.TheVariants.{Text, Key, Memory}
use Rattle.sd_conf.specs.declared.fault.FaultKind.{FaultKind}
use Rattle.sd_conf.proofs.LimitLemmas.{conf_within}
use Rattle.sd_conf.proofs.OneLemmas.{first_fault_one}

-- what the table of a text comes to is what that text's table comes to
same_text : (text : List ℕ) (table other : Members) (found : Option Fault) → parse_document text ≡ Some table → parse_document text ≡ Some other → FirstFault other found → FirstFault table found
same_text text table other found is is' first = subst (λ t. FirstFault t found) (same_Some _ _ (sym is' ∙ is)) first

-- what was read is within the limits
pub limits_told : (table : Members) (result : Result Conf ConfFault) → Tells (FirstFault table) (conf_of table) result → IfOk result IsWithinLimits
limits_told table (Ok conf) (none, says) = subst IsWithinLimits (sym says) (conf_within table none)
limits_told table (Err fault) told = tt

-- a configuration is read
pub conf_told : (text : List ℕ) (table : Members) (result : Result Conf ConfFault) → parse_document text ≡ Some table → Tells (FirstFault table) (conf_of table) result
    → (conf : Conf) → IsConfText text conf → (result ≡ Ok conf) ⊎ (result ≡ Err Memory)
conf_told text table (Ok read) is (none, says) conf (other, is', fits) =
    let same : other ≡ table = same_Some _ _ (sym is' ∙ is) in
    inl (ap Ok (says ∙ ap conf_of (sym same) ∙ sym fits.says))
conf_told text table (Err (Key key wrong)) is first conf (other, is', fits) =
    let clash = first_fault_one table (Some (key, wrong)) None first (same_text text table other None is is' fits.no_fault) in absurd cc
conf_told text table (Err Memory) is told conf fits = inr refl
conf_told text table (Err Text) is told conf fits = absurd told

-- a first fault is told
pub fault_told : (text : List ℕ) (table : Members) (result : Result Conf ConfFault) → parse_document text ≡ Some table → Tells (FirstFault table) (conf_of table) result
    → (key : List ℕ) (wrong : FaultKind) → HasFirstFault text key wrong → (result ≡ Err (Key key wrong)) ⊎ (result ≡ Err Memory)
fault_told text table (Ok read) is (none, says) key wrong (other, is', first) =
    let clash = first_fault_one table None (Some (key, wrong)) none (same_text text table other (Some (key, wrong)) is is' first) in absurd cc
fault_told text table (Err (Key key' wrong')) is first' key wrong (other, is', first) =
    let one = first_fault_one table (Some (key', wrong')) (Some (key, wrong)) first' (same_text text table other (Some (key, wrong)) is is' first) in
    inl (ap (λ (f : Fault). Err (Key f.0 f.1)) (same_Some _ _ one))
fault_told text table (Err Memory) is told key wrong fits = inr refl
fault_told text table (Err Text) is told key wrong fits = absurd told
