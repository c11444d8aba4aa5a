-- What readings tell, one after another.
use Rattle.std.proofs.Common.{◌≡◌, inl, inr, ℕ, List, Option, Some, None, Result, Ok, Err, IsErr, IsErrAnd, refl, sym, subst}
use Rattle.sd_conf.specs.FirstFault.{Fault, ◌then◌}
use Rattle.sd_conf.specs.Told.{TellsAs, Names}
use Rattle.sd_conf.specs.declared.fault.ConfFault.{ConfFault}
use Rattle.sd_conf.specs.declared.fault.ConfFault.TheVariants.{Text, Key, Memory}
use Rattle.sd_conf.specs.declared.fault.FaultKind.{FaultKind}

-- a key that is named tells its fault
pub named : {A B : Type 0} (seen : B → A) (Test : Option Fault → Type 0) (value : A) (key : List ℕ) (kind : FaultKind) (fault : ConfFault)
    → Names key kind fault → Test (Some (key, kind)) → TellsAs seen Test value (Err fault)
named seen Test value key wrong fault (inl e) found = subst (λ f. TellsAs seen Test value (Err f)) (sym e) found
named seen Test value key wrong fault (inr e) found = subst (λ f. TellsAs seen Test value (Err f)) (sym e) tt

-- a fault that the first test finds is what both come to
pub first_tells : {A B C D : Type 0} (seen : B → A) (see : D → C) (First Others : Option Fault → Type 0) (value : A) (other : C) (fault : ConfFault)
    → TellsAs seen First value (Err fault) → TellsAs see (First then Others) other (Err fault)
first_tells seen see First Others value other (Key key wrong) told = inl ((key, wrong), told, refl)
first_tells seen see First Others value other Memory told = tt
first_tells seen see First Others value other Text told = absurd told

-- if the first test finds nothing, both come to what the others come to
pub others_tell : {A B : Type 0} (seen : B → A) (First Others : Option Fault → Type 0) (value : A) (result : Result B ConfFault)
    → First None → TellsAs seen Others value result → TellsAs seen (First then Others) value result
others_tell seen First Others value (Ok told) none (found, same) = (inr (none, found), same)
others_tell seen First Others value (Err (Key key wrong)) none found = inr (none, found)
others_tell seen First Others value (Err Memory) none found = tt
others_tell seen First Others value (Err Text) none found = absurd found

-- a fault tells the same of each value
pub fault_tells : {A B C D : Type 0} (seen : B → A) (see : D → C) (Test : Option Fault → Type 0) (value : A) (other : C) (fault : ConfFault)
    → TellsAs seen Test value (Err fault) → TellsAs see Test other (Err fault)
fault_tells seen see Test value other (Key key wrong) told = told
fault_tells seen see Test value other Memory told = tt
fault_tells seen see Test value other Text told = absurd told

-- a fault that is passed on tells the same
pub passed : {A B : Type 0} (seen : B → A) (Test : Option Fault → Type 0) (value : A) (fault : ConfFault) (result : Result B ConfFault)
    → IsErr result × IsErrAnd result (λ f. f ≡ fault) → TellsAs seen Test value (Err fault) → TellsAs seen Test value result
passed seen Test value fault (Ok told) refused found = absurd refused.1
passed seen Test value fault (Err f) refused found = subst (λ g. TellsAs seen Test value (Err g)) (sym refused.1) found
