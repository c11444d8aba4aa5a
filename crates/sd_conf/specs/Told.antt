-- What the reading of a part of a configuration tells.
use Rattle.std.specs.Prelude.{◌≡◌, ◌⊎◌, ℕ, List, Option, Some, None, Result, Ok, Err}
use Rattle.sd_conf.specs.FirstFault.{Fault}
use Rattle.sd_conf.specs.declared.fault.ConfFault.{ConfFault}
use Rattle.sd_conf.specs.declared.fault.ConfFault.TheVariants.{Text, Key, Memory}
use Rattle.sd_conf.specs.declared.fault.FaultKind.{FaultKind}

-- This value, by what is seen of it, if the test finds nothing; else what it finds first; or out of
-- memory.
abbrev pub TellsAs : {A B : Type 0} → (B → A) → (Option Fault → Type 0) → A → Result B ConfFault
    → Type 0
TellsAs seen Test value (Ok told) = Test None × (seen told ≡ value)
TellsAs seen Test value (Err (Key key wrong)) = Test (Some (key, wrong))
TellsAs seen Test value (Err Memory) = Unit {0}
TellsAs seen Test value (Err Text) = ⊥

-- this value, seen as it is, if the test finds nothing; else what it finds first; or out of memory
abbrev pub Tells : {A : Type 0} → (Option Fault → Type 0) → A → Result A ConfFault → Type 0
Tells Test value result = TellsAs (λ told. told) Test value result

-- the fault of a key, or no memory for its name
abbrev pub Names : List ℕ → FaultKind → ConfFault → Type 0
Names key wrong fault = (fault ≡ Key key wrong) ⊎ (fault ≡ Memory)
