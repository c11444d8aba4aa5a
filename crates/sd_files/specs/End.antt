-- The line of what a session was read to.
use Rattle.std.specs.Prelude.{ℕ, Bool, true, false, List, ◌++◌, codes}
use Rattle.std.specs.Fmt.{decimal}
use Rattle.sd_readback.specs.declared.read.ReadEnd.{ReadEnd}

-- whether the end label of the session was there
abbrev pub ended_text : Bool → List ℕ
ended_text true = codes "ended"
ended_text false = codes "cut"

-- what a session was read to: how many records, how many data bytes, and whether to its end label
abbrev pub end_text : ReadEnd → List ℕ
end_text end =
    codes "ok read " ++ decimal end.records ++ codes " " ++ decimal end.bytes ++ codes " " ++ ended_text end.ended
