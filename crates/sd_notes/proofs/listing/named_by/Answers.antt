use Rattle.std.proofs.Common.{arith, Option, Some, None}
use Rattle.std.specs.Prelude.{IfNone}
use Rattle.std.proofs.lemmas.Str.Pattern.{strip_suffix_char}
use Rattle.sd_notes.proofs.NameLemmas.{names_nothing}
use Rattle.sd_notes.proofs.listing.named_by.Goals as goal

-- what is said of no value
none_says : {T : Type 0} (o : Option T) (P Q : Type 0) → (P → Q) → IfNone o P → IfNone o Q
none_says None P Q f h = f h
none_says (Some value) P Q f h = h

pub returns-in-Some-clause-none : goal.returns-in-Some-clause-none
returns-in-Some-clause-none c =
    let stripped = strip_suffix_char 126 c.args.text.now c.strip_suffix.result c.strip_suffix.ensures.cases (omega arith) in
    let is = rw c.in-Some.is at stripped in
    none_says c.note_of.result _ _ (names_nothing c.args.text.now c.in-Some.volume.now is) c.note_of.ensures.none
