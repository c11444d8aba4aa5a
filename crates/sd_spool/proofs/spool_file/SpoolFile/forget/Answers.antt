use Rattle.std.proofs.Common.{◌≡◌, ℕ, Bool, false, List, ap, sym, ◌∙◌, arith}
use Rattle.sd_base.proofs.ChoiceLemmas.{same_some}
use Rattle.sd_folder.specs.Meaning.{FolderMeaning}
use Rattle.sd_spool.specs.Opened.{Holds}
use Rattle.sd_spool.proofs.spool_file.SpoolFile.forget.Goals as goal

-- none of the file's bytes is the spool's
holds_none : (name : List ℕ) (even now_even : Bool) (end : ℕ) (m : FolderMeaning) → now_even ≡ false → Holds name even end m → Holds name now_even 0 m
holds_none name even now_even end m not holds = record {
  there = holds.there;
  fits = λ state is. record { within = omega arith; ends = λ e. (let clash = sym not ∙ e in absurd cc); whole = (holds.fits state is).whole };
}

pub invariant_of-self-clause-knows : goal.invariant_of-self-clause-knows
invariant_of-self-clause-knows g c = λ h o is.
    let knows = c.args.self.now.knows h c.in-Some.opened c.in-Some.is in
    let same = sym (same_some is) in
    (ap (λ x. g.F.Folder.name_of x.file) same ∙ knows.0, holds_none _ _ _ _ _ (ap (λ x. x.is_even) same) knows.1)
