use Rattle.std.proofs.Common.{◌≡◌, ℕ, ◌^◌, ◌<◌, ◌↔◌, ◌==◌, sym, ap, ◌∙◌, arith, IsTrue, eqb-true, eq-eqb}
use Rattle.sd_base.specs.Field.{u32_bytes}
use Rattle.sd_note.specs.Note.{note_form}
use Rattle.sd_note.proofs.NoteLemmas.{form_bytes, u32_same}
use Rattle.sd_note.proofs.reading.is_form.Goals as goal

compared : (form : ℕ) → form < 2 ^ 32 → IsTrue (form == 1397633073) ↔ (u32_bytes form ≡ note_form)
compared form fits =
    (λ same. ap u32_bytes (eqb-true form 1397633073 same) ∙ form_bytes, λ e. eq-eqb form 1397633073 (u32_same form 1397633073 fits (omega arith) (e ∙ sym form_bytes)))

pub returns : goal.returns
returns c = compared c.args.form (omega (arith, c.ranges.form))
