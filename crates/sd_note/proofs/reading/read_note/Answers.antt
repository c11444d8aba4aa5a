use Rattle.std.proofs.Common.{◌≡◌, ◌≢◌, ℕ, ◌≤◌, List, length, take, drop, refl, sym, ap, ◌∙◌, arith, inl, inr, Ok}
use Rattle.sd_note.specs.declared.note.Note.{Note}
use Rattle.sd_note.specs.Note.{note_form, HasForm, IsWhole, IsDamaged}
use Rattle.sd_note.proofs.NoteLemmas.{says_same, known, note_from_known}
use Rattle.sd_note.proofs.reading.read_note.Goals as goal

pub returns-in_default-clause-found : goal.returns-in_default-clause-found
returns-in_default-clause-found c = λ note is.
    let k = known c.args.bytes.now note is in
    let there = c.in_default.ensures.there.1 (omega (arith, k.long)) in cc

pub returns-then-not-is_form-clause-found : goal.returns-then-not-is_form-clause-found
returns-then-not-is_form-clause-found c = λ note is.
    let k = known c.args.bytes.now note is in
    let no = c.if-not-is_form.ensures.1 (sym c.in-Ok.ensures.field ∙ k.form) in cc

pub returns-then-not-is_form-clause-other_form : goal.returns-then-not-is_form-clause-other_form
returns-then-not-is_form-clause-other_form c =
    (λ e. (c.in-Ok.ensures.there.0 refl, λ form. let no = c.if-not-is_form.ensures.1 (sym c.in-Ok.ensures.field ∙ form) in cc), λ h. refl)

-- bytes of another form are not damaged ones
other_form : (bytes : List ℕ) → 8 ≤ length bytes → (take 4 (drop 4 bytes) ≢ note_form) → IsDamaged bytes → ⊥
other_form bytes long other damaged = elim damaged [
  | inl few ↦ omega (arith, few, long)
  | inr form ↦ other form.0.1
]

pub returns-then-not-is_form-clause-damaged : goal.returns-then-not-is_form-clause-damaged
returns-then-not-is_form-clause-damaged c =
    (λ e. cc, λ h. absurd (other_form c.args.bytes.now (c.in-Ok.ensures.there.0 refl) (λ form. let no = c.if-not-is_form.ensures.1 (sym c.in-Ok.ensures.field ∙ form) in cc) h))

pub returns-then-not-is_whole-clause-found : goal.returns-then-not-is_whole-clause-found
returns-then-not-is_whole-clause-found c = λ note is.
    let k = known c.args.bytes.now note is in
    let no = c.if-not-is_whole.ensures.1 (k.long, k.sum) in cc

pub returns-then-not-is_whole-clause-other_form : goal.returns-then-not-is_whole-clause-other_form
returns-then-not-is_whole-clause-other_form c =
    (λ e. cc, λ h. absurd (h.1 (c.in-Ok.ensures.field ∙ c.if-not-is_form.ensures.0 refl)))

pub returns-then-not-is_whole-clause-damaged : goal.returns-then-not-is_whole-clause-damaged
returns-then-not-is_whole-clause-damaged c =
    (λ e. inr ((c.in-Ok.ensures.there.0 refl, c.in-Ok.ensures.field ∙ c.if-not-is_form.ensures.0 refl), λ whole. let no = c.if-not-is_whole.ensures.1 whole in cc), λ h. refl)

pub returns-in-Ok-fields_of-clause-note : goal.returns-in-Ok-fields_of-clause-note
returns-in-Ok-fields_of-clause-note c =
    let whole = c.if-not-is_whole.ensures.0 refl in
    note_from_known c.args.bytes.now c.in-Ok-fields_of.note (record {
      long = whole.0;
      form = c.in-Ok.ensures.field ∙ c.if-not-is_form.ensures.0 refl;
      sum = whole.1;
      says = c.in-Ok-fields_of.ensures.fields;
    })

pub returns-in-Ok-fields_of-clause-found : goal.returns-in-Ok-fields_of-clause-found
returns-in-Ok-fields_of-clause-found c = λ note is.
    ap Ok (says_same c.args.bytes.now c.in-Ok-fields_of.note note c.in-Ok-fields_of.ensures.fields (known c.args.bytes.now note is).says)

pub returns-in-Ok-fields_of-clause-other_form : goal.returns-in-Ok-fields_of-clause-other_form
returns-in-Ok-fields_of-clause-other_form c =
    (λ e. cc, λ h. absurd (h.1 (c.in-Ok.ensures.field ∙ c.if-not-is_form.ensures.0 refl)))
