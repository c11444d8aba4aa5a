use Rattle.std.proofs.Common.{◌≡◌, ◌+◌, ◌≤◌, refl, ap, ◌∙◌, arith, rules, length}
use Rattle.std.specs.Prelude.{FitsSigned}
use Rattle.std.specs.Int.{w32}
use Rattle.std.proofs.lemmas.Int.{to_z-of_z}
use Rattle.sd_record.specs.Fragment.{IsZeroStream, HasZeroStream}
use Rattle.sd_record.proofs.FragmentLemmas.{stands_apart}
use Rattle.sd_record.proofs.HeaderLemmas.{no_header, stream_at, not_zero_stream, one_stream}
use Rattle.sd_record.proofs.fragment.next_fragment.Goals as goal

pub returns-then-body-at-clause-read_back : goal.returns-then-body-at-clause-read_back
returns-then-body-at-clause-read_back c f rest fits last there =
    absurd (no_header c.args.body.now rest c.args.at f (omega arith) there)

pub returns-in_default-clause-read_back : goal.returns-in_default-clause-read_back
returns-in_default-clause-read_back c f rest fits last there =
    let h = c.in_default.ensures.there in
    let none : c.args.at + 12 ≤ length c.args.body.now → ⊥ = (λ (long : c.args.at + 12 ≤ length c.args.body.now). cc (h.1 long)) in
    absurd (no_header c.args.body.now rest c.args.at f (omega arith) there)

pub returns-then-is_zero-clause-zero_stream : goal.returns-then-is_zero-clause-zero_stream
returns-then-is_zero-clause-zero_stream c =
    let h = c.in-Some.header in
    let fits : FitsSigned w32 h.stream = search rules in
    let zero = simp to_z-of_z at (c.if-is_zero.ensures.0 refl) in
    let stands : HasZeroStream c.args.body.now c.args.at = (c.in-Some.ensures.there.0 refl, h.stream, zero, stream_at c.args.body.now c.args.at h.index h.stream h.size c.in-Some.ensures.header) in
    ((λ e. stands), (λ h. refl))

pub returns-then-is_zero-clause-read_back : goal.returns-then-is_zero-clause-read_back
returns-then-is_zero-clause-read_back c f rest fits last there =
    let h = c.in-Some.header in
    let index : FitsSigned w32 h.index = search rules in
    let stream : FitsSigned w32 h.stream = search rules in
    let zero = simp to_z-of_z at (c.if-is_zero.ensures.0 refl) in
    let same = one_stream c.args.body.now rest c.args.at h.index h.stream h.size f index stream fits c.in-Some.ensures.header there in
    absurd (fits.stream_named (rw (← same) zero))

pub returns-clause-zero_stream : goal.returns-clause-zero_stream
returns-clause-zero_stream c =
    let h = c.in-Some.header in
    let stream : FitsSigned w32 h.stream = search rules in
    let named : IsZeroStream h.stream → ⊥ = (λ (zero : IsZeroStream h.stream). cc (c.if-is_zero.ensures.1 (simp to_z-of_z zero))) in (
      (λ e. absurd (cc e)),
      (λ zero. absurd (not_zero_stream c.args.body.now c.args.at h.index h.stream h.size stream c.in-Some.ensures.header named zero)),
    )

pub returns-clause-read_back : goal.returns-clause-read_back
returns-clause-read_back c f rest fits last there =
    let stands = c.fragment_behind.ensures in
    let same = stands_apart c.args.body.now rest c.args.at _ _ f stands fits last there in
    let next : c.fragment_behind.result.1 ≡ c.args.at + 12 + length f.part =
    stands.next_is ∙ ap (λ g. c.args.at + 12 + length g.part) same in
    let pair : c.fragment_behind.result ≡ (f, c.args.at + 12 + length f.part) =
    ap (λ g. (g, c.fragment_behind.result.1)) same ∙ ap (λ n. (f, n)) next in
    cc
