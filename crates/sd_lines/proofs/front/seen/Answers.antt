use Rattle.std.proofs.Common.{◌≡◌, ◌∙◌, ℕ, Option, sym, ap, arith, refl, List, length}
use Rattle.std.proofs.lemmas.List.{length-set}
use Rattle.std.proofs.lemmas.Option.{slice_get_read, slice_get_within}
use Rattle.sd_board.specs.declared.seen.DriveSeen.{DriveSeen}
use Rattle.sd_board.proofs.ViewLemmas.{made_more}
use Rattle.sd_lines.proofs.FrontLemmas.{are_seen, seen_at, seen_read}
use Rattle.sd_lines.proofs.front.seen.Goals as goal

pub loop-at-preserved : goal.loop-at-preserved
loop-at-preserved c =
    let pools = c.args.pools.now in
    let loaded = c.args.loaded.now in
    let at = c.loop-at.at in
    let seen = c.loop-at.seen in
    let below = c.loop-at-test.true in
    let long = c.loop-at.invariant.long in
    let many = c.type_inv.pools in
    let few = c.type_inv.loaded in
    let pool : Option (List ℕ) = c.index-pools-at.result in
    let volume : Option (List ℕ) = c.index-loaded-at.result in
    let there = slice_get_read pools (length pools) at pool refl (omega (arith, below, many)) c.index-pools-at.is in
    let lies = slice_get_read loaded (length loaded) at volume refl (omega (arith, below, few)) c.index-loaded-at.is in
    let new : DriveSeen = record { loaded = c.copy_of.result; pool = c.copy_of-in-loop-at.result } in
    let as_loaded : c.copy_of.result ≡ volume = c.copy_of.ensures ∙ sym c.index-loaded-at.is in
    let as_pool : c.copy_of-in-loop-at.result ≡ pool = c.copy_of-in-loop-at.ensures ∙ sym c.index-pools-at.is in
    let read : new ≡ record { loaded = volume; pool = pool } =
    ap (λ (v : Option (List ℕ)). record { loaded = v; pool = c.copy_of-in-loop-at.result }) as_loaded ∙ ap (λ (p : Option (List ℕ)). record { loaded = volume; pool = p }) as_pool in
    record {
      long = length-set seen at new ∙ long;
      made = made_more (seen_at loaded) pools seen at pool new (omega (arith, below, long)) there (seen_read loaded at volume pool new lies read) c.loop-at.invariant.made;
    }

pub returns : goal.returns
returns c =
    let pools = c.args.pools.now in
    let loaded = c.args.loaded.now in
    let past = c.loop-at-test.false in
    let long = c.loop-at.invariant.long in
    let many = c.type_inv.pools in
    let few = c.type_inv.loaded in
    are_seen pools loaded c.loop-at.seen (omega (arith, long, many)) (omega (arith, many, few))
    (λ k p there. c.loop-at.invariant.made k p (let within = slice_get_within pools k p there in omega (arith, within, past, many)) there)
