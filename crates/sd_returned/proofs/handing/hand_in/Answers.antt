use Rattle.std.proofs.Common.{◌≡◌, ◌++◌, [], ◌∷◌, sym, ap, ◌∙◌, arith, append-nil, option_to_list}
use Rattle.std.proofs.lemmas.List.{append_assoc, map-append, nil_from_length}
use Rattle.std.specs.Vec.Iter.{into_iter_items}
use Rattle.sd_jobs.specs.Jobs.{JobEndIs}
use Rattle.sd_returned.specs.Listed.{lane_ends, receipts_in}
use Rattle.sd_returned.proofs.EndLemmas.{receipts_more}
use Rattle.sd_returned.proofs.handing.hand_in.Goals as goal

pub loop-one-init : goal.loop-one-init
loop-one-init g c =
    let from = c.into_iter-one-iterator.ensures.into_iter_gives in
    record { can = tt; finite = tt; each = ([], sym from.0, c.new-ends.ensures.items, c.new-receipts.ensures.items) }

pub loop-one-preserved : goal.loop-one-preserved
loop-one-preserved g c =
    let i = c.loop-one.invariant in
    let front = i.each.0 in
    let one = c.in-Some.one in
    let rest = into_iter_items c.next.new.self in
    record {
      can = tt;
      finite = tt;
      each = (
        front ++ one ∷ [],
        i.each.1 ∙ ap (λ l. front ++ l) c.in-Some.ensures.steps.0 ∙ sym (append_assoc front (one ∷ []) rest),
        c.in_ok-push.ensures.items ∙ ap (λ l. l ++ c.one.inside.lane_end ∷ []) i.each.2 ∙ ap (λ (e : JobEndIs). lane_ends front ++ e.lane_end ∷ []) c.one.view_is
            ∙ sym (map-append (λ (e : JobEndIs). e.lane_end) front (one ∷ [])),
        c.in_ok-put.ensures ∙ ap (λ l. l ++ option_to_list c.one.inside.receipt) i.each.3 ∙ ap (λ (e : JobEndIs). receipts_in front ++ option_to_list e.receipt) c.one.view_is
            ∙ sym (receipts_more front one),
      );
    }

pub returns : goal.returns
returns g c =
    let i = c.loop-one.invariant in
    let it = c.loop-one.one-iterator in
    let done : into_iter_items it ≡ [] = nil_from_length (into_iter_items it) (omega (arith, it.rest.ok.0, c.in-None.ensures.steps.0)) in
    let whole = i.each.1 ∙ ap (λ l. i.each.0 ++ l) done ∙ append-nil i.each.0 in
    record { ends = i.each.2 ∙ ap lane_ends (sym whole); receipts = i.each.3 ∙ ap receipts_in (sym whole) }
