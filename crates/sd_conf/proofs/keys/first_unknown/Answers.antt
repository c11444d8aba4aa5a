use Rattle.std.proofs.Common.{◌≡◌, false, sym, ap, ◌∙◌}
use Rattle.std.proofs.lemmas.Map.Iter.{rest_more, rest_all}
use Rattle.std.specs.Map.{keys_of}
use Rattle.std.specs.Map.Iter.{deref}
use Rattle.sd_conf.specs.Keys.{is_known}
use Rattle.sd_conf.proofs.KeyLemmas.{first_of, none_unknown, some_unknown, front_unknown}
use Rattle.sd_conf.proofs.keys.first_unknown.Goals as goal

pub returns-then-not-knows : goal.returns-then-not-knows
returns-then-not-knows c =
    let unknown : is_known c.args.level c.as_str-then-not-knows.result.now ≡ false =
    ap (is_known c.args.level) (c.as_str-then-not-knows.ensures.value ∙ sym c.as_str.ensures.value) ∙ sym c.knows.ensures ∙ c.if-not-knows.true in
    some_unknown c.args.level c.args.table.now.entries c.keys-key-items.ensures.ordered c.as_str-then-not-knows.result.now
    (front_unknown c.args.level (keys_of c.args.table.now.entries) c.loop-key.key-iterator c.next.new.self c.in-Some.key.now c.as_str-then-not-knows.result.now c.loop-key.invariant
    (rest_more deref c.loop-key.key-iterator c.next.new.self c.next.result c.in-Some.key c.in-Some.is c.next.ensures.steps) c.as_str-then-not-knows.ensures.value unknown)

pub returns : goal.returns
returns c =
    none_unknown c.args.level c.args.table.now.entries
    (sym c.loop-key.invariant ∙ ap (first_of c.args.level) (rest_all deref c.loop-key.key-iterator c.next.new.self c.next.result c.in-None.is c.next.ensures.steps))
