use Rattle.std.proofs.Common.{◌++◌, [], ◌∷◌, sym, ap, ◌∙◌, arith, map, take}
use Rattle.std.proofs.lemmas.List.{take_more, take_all, map-append}
use Rattle.sd_line.specs.Side.{LineIs}
use Rattle.sd_jobs.proofs.jobs.places_of.Goals as goal

pub loop-line-preserved : goal.loop-line-preserved
loop-line-preserved g c =
    let i = c.loop-line.invariant in
    let lines = c.args.lines.now in
    let at = c.loop-line.line-index in
    let line = c.line-item.result in
    let more = take_more lines at line c.loop-line-test.true ∙ ap (λ (x : LineIs). take at lines ++ x ∷ []) (sym c.line-item.is) in
    record {
      places = c.push_reserved.ensures.items ∙ ap (λ l. l ++ line.no ∷ []) i.places
          ∙ sym (ap (map (λ (x : LineIs). x.no)) more ∙ map-append (λ (x : LineIs). x.no) (take at lines) (line ∷ []));
      room = omega (arith, i.room, c.push_reserved.ensures.capacity);
    }

pub returns : goal.returns
returns g c = c.loop-line.invariant.places ∙ ap (map (λ (x : LineIs). x.no)) (take_all c.loop-line.line-index c.args.lines.now c.loop-line-test.false)
