use Rattle.std.proofs.Common.{◌≡◌, ℕ, List, [], ◌∷◌, ◌++◌, sym, ap, subst, ◌∙◌}
use Rattle.std.proofs.lemmas.List.{flat_map_more}
use Rattle.std.specs.List.{flat_map}
use Rattle.sd_base.specs.Record.{Record}
use Rattle.sd_base.specs.Seen.{seen_of}
use Rattle.sd_text.specs.Says.{SaidView, Says, said_view}
use Rattle.sd_text.proofs.SaysLemmas.{says_then}
use Rattle.sd_files.proofs.sink.RecordPrinterSink.put.Goals as goal

-- the lines of one record more
one_more : (lines : Record → List ℕ) (a b c : SaidView) (rs all : List Record) (r : Record) → all ≡ rs ++ r ∷ [] → Says a b (flat_map lines rs) → Says b c (lines r) → Says a c (flat_map lines all)
one_more lines a b c rs all r is p q =
    subst (λ (l : List ℕ). Says a c l) (flat_map_more lines [] rs r ∙ ap (flat_map lines) (sym is)) (says_then a b c (flat_map lines rs) (lines r) p q)

pub invariant_of-self : goal.invariant_of-self
invariant_of-self g c =
    one_more g.P.PrintRecord.lines g.K.Before.before (said_view g.W.Write.contents c.self.inside.out) (said_view g.W.Write.contents c.print.new.out) (seen_of c.self.inside.handed) c.with-handed.result c.args.rec
    c.with-handed.ensures c.self.invariant c.print.ensures
