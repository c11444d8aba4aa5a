-- What was told closed stands from then on, and comes back.
use Rattle.std.proofs.Common.{ℕ, arith, refl, sym, ap, subst, List, [], length, true}
use Rattle.std.proofs.lemmas.List.{append-nil}
use Rattle.std.specs.Prelude.{All, IsTrue}
use Rattle.sd_closes.specs.Stands.{CloseStands, ToldComesBack, ToldStays}
use Rattle.sd_driver.specs.Meaning.{IsHonest}
use Rattle.sd_journal.specs.Journal.{placements}
use Rattle.sd_label.specs.Cutting.{AtEnd, Holds}
use Rattle.sd_readback.proofs.ReadingLemmas.{kept_read}
use Rattle.sd_readback.specs.Reading.{Reads, volumes_on}
use Rattle.sd_span.specs.declared.span.Span.{Span}
use Rattle.sd_world.proofs.BodyLemmas.{none_gone}
use Rattle.sd_world.proofs.LastLemmas.{lasting_spans_kept, lasting_spans_mark, lasting_spans_stay, synced_spans_last}
use Rattle.sd_world.proofs.RestoreLemmas.{placed_read}
use Rattle.sd_world.proofs.Sent.{packed_holds}
use Rattle.sd_world.specs.Lasting.{SpansLast}

-- every span is of a volume that keeps its blocks
every : (spans : List Span) → All (λ (s : Span). Unit {0}) spans
every spans = λ k d lt. tt

pub told_stays : ToldStays
told_stays old new c on stood = record {
  past = omega (arith, stood.past, on.moment);
  stands = λ honest.
      let was : IsHonest old = subst IsTrue on.honest honest in
      let s = stood.stands was in
      (s.0, lasting_spans_stay (λ _. Unit {0}) c.since s.0 old.shelf new.shelf c.spans (on.blocks was) (every c.spans) s.1, s.2);
}

pub told_comes_back : ToldComesBack
told_comes_back device c room records honest packs stood =
    let s = stood.stands honest in
    record {
      mark = lasting_spans_mark c.since s.0 device.shelf c.spans stood.past s.1;
      reads = λ left after.
          kept_read s.0 (volumes_on left) c.key c.spans records true
          (lasting_spans_kept c.since s.0 device.shelf left c.spans s.1 after) (s.2 room records packs);
    }

pub close_stands : CloseStands
close_stands device volumes loaded journal c kept synced some blocks spans since = record {
  past = omega (arith, since);
  stands = λ honest. (
    volumes_on device.shelf,
    subst (λ (x : ℕ × List Span). SpansLast x.0 (volumes_on device.shelf) device.shelf x.1) (λ i. (sym since i, sym spans i))
        (synced_spans_last device volumes loaded journal c.key kept honest synced),
    λ room records packs. subst (λ (x : List Span). Reads (volumes_on device.shelf) c.key x records true) (sym spans)
        (placed_read device volumes loaded journal c.key (placements journal) [] records true kept honest (sym (append-nil (placements journal)))
        (λ e. let n = ap length e in omega (arith, some, n))
        (none_gone c.key journal synced)
        (AtEnd, subst (λ l. Holds l records AtEnd) (sym (blocks honest)) (packed_holds room c.bodies records AtEnd packs), refl)),
  );
}
