-- What comes back of jobs whose line was settled and read.
use Rattle.std.proofs.Common.{◌≡◌, ℕ, refl, sym, ap, subst, ◌∙◌, arith, Option, Some, None, IsSome, List, ◌++◌, map, slice_get}
use Rattle.std.specs.List.{AllZip}
use Rattle.std.specs.Option.{option_map}
use Rattle.std.proofs.lemmas.List.{length-map}
use Rattle.std.proofs.lemmas.Slice.Zip.{AllZip-long}
use Rattle.atomic_table.specs.Seated.{TableId}
use Rattle.sd_base.specs.declared.number.SessionKey.{SessionKey}
use Rattle.sd_drive.specs.Receipt.{ReceiptIs}
use Rattle.sd_hub.specs.Worlds.{IsSettledFrom}
use Rattle.sd_jobs.proofs.EachLemmas.{each_length}
use Rattle.sd_jobs.specs.Jobs.{JobIs, JobEndIs, EndEach, StopsBy}
use Rattle.sd_line.specs.Ends.{EndIs, RestsOn, lane_store}
use Rattle.sd_line.specs.Parts.{PartIs}
use Rattle.sd_line.specs.Side.{LineIs}
use Rattle.sd_line.specs.declared.stop.Stop.{Stop}
use Rattle.sd_line.specs.declared.stop.Stop.TheVariants.{Done, OutOfTurns, Refused, NoThread}
use Rattle.sd_memdrive.specs.Drive.{meaning_of}
use Rattle.sd_memdrive.specs.declared.drive.MemDrive.{MemDrive}
use Rattle.sd_world.specs.Honest.{StoreIsTrue}
use Rattle.sd_world.specs.Steps.{IsSound}
use Rattle.sd_world.specs.World.{WorldView, session_at}
use Rattle.sd_returned.specs.Backs.{Answers, ComeBack, ComesBack, ReadsAsked, ReadsWanted, asked_of, wanted_by}
use Rattle.sd_returned.specs.Listed.{HasList, IsAlone, SettledJobsRead, lane_ends, receipts_in}
use Rattle.sd_returned.specs.declared.asked.Asked.{Asked}
use Rattle.sd_returned.specs.declared.asked.Wanted.{Wanted}
use Rattle.sd_returned.specs.declared.back.JobBack.{JobBack}
use Rattle.sd_returned.specs.declared.back.ReadBack.{ReadBack}
use Rattle.sd_returned.proofs.EndLemmas.{ends_at, get_map, same_place, zip_at, zip_from}
use Rattle.sd_returned.proofs.SettledLemmas.{is_done}

-- a job that isn't done has no receipt
no_receipt : (stop : Stop) (job : JobIs) (end : JobEndIs) (part : PartIs) → StopsBy stop job end part → (stop ≡ Done → ⊥) → end.receipt ≡ None
no_receipt Done job end part by not = absurd (not refl)
no_receipt OutOfTurns job end part by not = by
no_receipt (Refused why) job end part by not = by.0
no_receipt NoThread job end part by not = by.0

-- what was wanted was read
wanted_read : (w : WorldView MemDrive) (wanted : Wanted) (read : Option ReadBack) → ReadsAsked w (Some wanted) read → (r : ReadBack) × (read ≡ Some r) × ReadsWanted w wanted r
wanted_read w wanted None reads = absurd reads
wanted_read w wanted (Some r) reads = (r, refl, reads)

-- if nothing was, nothing was read
none_read : (w : WorldView MemDrive) (read : Option ReadBack) → ReadsAsked w None read → read ≡ None
none_read w None reads = refl
none_read w (Some r) reads = absurd reads

-- the world is that of some line which was settled with these
pub record SettledWith (ends : List EndIs) (receipts : List ReceiptIs) (w : WorldView MemDrive) : Type 0 where
  pub table : ℕ → TableId
  pub time : ℕ → ℕ
  pub line : LineIs
  pub from : IsSettledFrom (λ d. meaning_of d) table time line ends receipts w

pub settled_with : {table : ℕ → TableId} {time : ℕ → ℕ} {line : LineIs} {ends ends' : List EndIs} {receipts receipts' : List ReceiptIs} {w : WorldView MemDrive}
    → IsSettledFrom (λ d. meaning_of d) table time line ends receipts w → ends ≡ ends' → receipts ≡ receipts' → SettledWith ends' receipts' w
settled_with {table} {time} {line} {ends} {ends'} {receipts} {receipts'} {w} from one other =
    subst (λ (l : List ReceiptIs). SettledWith ends' l w) other
    (subst (λ (l : List EndIs). SettledWith l receipts w) one (record { table = table; time = time; line = line; from = from }))

module _ (table : ℕ → TableId) (time : ℕ → ℕ) (line : LineIs) (ends : List JobEndIs) (w : WorldView MemDrive)
    (law : SettledJobsRead MemDrive)
    (from : IsSettledFrom (λ d. meaning_of d) table time line (lane_ends ends) (receipts_in ends) w)
    (sound : IsSound (λ d. meaning_of d) w)
    (alone : (place : ℕ) (end : JobEndIs) (r : ReceiptIs) → slice_get ends place ≡ Some end → end.receipt ≡ Some r → IsAlone (lane_ends ends) place r.key.id)
    (asks : List Asked) (asks_are : asks ≡ map asked_of ends)
    (there : (place : ℕ) (asked : Asked) (wanted : Wanted) → slice_get asks place ≡ Some asked → asked.of ≡ Some wanted → IsSome (session_at wanted.key.id w.sessions))
    (jobs : List JobIs) (each : EndEach jobs ends) where
  one_back : (place : ℕ) (job : JobIs) (end : JobEndIs) (back : JobBack) → slice_get jobs place ≡ Some job → slice_get ends place ≡ Some end
      → Answers w (asked_of end) back → ComesBack job back
  one_back place job end back at is answers =
      let came = ends_at jobs ends place job end each at is in
      record {
        end = end;
        ends = came;
        stop_is = answers.stop_is;
        taken_is = answers.taken_is;
        spools_is = answers.spools_is;
        done = λ stop. (let done : end.stop ≡ Done = sym answers.stop_is ∙ stop in
            let j = is_done job end came done in
            let asked : (asked_of end).of ≡ Some (wanted_by j.r) = ap (option_map wanted_by) j.receipt_is in
            let read = wanted_read w (wanted_by j.r) back.read (subst (λ (o : Option Wanted). ReadsAsked w o back.read) asked answers.read) in
            let own = j.own ∙ j.key_is in
            let here : slice_get asks place ≡ Some (asked_of end) = ap (λ l. slice_get l place) asks_are ∙ get_map asked_of ends place end is in
            let found = subst (λ (k : SessionKey). IsSome (session_at k.id w.sessions)) own (there place (asked_of end) (wanted_by j.r) here asked) in
            let one = subst (λ (k : SessionKey). IsAlone (lane_ends ends) place k.id) own (alone place end j.r is j.receipt_is) in (
              read.0,
              read.1,
              read.2.key_is ∙ own,
              λ rests.
                  (let store : RestsOn _ (StoreIsTrue (lane_store end.lane_end)) = λ on. rests (answers.spools_is ∙ on) in
                  let has = law (λ d. meaning_of d) table time line jobs ends w each from sound (λ d. refl) place job end at is done one found store in
                  let same : has.r ≡ j.r = cc (sym has.receipt_is ∙ j.receipt_is) in
                  read.2.gives (job.part.told ++ job.recs) (subst (λ (r : ReceiptIs). HasList (λ d. meaning_of d) w r.key r.spans (job.part.told ++ job.recs)) same has.has)),
            ));
        else_none = λ not. (let none = no_receipt end.stop job end came.part came.stops (λ done. not (answers.stop_is ∙ done)) in
            none_read w back.read (subst (λ (o : Option ReceiptIs). ReadsAsked w (option_map wanted_by o) back.read) none answers.read));
      }

  pub all_back : (backs : List JobBack) → AllZip (Answers w) asks backs → ComeBack jobs backs
  all_back backs answers =
      let answered : AllZip (Answers w) (map asked_of ends) backs = subst (λ l. AllZip (Answers w) l backs) asks_are answers in
      let many = each_length jobs ends each in
      let asked = length-map ends asked_of in
      let long = AllZip-long (Answers w) (map asked_of ends) backs answered in
      zip_from ComesBack jobs backs (omega (arith, many, asked, long))
      (λ place job back at is.
      (let e = same_place jobs ends place job at many in
      one_back place job e.0 back at e.1 (zip_at (Answers w) (map asked_of ends) backs answered place (asked_of e.0) back (get_map asked_of ends place e.0 e.1) is)))
