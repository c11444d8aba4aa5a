-- A fragment that may come next takes the session on.
use Rattle.std.proofs.Common.{◌≡◌, ℕ, ◌+◌, ◌-◌, ◌<◌, refl, sym, ap, subst, ◌∙◌, arith, List, [], ◌∷◌, ◌++◌, length}
use Rattle.std.specs.Prelude.{ℤ, pos, neg_ℤ}
use Rattle.std.proofs.lemmas.List.{append_assoc, append-nil, length-append, drop_at, drop_all}
use Rattle.sd_base.specs.Record.{Record, IsRecord}
use Rattle.sd_record.specs.Fragment.{Fragment, BeginsData, Continue, Fragments}
use Rattle.sd_record.proofs.RecordLemmas.{FragmentsOfAll-more}
use Rattle.sd_label.specs.declared.label.SessionLabel.{SessionLabel}
use Rattle.sd_label.specs.Label.{session_label_fragment}
use Rattle.sd_label.specs.Cutting.{Between, IsSession}
use Rattle.sd_label.proofs.CuttingLemmas.{records-more}
use Rattle.sd_unpack.specs.declared.stage.Due.{Due}
use Rattle.sd_unpack.specs.Stage.{CouldBeRecord, due_record, Opens, IsPartway}
use Rattle.sd_unpack.specs.Damage.{Continues}

-- a fragment after the others, if nothing else is there
behind_none : {X : Type 0} (parts behind tail : List X) → behind ≡ [] → (parts ++ behind) ++ tail ≡ parts ++ tail
behind_none parts behind tail none =
    ap (λ b. (parts ++ b) ++ tail) none ∙ ap (λ l. l ++ tail) (append-nil parts)

some_behind : {X : Type 0} (xs : List X) (x : X) → xs ++ x ∷ [] ≡ [] → ⊥
some_behind [] x e = cc e
some_behind (y ∷ xs) x e = cc e

-- the order of a session's fragments with one more
order_more : (start : SessionLabel) (fs parts behind : List Fragment) (f : Fragment) → fs ≡ session_label_fragment start ∷ (parts ++ behind)
    → fs ++ f ∷ [] ≡ session_label_fragment start ∷ ((parts ++ behind) ++ f ∷ [])
order_more start fs parts behind f order = ap (λ l. l ++ f ∷ []) order

-- a whole record
pub session_record : (fs : List Fragment) (records : List Record) (r : Record) (f : Fragment) → IsSession fs records Between → IsRecord r
    → Fragments r (f ∷ []) → IsSession (fs ++ f ∷ []) (records ++ r ∷ []) Between
session_record fs records r f s is c = record {
  start = s.start;
  parts = s.parts ++ f ∷ [];
  behind = [];
  order = order_more s.start fs s.parts s.behind f s.order
      ∙ ap (λ l. session_label_fragment s.start ∷ l) (behind_none s.parts s.behind (f ∷ []) s.behind_is ∙ sym (append-nil (s.parts ++ f ∷ [])));
  start_is = s.start_is;
  records_are = records-more records r s.records_are is;
  parts_are = FragmentsOfAll-more records r s.parts (f ∷ []) s.parts_are c;
  behind_is = refl;
}

-- a header's part begins the part and what comes after it
begins_with : (f : Fragment) (index stream : ℤ) (rest : List ℕ) → f.index ≡ index → f.stream ≡ stream → f.size ≡ length f.part + length rest
    → BeginsData f index stream (f.part ++ rest)
begins_with f index stream rest i s n = record {
  index_is = i;
  stream_is = s;
  size_is = n ∙ sym (length-append f.part rest);
  part_first = ap (λ l. f.part ++ l) (sym (drop_at f.part rest (length f.part) refl));
}

begins_all : (f : Fragment) (index stream : ℤ) → f.index ≡ index → f.stream ≡ stream → f.size ≡ length f.part → BeginsData f index stream f.part
begins_all f index stream i s n = record {
  index_is = i;
  stream_is = s;
  size_is = n;
  part_first = sym (ap (λ l. f.part ++ l) (drop_all (length f.part) f.part (omega arith)) ∙ append-nil f.part);
}

-- the first fragment of a record, whose header says all that is due
pub record Starts (due : Due) (f : Fragment) : Type 0 where
  pub index_is : f.index ≡ pos due.index
  pub stream_is : f.stream ≡ pos due.stream
  pub size_is : f.size ≡ due.left

pub whole_fragments : (due : Due) (f : Fragment) → Starts due f → length f.part ≡ due.left → Fragments (due_record due f.part) (f ∷ [])
whole_fragments due f starts long = (
  begins_all f (pos due.index) (pos due.stream) starts.index_is starts.stream_is (starts.size_is ∙ sym long),
  drop_all (length f.part) f.part (omega arith),
)

-- what is due after a part
abbrev pub due_after : Due → List ℕ → Due
due_after due part = record due { left = due.left - length part }

-- a later part is one of the fragments that continue the record
continues_on : (due : Due) (f : Fragment) (rest : List ℕ) (more : List Fragment) → Continues due f → due.left ≡ length f.part + length rest
    → Continue (pos due.index) (pos due.stream) rest more → Continue (pos due.index) (pos due.stream) (f.part ++ rest) (f ∷ more)
continues_on due f rest more goes long c = (
  begins_with f (pos due.index) (neg_ℤ (pos due.stream)) rest goes.index_is goes.stream_is (goes.size_is ∙ long),
  goes.some_there,
  subst (λ l. Continue (pos due.index) (pos due.stream) l more) (sym (drop_at f.part rest (length f.part) refl)) c,
)

more_opens : (behind : List Fragment) (due : Due) (so_far : List ℕ) (f : Fragment) → Opens behind due so_far → Continues due f
    → length f.part < due.left → Opens (behind ++ f ∷ []) (due_after due f.part) (so_far ++ f.part)
more_opens behind due so_far f opens goes short =
    let is = opens.due_is in
    record {
      some_there = some_behind behind f;
      due_is = record {
        index_least = is.index_least;
        index_most = is.index_most;
        stream_least = is.stream_least;
        stream_most = is.stream_most;
        left_least = omega arith;
        data_most = let most = is.data_most in omega (arith, length-append so_far f.part);
      };
      whatever_comes = (λ rest more long c.
          let all = opens.whatever_comes (f.part ++ rest) (f ∷ more) (omega (arith, length-append f.part rest)) (continues_on due f rest more goes (omega arith) c) in
          subst (λ l. Fragments (due_record due l) ((behind ++ f ∷ []) ++ more)) (sym (append_assoc so_far f.part rest))
          (subst (Fragments (due_record due (so_far ++ (f.part ++ rest)))) (sym (append_assoc behind (f ∷ []) more)) all));
    }

-- a later part after which more is due
pub partway_more : (fs : List Fragment) (records : List Record) (due : Due) (so_far : List ℕ) (f : Fragment) → IsPartway fs records due so_far
    → Continues due f → length f.part < due.left → IsPartway (fs ++ f ∷ []) records (due_after due f.part) (so_far ++ f.part)
partway_more fs records due so_far f s goes short = record {
  start = s.start;
  parts = s.parts;
  behind = s.behind ++ f ∷ [];
  order = order_more s.start fs s.parts s.behind f s.order ∙ ap (λ l. session_label_fragment s.start ∷ l) (append_assoc s.parts s.behind (f ∷ []));
  start_is = s.start_is;
  records_are = s.records_are;
  parts_are = s.parts_are;
  behind_is = more_opens s.behind due so_far f s.behind_is goes short;
}

pub due_record_is : (due : Due) (so_far part : List ℕ) → CouldBeRecord due so_far → length part ≡ due.left → IsRecord (due_record due (so_far ++ part))
due_record_is due so_far part is long = record {
  index_least = is.index_least;
  index_most = is.index_most;
  stream_least = is.stream_least;
  stream_most = is.stream_most;
  data_most = let most = is.data_most in omega (arith, length-append so_far part);
}

-- a part that is all that is due is the last
pub last_continues : (due : Due) (f : Fragment) → Continues due f → length f.part ≡ due.left → Continue (pos due.index) (pos due.stream) f.part (f ∷ [])
last_continues due f goes long = (
  begins_all f (pos due.index) (neg_ℤ (pos due.stream)) goes.index_is goes.stream_is (goes.size_is ∙ sym long),
  goes.some_there,
  drop_all (length f.part) f.part (omega arith),
)

-- the last part
pub partway_whole : (fs : List Fragment) (records : List Record) (due : Due) (so_far : List ℕ) (f : Fragment) → IsPartway fs records due so_far
    → Continues due f → length f.part ≡ due.left → IsSession (fs ++ f ∷ []) (records ++ due_record due (so_far ++ f.part) ∷ []) Between
partway_whole fs records due so_far f s goes long =
    let opens = s.behind_is in
    record {
      start = s.start;
      parts = s.parts ++ (s.behind ++ f ∷ []);
      behind = [];
      order = order_more s.start fs s.parts s.behind f s.order
          ∙ ap (λ l. session_label_fragment s.start ∷ l) (append_assoc s.parts s.behind (f ∷ []) ∙ sym (append-nil (s.parts ++ (s.behind ++ f ∷ []))));
      start_is = s.start_is;
      records_are = records-more records (due_record due (so_far ++ f.part)) s.records_are (due_record_is due so_far f.part opens.due_is long);
      parts_are = FragmentsOfAll-more records (due_record due (so_far ++ f.part)) s.parts (s.behind ++ f ∷ []) s.parts_are (opens.whatever_comes f.part (f ∷ []) long (last_continues due f goes long));
      behind_is = refl;
    }
