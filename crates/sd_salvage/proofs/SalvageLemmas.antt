-- What a salvager takes, piece by piece.
use Rattle.std.proofs.Common.{◌≡◌, ◌≢◌, inl, inr, Bool, true, false, true≢false, refl, sym, ap, subst, ◌∙◌, ℕ, List, [], ◌∷◌, ◌++◌}
use Rattle.std.specs.Prelude.{◌&&◌, None, Some, IsTrue, ◌↔◌, Result, Ok, Err, IfErr, IsErrOf}
use Rattle.std.proofs.lemmas.List.{append_assoc, append-nil}
use Rattle.sd_base.specs.Key.{is_key}
use Rattle.sd_base.specs.Record.{Record}
use Rattle.sd_base.specs.declared.number.SessionKey.{SessionKey}
use Rattle.sd_collect.specs.Collect.{AreTokensOf, GoesOn}
use Rattle.sd_collect.specs.Whole.{Gap, Place, Token}
use Rattle.sd_collect.proofs.CollectLemmas.{goes_nowhere, goes_then, goes_to_end}
use Rattle.sd_driver.specs.Shelf.{Shelf}
use Rattle.sd_label.specs.Cutting.{AtEnd, Between, Standing, Within, is_ended}
use Rattle.sd_readback.specs.declared.fault.ReadFault.{ReadFault}
use Rattle.sd_readback.specs.declared.fault.ReadFault.TheVariants.{BadSpan, Device}
use Rattle.sd_readback.specs.Reading.{Volumes, bytes_of, volumes_on}
use Rattle.sd_readback.proofs.ReaderLemmas.{unpacked_holds}
use Rattle.sd_span.specs.declared.span.Span.{Span}
use Rattle.sd_unpack.specs.Stage.{standing_at}
use Rattle.sd_unpack.specs.Unpacking.{Unpacking, Unpacks}
use Rattle.sd_volume.specs.Image.{Block}
use Rattle.sd_salvage.specs.Readable.{FindsInSpan, FindsInSpans, Lost, Piece, Read}
use Rattle.sd_salvage.specs.Salvage.{Course, Follows, GiveAll, Gives, GivesIn, HasCome, HasNone, IsEndOf, IsTold, Salvages, Takes, Unpacked, some_body, told_unless}
use Rattle.sd_salvage.specs.declared.salvager.Salvager.{Salvager}
use Rattle.sd_salvage.specs.declared.session.SalvageEnd.{SalvageEnd}

give_one : (key : SessionKey) (p : Piece) (before after : Course) (tokens : List Token) (told : List Place) → Gives key p before after tokens told → GiveAll key (p ∷ []) before after tokens told
give_one key p before after tokens told gives = (after, tokens, [], told, [], gives, (refl, refl, refl), sym (append-nil tokens), sym (append-nil told))

give_then : (key : SessionKey) (ps qs : List Piece) (before between after : Course) (tokens more : List Token) (told others : List Place)
    → GiveAll key ps before between tokens told → GiveAll key qs between after more others → GiveAll key (ps ++ qs) before after (tokens ++ more) (told ++ others)
give_then key [] qs before between after tokens more told others give then =
    subst (λ (c : Course). GiveAll key qs c after (tokens ++ more) (told ++ others)) give.1
    (subst (λ (l : List Token). GiveAll key qs between after (l ++ more) (told ++ others)) (sym give.0) (subst (λ (l : List Place). GiveAll key qs between after more (l ++ others)) (sym give.2) then))
give_then key (p ∷ ps) qs before between after tokens more told others (first, here, rest, told_here, told_rest, gives, give, tokens_are, told_are) then = (
  first,
  here,
  rest ++ more,
  told_here,
  told_rest ++ others,
  gives,
  give_then key ps qs first between after rest more told_rest others give then,
  ap (λ (l : List Token). l ++ more) tokens_are ∙ append_assoc here rest more,
  ap (λ (l : List Place). l ++ others) told_are ∙ append_assoc told_here told_rest others,
)

-- nothing yet
pub takes_none : (key : SessionKey) (s : Salvager) (got : List Record) (told : List Place) → Takes key s s [] got got told told
takes_none key s got told = record {
  tokens = [];
  records = [];
  more = [];
  give = λ before come. (before, come, (refl, refl, refl));
  got_is = sym (append-nil got);
  told_is = sym (append-nil told);
  goes_on = goes_nowhere s.collector;
}

-- one after another
pub takes_then : (key : SessionKey) (a b c : Salvager) (ps qs : List Piece) (got got' got'' : List Record) (told told' told'' : List Place)
    → Takes key a b ps got got' told told' → Takes key b c qs got' got'' told' told'' → Takes key a c (ps ++ qs) got got'' told told''
takes_then key a b c ps qs got got' got'' told told' told'' first then = record {
  tokens = first.tokens ++ then.tokens;
  records = first.records ++ then.records;
  more = first.more ++ then.more;
  give = λ before come.
      let (between, mid, give) = first.give before come in
      let (after, end, more) = then.give between mid in
      (after, end, give_then key ps qs before between after first.tokens then.tokens first.more then.more give more);
  got_is = then.got_is ∙ ap (λ (l : List Record). l ++ then.records) first.got_is ∙ append_assoc got first.records then.records;
  told_is = then.told_is ∙ ap (λ (l : List Place). l ++ then.more) first.told_is ∙ append_assoc told first.more then.more;
  goes_on = goes_then a.collector b.collector c.collector first.tokens then.tokens first.records then.records first.goes_on then.goes_on;
}

-- a place from which on some may be lost
pub takes_lost : (key : SessionKey) (old new : Salvager) (at : Place) (got got' : List Record) (told told' : List Place) → GoesOn old.collector new.collector (Gap ∷ []) [] → new.sound ≡ false
    → got' ≡ got → told' ≡ told ++ at ∷ [] → Takes key old new (Lost at ∷ []) got got' told told'
takes_lost key old new at got got' told told' goes unsound got_is told_is = record {
  tokens = Gap ∷ [];
  records = [];
  more = at ∷ [];
  give = λ before come. (None, unsound, give_one key (Lost at) before None (Gap ∷ []) (at ∷ []) (refl, refl, refl));
  got_is = got_is ∙ sym (append-nil got);
  told_is = told_is;
  goes_on = goes;
}

-- another session's block
pub takes_other : (key : SessionKey) (s : Salvager) (at : Place) (b : Block) (got : List Record) (told : List Place) → is_key key b.key ≡ false → Takes key s s (Read at b ∷ []) got got told told
takes_other key s at b got told other = record {
  tokens = [];
  records = [];
  more = [];
  give = λ before come. (before, come, give_one key (Read at b) before before [] [] (subst (λ own. GivesIn own at b before before [] []) (sym other) (refl, refl, refl)));
  got_is = sym (append-nil got);
  told_is = sym (append-nil told);
  goes_on = goes_nowhere s.collector;
}

-- a block of the session
pub takes_own : (key : SessionKey) (old new : Salvager) (at : Place) (b : Block) (whole goes_on : Bool) (tokens : List Token) (records got got' : List Record) (told told' : List Place)
    → is_key key b.key ≡ true → AreTokensOf b.body whole tokens
    → ((before : Course) → HasCome before old → (after : Course) × HasCome after new × IsTold whole at b.body before after (told_unless goes_on at))
    → got' ≡ got ++ records → told' ≡ told ++ told_unless goes_on at → GoesOn old.collector new.collector tokens records
    → Takes key old new (Read at b ∷ []) got got' told told'
takes_own key old new at b whole goes_on tokens records got got' told told' own are comes got_is told_is goes = record {
  tokens = tokens;
  records = records;
  more = told_unless goes_on at;
  give = λ before come.
      let (after, end, is) = comes before come in
      (after, end, give_one key (Read at b) before after tokens (told_unless goes_on at) (subst (λ o. GivesIn o at b before after tokens (told_unless goes_on at)) (sym own) (whole, are, is)));
  got_is = got_is;
  told_is = told_is;
  goes_on = goes;
}

-- How a body is told.

some_more : (bodies : List (List ℕ)) (body : List ℕ) → true ≡ some_body (bodies ++ body ∷ [])
some_more [] body = refl
some_more (x ∷ bodies) body = refl

pub not_empty : (bodies : List (List ℕ)) (body : List ℕ) → bodies ++ body ∷ [] ≢ []
not_empty [] body e = cc e
not_empty (x ∷ bodies) body e = cc e

pub follows_of : (bodies : List (List ℕ)) (body : List ℕ) (taken : List Record) (view : Unpacking) → Unpacks (bodies ++ body ∷ []) taken view → Follows bodies body
follows_of bodies body taken view u =
    let h = unpacked_holds (bodies ++ body ∷ []) taken view u (not_empty bodies body) in
    (taken ++ view.ready, h.0, h.2)

-- the salvager after a body, by whether that is whole and follows
pub body_comes : (old new : Salvager) (at : Place) (body : List ℕ) (whole follows : Bool)
    → new.sound ≡ (old.sound && (whole && follows)) → new.found ≡ true
    → (old.sound ≡ false → follows ≡ true)
    → (old.sound ≡ true → (bodies : List (List ℕ)) (taken : List Record) → old.unpacker.damage ≡ None → Unpacks bodies taken old.unpacker → Unpacked bodies body follows new.unpacker)
    → (before : Course) → HasCome before old → (after : Course) × HasCome after new × IsTold whole at body before after (told_unless (whole && follows) at)
body_comes old new at body false follows sound_is found_is lost course before come =
    (None, sound_is ∙ none old.sound, (refl, refl))
  where
    none : (b : Bool) → (b && false) ≡ false
    none true = refl
    none false = refl
body_comes old new at body true follows sound_is found_is lost course None come =
    (None, sound_is ∙ ap (λ b. b && follows) come, subst (λ f. IsTold true at body None None (told_unless f at)) (sym (lost come)) (refl, refl))
body_comes old new at body true true sound_is found_is lost course (Some bodies) come =
    let u = course come.0 bodies come.3.0 come.2 come.3.1 in (
      Some (bodies ++ body ∷ []),
      (sound_is ∙ ap (λ b. b && true) come.0, found_is ∙ some_more bodies body, u.0, u.1),
      inl (follows_of bodies body u.1.0 new.unpacker u.1.1, refl, refl),
    )
body_comes old new at body true false sound_is found_is lost course (Some bodies) come =
    let not = course come.0 bodies come.3.0 come.2 come.3.1 in
    (None, sound_is ∙ ap (λ b. b && false) come.0, inr (not, refl, refl))

-- The end.

no_body : (bodies : List (List ℕ)) → false ≡ some_body bodies → bodies ≡ []
no_body [] e = refl
no_body (x ∷ bodies) e = cc e

pub empty_course : (s : Salvager) → s.sound ≡ true → s.found ≡ false → (course : Course) → HasCome course s → course ≡ Some []
empty_course s sound found None come = absurd (true≢false (sym sound ∙ come))
empty_course s sound found (Some bodies) come = ap Some (no_body bodies (sym found ∙ come.1))

ends_so : (standing : Standing) (ended : Bool) → (IsTrue ended ↔ (standing ≡ AtEnd)) → ended ≡ is_ended standing
ends_so AtEnd true is = refl
ends_so AtEnd false is = cc (is.1 refl)
ends_so Between false is = refl
ends_so Between true is = cc (is.0 refl)
ends_so Within false is = refl
ends_so Within true is = cc (is.0 refl)

some_of : (bodies : List (List ℕ)) → true ≡ some_body bodies → bodies ≢ []
some_of [] e none = cc e
some_of (x ∷ bodies) e none = cc none

pub ends_as : (s : Salvager) (end : SalvageEnd) → end.sound ≡ s.sound → (IsTrue end.ended ↔ (standing_at s.unpacker.stage ≡ Some AtEnd)) → (s.sound ≡ true → s.found ≡ true)
    → (course : Course) → HasCome course s → IsEndOf course end
ends_as s end sound_is ended_is found None come = sound_is ∙ come
ends_as s end sound_is ended_is found (Some bodies) come =
    let some = some_of bodies (sym (found come.0) ∙ come.1) in
    let h = unpacked_holds bodies come.3.0 s.unpacker come.3.1 some in
    let is : IsTrue end.ended ↔ (h.0 ≡ AtEnd) = ((λ t. one (sym h.1 ∙ ended_is.0 t)), (λ e. ended_is.1 (h.1 ∙ ap Some e))) in
    (sound_is ∙ come.0, (come.3.0 ++ s.unpacker.ready, (h.0, h.2, ends_so h.0 end.ended is)))
  where
    one : {a b : Standing} → Some a ≡ Some b → a ≡ b
    one e = cc

-- no fault of the device ends it then
pub no_device : (ended : Result SalvageEnd ReadFault) → IfErr ended (λ fault. fault ≡ BadSpan) → IsErrOf ended Device → ⊥
no_device (Ok end) bad is = cc
no_device (Err fault) bad is = cc

-- Spans.

pub finds_more : (volumes : Volumes) (ss : List Span) (s : Span) (pieces here : List Piece) → FindsInSpans volumes ss pieces → FindsInSpan volumes s here
    → FindsInSpans volumes (ss ++ s ∷ []) (pieces ++ here)
finds_more volumes [] s pieces here found one =
    (here, [], one, refl, ap (λ (l : List Piece). l ++ here) found ∙ sym (append-nil here))
finds_more volumes (x ∷ ss) s pieces here (first, others, finds, found, are) one =
    (first, others ++ here, finds, finds_more volumes ss s others here found one, ap (λ (l : List Piece). l ++ here) are ∙ append_assoc first others here)

-- all of them
pub salvages_all : (volumes : Volumes) (key : SessionKey) (spans : List Span) (pieces : List Piece) (old new : Salvager) (got got' : List Record) (told told' : List Place) (end : SalvageEnd)
    → old.collector.due ≡ None → HasCome (Some []) old → FindsInSpans volumes spans pieces → Takes key old new pieces got got' told told'
    → ((course : Course) → HasCome course new → IsEndOf course end)
    → (records : List Record) × (more : List Place) × (got' ≡ got ++ records) × (told' ≡ told ++ more) × Salvages volumes key spans records more end
salvages_all volumes key spans pieces old new got got' told told' end none come found takes ends =
    let (course, last, give) = takes.give (Some []) come in (
      takes.records,
      takes.more,
      takes.got_is,
      takes.told_is,
      record {
        pieces = pieces;
        tokens = takes.tokens;
        course = course;
        found = found;
        give = give;
        whole = goes_to_end old.collector new.collector takes.tokens takes.records none takes.goes_on;
        end_is = ends course last;
      },
    )

-- none of them
pub none_of_session : (volumes : Volumes) (key : SessionKey) (spans : List Span) (pieces : List Piece) (old new : Salvager) (got got' : List Record) (told told' : List Place) (ended : Result SalvageEnd ReadFault)
    → HasCome (Some []) old → FindsInSpans volumes spans pieces → Takes key old new pieces got got' told told'
    → IfErr ended (λ fault. (course : Course) → HasCome course new → course ≡ Some []) → IsErrOf ended BadSpan → HasNone volumes key spans
none_of_session volumes key spans pieces old new got got' told told' (Ok end) come found takes none bad = cc
none_of_session volumes key spans pieces old new got got' told told' (Err fault) come found takes none bad =
    let (course, last, give) = takes.give (Some []) come in record {
      pieces = pieces;
      tokens = takes.tokens;
      told = takes.more;
      found = found;
      give = subst (λ (after : Course). GiveAll key pieces (Some []) after takes.tokens takes.more) (none course last) give;
    }

-- by another name of the key
pub takes_as : (a b : SessionKey) → a ≡ b → {old new : Salvager} {pieces : List Piece} {got got' : List Record} {told told' : List Place} → Takes a old new pieces got got' told told'
    → Takes b old new pieces got got' told told'
takes_as a b same {old} {new} {pieces} {got} {got'} {told} {told'} takes = subst (λ k. Takes k old new pieces got got' told told') same takes

-- the same volume on both shelves: what is found of its span is the same
pub finds_same : (now old : Shelf) (s : Span) (pieces : List Piece) → now.volume s.volume ≡ old.volume s.volume → FindsInSpan (volumes_on now) s pieces → FindsInSpan (volumes_on old) s pieces
finds_same now old s pieces same (inl absent) = inl (sym (ap bytes_of same) ∙ absent.0, absent.1)
finds_same now old s pieces same (inr there) = inr (there.0, there.1, sym (ap bytes_of same) ∙ there.2, there.3, there.4)
