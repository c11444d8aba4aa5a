-- What is read of a configuration, and its lines one after another.
use Rattle.std.proofs.Common.{◌≡◌, ℕ, ◌+◌, ◌<◌, inr, refl, sym, ap, subst, ◌∙◌, arith, List, [], ◌∷◌, ◌++◌, length, take, get_or, Option, Some, None, Err, codes}
use Rattle.std.proofs.lemmas.List.{append_assoc, append-nil, length-take, take_more}
use Rattle.std.specs.Prelude.{IfSome, Result}
use Rattle.std.specs.Fmt.{decimal}
use Rattle.toml.specs.Parse.{parse_document}
use Rattle.sd_conf.specs.Conf.{HasFirstFault}
use Rattle.sd_conf.specs.declared.conf.Conf.{Conf}
use Rattle.sd_conf.specs.declared.conf.DriveConf.{DriveConf}
use Rattle.sd_conf.specs.declared.fault.ConfFault.{ConfFault}
use Rattle.sd_conf.specs.declared.fault.ConfFault.TheVariants.{Text, Key, Memory}
use Rattle.sd_conf.specs.declared.fault.FaultKind.{FaultKind}
use Rattle.sd_text.specs.Says.{SaidView, Says}
use Rattle.sd_text.proofs.SaysLemmas.{says_then}
use Rattle.sd_text.specs.Lines.{line}
use Rattle.sd_conf.specs.Check.{Input, IsFaultIn, IsOfText, IsPlaced, conf_lines, drive_lines, drive_text, fault_text, kind_word}
use Rattle.sd_conf.specs.declared.check.CheckFault.{CheckFault}
use Rattle.sd_conf.specs.declared.check.CheckFault.TheVariants.{Input as NoInput, Conf as Bad}

-- an input whose bytes were all read
pub all_read : (input : Option (List ℕ)) (bytes : List ℕ) (result : Result Conf CheckFault) → IfSome input (λ xs. bytes ≡ [] ++ xs) → Input bytes result → IfSome input (λ text. Input text result)
all_read None bytes result is read = tt
all_read (Some xs) bytes result is read = subst (λ (text : List ℕ). Input text result) is read

-- what holds of any text
pub any_input : (input : Option (List ℕ)) (P : List ℕ → Type 0) → ((text : List ℕ) → P text) → IfSome input P
any_input None P all = tt
any_input (Some xs) P all = all xs

-- a fault of a text
pub fault_read : (text : List ℕ) (fault : ConfFault) → (fault ≡ Text → parse_document text ≡ None) → ((key : List ℕ) (kind : FaultKind) → fault ≡ Key key kind → HasFirstFault text key kind)
    → IsFaultIn text fault
fault_read text Text none first = inr (none refl)
fault_read text (Key key kind) none first = first key kind refl
fault_read text Memory none first = tt

-- a fault of a text, and its place
pub placed_input : (text : List ℕ) (fault : ConfFault) (told : CheckFault) → IsPlaced text fault told → IsFaultIn text fault → Input text (Err told)
placed_input text fault NoInput placed is = absurd placed
placed_input text fault (Bad f place) (same, here) is = (subst (IsFaultIn text) (sym same) is, here)

-- a fault with its place is one of a text
pub placed_of_text : (text : List ℕ) (fault : ConfFault) (told : CheckFault) → IsPlaced text fault told → IsOfText told
placed_of_text text fault NoInput placed = absurd placed
placed_of_text text fault (Bad f place) placed = tt

-- the lines of one drive more
drives_more : (number : ℕ) (ds : List DriveConf) (d : DriveConf) → drive_lines number (ds ++ d ∷ []) ≡ drive_lines number ds ++ line (drive_text (number + length ds) d)
drives_more number [] d = append-nil _ ∙ ap (λ n. line (drive_text n d)) (omega arith)
drives_more number (e ∷ ds) d =
    ap (λ (l : List ℕ). line (drive_text number e) ++ l) (drives_more (number + 1) ds d ∙ ap (λ n. drive_lines (number + 1) ds ++ line (drive_text n d)) (omega arith))
    ∙ sym (append_assoc (line (drive_text number e)) (drive_lines (number + 1) ds) (line (drive_text (number + length (e ∷ ds)) d)))

pub says_drive : (ds : List DriveConf) (i n : ℕ) (d : DriveConf) (a b c : SaidView) → i < length ds → d ≡ get_or ds i d → n ≡ i + 1
    → Says a b (drive_lines 1 (take i ds)) → Says b c (line (drive_text n d)) → Says a c (drive_lines 1 (take (i + 1) ds))
says_drive ds i n d a b c within is n_is p q =
    let front : take (i + 1) ds ≡ take i ds ++ d ∷ [] = take_more ds i d within ∙ ap (λ (e : DriveConf). take i ds ++ e ∷ []) (sym is) in
    let count : n ≡ 1 + length (take i ds) = omega (arith, n_is, length-take i ds) in
    subst (λ (l : List ℕ). Says a c l) (sym (ap (drive_lines 1) front ∙ drives_more 1 (take i ds) d ∙ ap (λ m. drive_lines 1 (take i ds) ++ line (drive_text m d)) (sym count)))
    (says_then a b c (drive_lines 1 (take i ds)) (line (drive_text n d)) p q)

pub says_conf : (conf : Conf) (drives : List DriveConf) (host : List ℕ) (a b c d e f g h : SaidView) → drives ≡ conf.drives → host ≡ conf.host
    → Says a b (line (codes "block " ++ decimal conf.block)) → Says b c (line (codes "volume " ++ decimal conf.volume)) → Says c d (line (codes "spool " ++ decimal conf.spool))
    → Says d e (line (codes "queue " ++ decimal conf.queue)) → Says e f (line (codes "port " ++ decimal conf.port)) → Says f g (line (codes "host " ++ host))
    → Says g h (drive_lines 1 drives) → Says a h (conf_lines conf)
says_conf conf drives host a b c d e f g h is host_is p q r s t u v =
    says_then a b h _ _ p (says_then b c h _ _ q (says_then c d h _ _ r (says_then d e h _ _ s (says_then e f h _ _ t
    (says_then f g h _ _ (subst (λ (name : List ℕ). Says f g (line (codes "host " ++ name))) host_is u) (subst (λ (ds : List DriveConf). Says g h (drive_lines 1 ds)) is v))))))

-- the pieces of a drive's line
drive_pieces : (number media lanes folder : List ℕ)
    → codes "drive " ++ (number ++ (codes " " ++ (media ++ (codes " " ++ (lanes ++ (codes " " ++ (folder ++ codes "\n")))))))
    ≡ line (codes "drive " ++ number ++ codes " " ++ media ++ codes " " ++ lanes ++ codes " " ++ folder)
drive_pieces number media lanes folder = simp append_assoc

pub says_drive_line : (number : ℕ) (drive : DriveConf) (media folder : List ℕ) (a b c d e f g h i j : SaidView) → media ≡ drive.media → folder ≡ drive.folder
    → Says a b (codes "drive ") → Says b c (decimal number) → Says c d (codes " ") → Says d e media → Says e f (codes " ") → Says f g (decimal drive.lanes) → Says g h (codes " ")
    → Says h i folder → Says i j (codes "\n") → Says a j (line (drive_text number drive))
says_drive_line number drive media folder a b c d e f g h i j media_is folder_is p q r s t u v w x =
    rw drive_pieces at
    (rw (media_is, folder_is) at
    (says_then a b j _ _ p (says_then b c j _ _ q (says_then c d j _ _ r (says_then d e j _ _ s (says_then e f j _ _ t (says_then f g j _ _ u (says_then g h j _ _ v (says_then h i j _ _ w x)))))))))

-- the pieces of the line of a key that is wrong
fault_pieces : (key word : List ℕ) → codes "fault " ++ (key ++ (codes " " ++ (word ++ codes "\n"))) ≡ line (codes "fault " ++ key ++ codes " " ++ word)
fault_pieces key word = simp append_assoc

pub says_fault_line : (key word text : List ℕ) (kind : FaultKind) (a b c d e f : SaidView) → text ≡ key → word ≡ kind_word kind
    → Says a b (codes "fault ") → Says b c text → Says c d (codes " ") → Says d e word → Says e f (codes "\n") → Says a f (line (fault_text key kind))
says_fault_line key word text fault a b c d e f text_is word_is p q r s t =
    rw fault_pieces at (rw (text_is, word_is) at (says_then a b f _ _ p (says_then b c f _ _ q (says_then c d f _ _ r (says_then d e f _ _ s t)))))
