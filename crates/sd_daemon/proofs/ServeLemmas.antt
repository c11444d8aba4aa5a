-- What some text holds, and what is said of a folder.
use Rattle.std.proofs.Common.{◌≡◌, ◌∙◌, ap, ℕ, List, [], ◌∷◌, ◌++◌, None, Result, Ok, Err, codes}
use Rattle.std.proofs.lemmas.Grind.{flat_map-append}
use Rattle.std.proofs.lemmas.List.{append-nil, append_assoc}
use Rattle.std.specs.Prelude.{IfErr, IfOk}
use Rattle.sd_conf.specs.declared.conf.Conf.{Conf}
use Rattle.sd_conf.specs.declared.fault.ConfFault.TheVariants.{Memory as NoMemory}
use Rattle.sd_conf.specs.Check.{Input}
use Rattle.sd_text.specs.Says.{SaidView, Says}
use Rattle.sd_text.proofs.SaysLemmas.{says_then}
use Rattle.sd_text.specs.Lines.{line}
use Rattle.sd_daemon.specs.Serve.{IsConfOf, IsFaultOf, folder_text, serve_text, settle_lines}
use Rattle.sd_daemon.specs.declared.serve_line.ServeLine.TheVariants.{Unsettled}
use Rattle.sd_conf.specs.declared.check.CheckFault.{CheckFault}
use Rattle.sd_conf.specs.declared.check.CheckFault.TheVariants.{Input as NoInput, Conf as Bad}

-- a fault of a text is one of some text
pub fault_of : (text : List ℕ) (result : Result Conf CheckFault) → Input text result → IfErr result IsFaultOf
fault_of text (Ok conf) input = tt
fault_of text (Err fault) input = (text, input)

-- a configuration that a text is, some text is
pub conf_of : (text : List ℕ) (result : Result Conf CheckFault) → Input text result → IfOk result IsConfOf
conf_of text (Ok conf) input = (text, input)
conf_of text (Err fault) input = tt

-- memory may run out at any
pub no_memory : IsFaultOf (Bad NoMemory None)
no_memory = ([], (tt, tt))

-- and any may be out of reach
pub no_input : IsFaultOf NoInput
no_input = ([], tt)

-- the pieces of the line of a folder that is locked
folder_pieces : (folder : List ℕ) → codes "fault folder " ++ (folder ++ (codes " locked" ++ codes "\n")) ≡ line (codes "fault folder " ++ folder ++ codes " locked")
folder_pieces folder = simp append_assoc

pub says_folder_line : (folder text : List ℕ) (a b c d e : SaidView) → text ≡ folder
    → Says a b (codes "fault folder ") → Says b c text → Says c d (codes " locked") → Says d e (codes "\n") → Says a e (line (folder_text folder))
says_folder_line folder text a b c d e text_is p q r s =
    rw folder_pieces at (rw text_is at (says_then a b e _ _ p (says_then b c e _ _ q (says_then c d e _ _ r s))))

-- the line of one drive more that can't be settled
pub says_settle : (drives front : List ℕ) (last : ℕ) (a b c : SaidView) → drives ≡ front ++ last ∷ [] → Says a b (settle_lines front)
    → Says b c (line (serve_text (Unsettled last))) → Says a c (settle_lines drives)
says_settle drives front last a b c are p q =
    let text : settle_lines drives ≡ settle_lines front ++ line (serve_text (Unsettled last)) =
    ap settle_lines are ∙ flat_map-append (λ (drive : ℕ). line (serve_text (Unsettled drive))) front (last ∷ []) ∙ ap (λ l. settle_lines front ++ l) (append-nil _) in
    rw text (says_then a b c _ _ p q)
