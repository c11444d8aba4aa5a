-- Texts of lines that are made of a list of things, one line of each.
use Rattle.std.proofs.Common.{◌≡◌, ℕ, refl, sym, ap, ap₂, ◌∙◌, List, [], ◌∷◌, ◌++◌, length, map, codes}
use Rattle.std.specs.List.{flat_map}
use Rattle.std.proofs.lemmas.List.{append-nil}
use Rattle.std.proofs.lemmas.List.Concat.{flat_map-append}
use Rattle.sd_text.specs.Lines.{line}
use Rattle.sd_desk.specs.declared.request.Request.{Request}
use Rattle.sd_machine.specs.declared.view.View.{View}
use Rattle.sd_machine.specs.declared.view.DriveLine.{DriveLine}
use Rattle.sd_machine.specs.declared.view.VolumeLine.{VolumeLine}
use Rattle.sd_machine.specs.declared.view.SessionLine.{SessionLine}
use Rattle.sd_console.specs.Requests.{count_line, request_line, requests_lines}
use Rattle.sd_console.specs.Status.{drive_line, volume_line, session_line, status_lines}

-- the lines of things, as one text
pub lines_made : {A : Type 0} (f : A → List ℕ) (xs : List A) → flat_map line (map f xs) ≡ flat_map (λ x. line (f x)) xs
lines_made f [] = refl
lines_made f (x ∷ xs) = ap (λ (rest : List ℕ). line (f x) ++ rest) (lines_made f xs)

-- the text of a status, part by part
pub status_whole : (v : View) (made made_1 made_2 made_3 text : List ℕ) (drives : List DriveLine) (volumes : List VolumeLine) (sessions : List SessionLine)
    → drives ≡ v.drives → volumes ≡ v.volumes → sessions ≡ v.sessions → made ≡ []
    → made_1 ≡ made ++ flat_map (λ d. line (drive_line d)) drives
    → made_2 ≡ made_1 ++ flat_map (λ w. line (volume_line w)) volumes
    → made_3 ≡ made_2 ++ flat_map (λ s. line (session_line s)) sessions
    → text ≡ made_3 ++ codes "ok status\n" → text ≡ flat_map line (status_lines v)
status_whole v made made_1 made_2 made_3 text drives volumes sessions d_are v_are s_are none first second third last =
    let d_lines = map drive_line v.drives in
    let v_lines = map volume_line v.volumes in
    let s_lines = map session_line v.sessions in
    let join = λ (a b : List ℕ). a ++ b in
    let whole : flat_map line (status_lines v)
    ≡ flat_map (λ d. line (drive_line d)) v.drives ++ flat_map (λ w. line (volume_line w)) v.volumes ++ flat_map (λ s. line (session_line s)) v.sessions ++ codes "ok status\n" =
    flat_map-append line (d_lines ++ v_lines ++ s_lines) (codes "ok status" ∷ [])
    ∙ ap (λ (a : List ℕ). a ++ codes "ok status\n")
    (flat_map-append line (d_lines ++ v_lines) s_lines
    ∙ ap₂ join (flat_map-append line d_lines v_lines ∙ ap₂ join (lines_made drive_line v.drives) (lines_made volume_line v.volumes)) (lines_made session_line v.sessions)) in
    rw (last, third, second, first, none, d_are, v_are, s_are) (sym whole)

-- the text of requests, part by part
pub requests_whole : (requests : List Request) (made made_1 text : List ℕ) → made ≡ []
    → made_1 ≡ made ++ flat_map (λ r. line (request_line r)) requests → text ≡ made_1 ++ line (count_line (length requests)) → text ≡ flat_map line (requests_lines requests)
requests_whole requests made made_1 text none first last =
    let whole : flat_map line (requests_lines requests) ≡ flat_map (λ r. line (request_line r)) requests ++ line (count_line (length requests)) =
    flat_map-append line (map request_line requests) (count_line (length requests) ∷ [])
    ∙ ap₂ (λ (a b : List ℕ). a ++ b) (lines_made request_line requests) (append-nil (line (count_line (length requests)))) in
    rw (last, first, none) (sym whole)
