-- The lines of the requests for volumes, without their newlines.
use Rattle.std.specs.Prelude.{ℕ, List, [], ◌∷◌, ◌++◌, length, map, codes}
use Rattle.std.specs.Fmt.{decimal}
use Rattle.sd_text.specs.Fields.{joined}
use Rattle.sd_desk.specs.declared.request.Request.{Request}

-- a request: which drive needs a volume, of which pool and media
abbrev pub request_line : Request → List ℕ
request_line r = joined (codes "request" ∷ decimal r.drive ∷ r.pool ∷ r.media ∷ [])

-- how many requests there are
abbrev pub count_line : ℕ → List ℕ
count_line count = joined (codes "ok" ∷ codes "requests" ∷ decimal count ∷ [])

-- all requests in their order, and how many they are
abbrev pub requests_lines : List Request → List (List ℕ)
requests_lines requests = map request_line requests ++ count_line (length requests) ∷ []
