-- The sessions of blocks that were found, all of them.
use Rattle.std.specs.Prelude.{◌≡◌, ℕ, List, [], ◌∷◌, map, Some, slice_get}
use Rattle.sd_base.specs.declared.number.SessionKey.{SessionKey}
use Rattle.sd_span.specs.Spans.{placements_of, spans_of}
use Rattle.sd_span.specs.declared.placement.Placement.{Placement}
use Rattle.sd_journal.specs.Journal.{with_key}
use Rattle.sd_scan.specs.Found.{Found, ArePlacements, bodies_of}
use Rattle.sd_scan.specs.Session.{Breaks, IsStartOf, ReadsTo, StandsFor}
use Rattle.sd_scan.specs.declared.report.Report.{Report}
use Rattle.sd_scan.specs.declared.session.Session.{Session}
use Rattle.sd_scan.specs.declared.sessions.Sessions.{Sessions}

-- these sessions, and those of the blocks that are not among them
abbrev pub keys_behind : List SessionKey → List Found → List SessionKey
keys_behind keys [] = keys
keys_behind keys (f ∷ found) = keys_behind (with_key f.block.key keys) found

-- the sessions of blocks, each once, in the order of their first blocks
abbrev pub keys_of : List Found → List SessionKey
keys_of found = keys_behind [] found

-- What is told of one session of the blocks, which lie at these placements: the start label of its first body, the spans of its
-- own placements, what its bodies come to, and whether one of them can't follow those before it.
pub record Reports (found : List Found) (placements : List Placement) (r : Report) : Type 0 where
  pub first : List ℕ
  pub rest : List (List ℕ)
  pub bodies_are : bodies_of r.key found ≡ first ∷ rest
  pub start_is : IsStartOf first r.start
  pub spans_are : r.spans ≡ spans_of r.key placements
  pub reads : ReadsTo (bodies_of r.key found) r.records r.bytes r.ended
  pub breaks : Breaks (bodies_of r.key found) r.broken

-- each of them is told so
abbrev pub ReportsEach : List Found → List Placement → List Report → Type 0
ReportsEach found placements [] = Unit {0}
ReportsEach found placements (r ∷ rs) = Reports found placements r × ReportsEach found placements rs

-- What is told of the sessions of blocks: of each session of which a block is there, once, in the order of their first blocks.
pub record AreReports (found : List Found) (reports : List Report) : Type 0 where
  pub placements : List Placement
  pub placements_are : ArePlacements found placements
  pub keys_are : map (λ r. r.key) reports ≡ keys_of found
  pub each : ReportsEach found placements reports

-- What is kept of them.

-- the sessions that are kept
abbrev pub sessions_in : Sessions → List Session
sessions_in s = s.found.items

-- their keys
abbrev pub keys_in : Sessions → List SessionKey
keys_in s = map (λ one. one.key) (sessions_in s)

-- one session, after all these blocks, which lie at these placements
pub record Stands (found : List Found) (placements : List Placement) (s : Session) : Type 0 where
  pub first : List ℕ
  pub rest : List (List ℕ)
  pub bodies_are : bodies_of s.key found ≡ first ∷ rest
  pub stands : StandsFor first (placements_of s.key placements) (bodies_of s.key found) s

-- these are the sessions of these blocks, which lie at these placements
pub record KeepsBy (found : List Found) (placements : List Placement) (sessions : List Session) : Type 0 where
  pub placements_are : ArePlacements found placements
  pub keys_are : map (λ one. one.key) sessions ≡ keys_of found
  pub each : (at : ℕ) (one : Session) → slice_get sessions at ≡ Some one → Stands found placements one

-- these are the sessions of these blocks
abbrev pub Keeps : List Found → Sessions → Type 0
Keeps found s = (placements : List Placement) × KeepsBy found placements (sessions_in s)
