-- What a receipt tells.
use Rattle.std.specs.Prelude.{ℕ, List}
use Rattle.sd_base.specs.declared.number.SessionKey.{SessionKey}
use Rattle.sd_span.specs.declared.span.Span.{Span}

-- the session, its spans, and how many blocks of it were placed and synced
pub record ReceiptIs : Type 0 where
  pub key : SessionKey
  pub spans : List Span
  pub blocks : ℕ
