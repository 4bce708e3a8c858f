-- The state of the stream of a connection's requests.
use Rattle.std.specs.Prelude.{Bool, ℕ, List, Option}
use Rattle.bg_http_read.specs.declared.refused_head.RefusedHead.{RefusedHead}

-- all bytes of the connection since the end of the last request that was given, whether they wait all,
-- since no head was taken of them, whether `100 Continue` was asked for since then, whether no fault was
-- given, and the head of the request that had the fault
pub record StreamState : Type 0 where
  pub since : List ℕ
  pub waits : Bool
  pub asked : Bool
  pub is_open : Bool
  pub refused : Option RefusedHead
