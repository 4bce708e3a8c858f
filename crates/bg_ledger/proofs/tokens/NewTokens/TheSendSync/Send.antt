-- Tokens exist only in proofs, so they may go to another thread.
use denote.Param.Send.{IsSend, owning_send}
use Rattle.bg_ledger.specs.contracts.tokens.NewTokens.{the_row, the_type}
use Rattle.bg_ledger.proofs.Cells.{all_keyless}

pub send : IsSend the_row
send = owning_send the_type tt (λ d. all_keyless d.names) (λ k x w. tt)
