use Rattle.recovery.proofs.cards_stand.Goals as goal
use Rattle.recovery.proofs.Cards.{delete_card, register_card, close_card, format_card, write_card}
use Rattle.recovery.proofs.Fresh.{run_card, list_card, start_card}

pub returns : goal.returns
returns c = record { delete = delete_card; register = register_card; close = close_card; format = format_card; write = write_card; run = run_card; call = list_card; start = start_card }
