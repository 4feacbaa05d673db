use Rattle.channel_fsm.proofs.Rows.{next_rows}
use Rattle.channel_fsm.proofs.laws.next_is_the_table.Goals as goal

pub returns : goal.returns
returns c = record { law = next_rows }
