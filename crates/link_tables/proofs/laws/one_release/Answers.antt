use Rattle.link_tables.proofs.Cases.{heard_asks_once, settled_asks_once, heard_awaits, settled_awaits}
use Rattle.link_tables.proofs.laws.one_release.Goals as goal

pub returns : goal.returns
returns c = record { heard = heard_asks_once; settled = settled_asks_once; awaited_where_heard = heard_awaits; awaited_where_settled = settled_awaits }
