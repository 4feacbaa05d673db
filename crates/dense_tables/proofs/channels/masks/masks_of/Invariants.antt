use Rattle.std.proofs.Common.{◌≡◌, ◌<◌, ◌/◌, ◌%◌, ℕ, length, get_or}
use Rattle.channel_fsm.specs.Masks.{has}
use Rattle.cell_table.specs.Site.{is_traffic}
use Rattle.dense_tables.specs.Channels.{sub_at}
use Rattle.dense_tables.proofs.channels.masks.masks_of.Given as goal

-- every mask so far has its traffic timeslots
abbrev pub invariant-loop-number : goal.invariant-loop-number
invariant-loop-number g l = record {
  long : length l.masks.items ≡ 768;
  noted : (k : ℕ) → k < l.number → (tn : ℕ) → has (get_or l.masks.items k 0) tn ≡ is_traffic l.site (record { cell = k / 12; trx = k / 3 % 4; tn = tn; sub = sub_at (k % 3) });
}
