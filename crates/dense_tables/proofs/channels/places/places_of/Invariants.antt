use Rattle.std.proofs.Common.{◌≡◌, ◌<◌, ℕ, length, get_or, None}
use Rattle.cell_table.specs.Site.{index_of}
use Rattle.dense_tables.specs.Channels.{channel_at}
use Rattle.dense_tables.proofs.channels.places.places_of.Given as goal

-- every number so far has its channel's place
abbrev pub invariant-loop-number : goal.invariant-loop-number
invariant-loop-number g l = record {
  long : length l.places.items ≡ 6144;
  noted : (k : ℕ) → k < l.number → get_or l.places.items k None ≡ index_of l.site (channel_at k);
}
