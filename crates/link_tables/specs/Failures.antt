-- What becomes of a failure of the old channel that came while its call had an attempt at handover (48.058 clause 8.4.4). The
-- number is that of docs/LINKS.md.
use Rattle.std.specs.Prelude.{Bool, false, ◌||◌, if◌then◌else◌}
use Rattle.link_tables.specs.declared.Lchan.{Lchan}
use Rattle.link_tables.specs.declared.Lchan.TheVariants.{On, Lost}
use Rattle.link_tables.specs.declared.AttemptEnd.{AttemptEnd}
use Rattle.link_tables.specs.declared.AttemptEnd.TheVariants.{Arrived, CameBack, TakenBack}
use Rattle.link_tables.specs.declared.Act.TheVariants.{FailInPlace}
use Rattle.link_tables.specs.declared.Step.{Step}
use Rattle.link_tables.specs.Acts.{nothing, one, same_lchan}

-- L32: it is told where the call stays, unless HANDOVER FAILURE on a channel that is on (44.018 clause 3.4.4.4) proved it wrong
abbrev pub is_told : Lchan → AttemptEnd → Bool
is_told lchan Arrived = false
is_told lchan CameBack = same_lchan lchan Lost
is_told lchan TakenBack = same_lchan lchan On || same_lchan lchan Lost

abbrev pub ended_step : Lchan → AttemptEnd → Step
ended_step lchan end = record { acts = if is_told lchan end then one FailInPlace else nothing; next = lchan }
