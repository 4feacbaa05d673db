use Rattle.tested_scripts.specs.Meeting.{said_of}
use Rattle.tested_scripts.proofs.MeetingLemmas.{if_any}
use Rattle.tested_scripts.proofs.compare.behind_any.Goals as goal

pub returns-in-Some : goal.returns-in-Some
returns-in-Some g c =
    if_any (λ found. found.items) c.places_from.result (said_of c.args.came.now) c.args.text.now c.args.places.now c.in-Some.first c.requires c.in-Some.ensures.least.0 c.in-Some.ensures.least.1 c.places_from.ensures
