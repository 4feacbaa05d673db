use Rattle.ho_procedure.proofs.LayerThree.{passed_on}
use Rattle.ho_procedure.proofs.following.follow_a_octets.Goals as goal

-- what was read is the text of what is followed
pub follow_a-requires : goal.follow_a-requires
follow_a-requires g c = passed_on c.in-Ok.message c.args.octets.now c.in-Ok.ensures.text
