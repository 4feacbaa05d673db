use Rattle.std.proofs.Common.{[], ◌∷◌, ◌++◌, refl}
use Rattle.octet_elements.proofs.Splits.{each_and_one, octets_and_one}
use Rattle.octet_elements.proofs.found.Found.read.Goals as goal

pub loop-rest-init : goal.loop-rest-init
loop-rest-init g c = ([], tt, refl, c.requires.nothing)

pub loop-rest-preserved : goal.loop-rest-preserved
loop-rest-preserved g c =
    let forms = g.T.ElementTable.form_of in
    let had = c.loop-rest.invariant in
    let leading = c.in-Some.leading in
    let is = c.in-Some.ensures.found in (
      had.0 ++ (leading.identifier, leading.value.now) ∷ [],
      each_and_one forms had.0 (leading.identifier, leading.value.now) had.1 is.0,
      octets_and_one forms had.0 (leading.identifier, leading.value.now) c.args.octets.now c.loop-rest.rest.now leading.rest.now had.2 is.1,
      c.note.ensures had.0 had.3,
    )
