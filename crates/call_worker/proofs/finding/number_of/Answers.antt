use Rattle.call_worker.proofs.finding.number_of.Goals as goal

pub returns-in-Abis-clause-undecoded : goal.returns-in-Abis-clause-undecoded
returns-in-Abis-clause-undecoded g c f = rw (c.in-Abis.is, ← c.as_slice.ensures.octets) (c.owner_number.ensures.undecoded f)
