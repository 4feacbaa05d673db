-- The HANDOVER REQUEST that the centre sends.
use Rattle.std.specs.Prelude.{[], ◌∷◌, Some}
use Rattle.bssmap_messages.specs.declared.message.CellId.{CellId}
use Rattle.bssmap_messages.specs.declared.message.Bssmap.{Bssmap}
use Rattle.bssmap_messages.specs.declared.message.Bssmap.TheVariants.{HandoverRequest}
use Rattle.bssmap_messages.specs.declared.message.Classmark.TheVariants.{One}
use Rattle.msc_model.specs.declared.cell.Cell.{Cell}
use Rattle.msc_model.specs.declared.route.Route.{Route}

-- a cell by location area code and cell identity (TS 48.008 clause 3.2.2.17)
abbrev pub identifier : Cell → CellId
identifier cell = record { lac = Some cell.lac; ci = cell.ci }

-- HANDOVER REQUEST (clause 3.2.1.8): speech on a full rate channel, speech version 1 (3.2.2.11); no ciphering (3.2.2.10);
-- classmark 33 (3.2.2.30); the cell where the call is, as far as the centre knows, and the one that is asked for.
abbrev pub request : {A : Type 0} → Route → Bssmap A
request r = HandoverRequest (0x01 ∷ 0x08 ∷ 0x01 ∷ []) (0x01 ∷ []) (One 0x33) (identifier r.serving) (identifier r.target)
