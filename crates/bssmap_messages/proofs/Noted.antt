-- What is kept says what the elements say.
use Rattle.std.proofs.Common.{◌≡◌, List, refl, ◌∙◌, ap, subst, Result}
use Rattle.octet_elements.specs.Elements.{Element}
use Rattle.octet_elements.specs.Lookup.{Kept, lookup, noted, values_in}
use Rattle.octet_elements.specs.Texts.{Answers}
use Rattle.bssmap_messages.specs.declared.fault.BssmapFault.{BssmapFault}
use Rattle.bssmap_messages.specs.declared.head.MessageKind.{MessageKind}
use Rattle.bssmap_messages.specs.declared.head.MessageKind.TheVariants as kind
use Rattle.bssmap_messages.specs.declared.message.Bssmap.{Bssmap}
use Rattle.bssmap_messages.specs.Forms.{known}
use Rattle.bssmap_messages.specs.Messages.{said, handover_request, handover_required, layer_3_alone, handover_complete, handover_failure, handover_performed, cause_alone}
use Rattle.bssmap_messages.specs.Texts.{codec}

all_noted : {A : Type 0} (k : MessageKind) (es : List Element) → said {A = A} k (noted known es) ≡ said k (values_in es)
unfolding handover_request handover_required layer_3_alone handover_complete handover_failure handover_performed cause_alone
all_noted kind.HandoverRequest es = refl
all_noted kind.HandoverRequired es = refl
all_noted kind.HandoverRequestAck es = refl
all_noted kind.HandoverCommand es = refl
all_noted kind.HandoverComplete es = refl
all_noted kind.HandoverFailure es = refl
all_noted kind.HandoverPerformed es = refl
all_noted kind.HandoverRequiredReject es = refl
all_noted kind.HandoverDetect es = refl
all_noted kind.ClearCommand es = refl
all_noted kind.ClearComplete es = refl
all_noted kind.ClearRequest es = refl

pub answered : {A : Type 0} (k : MessageKind) (es : List Element) (kept : Kept) (r : Result (Bssmap A) BssmapFault) → lookup known kept ≡ noted known es → Answers (codec A) r (said k (lookup known kept)) → Answers (codec A) r (said k (values_in es))
answered {A} k es kept r h answers = subst (Answers (codec A) r) (ap (said k) h ∙ all_noted k es) answers
