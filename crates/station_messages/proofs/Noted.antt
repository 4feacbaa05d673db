-- What is kept says what the elements say.
use Rattle.std.proofs.Common.{◌≡◌, List, ◌∙◌, ap, subst, Result}
use Rattle.octet_elements.specs.Elements.{Element}
use Rattle.octet_elements.specs.Lookup.{Kept, lookup, noted, values_in}
use Rattle.octet_elements.specs.Texts.{Answers}
use Rattle.rsl_messages.specs.declared.fault.RslFault.{RslFault}
use Rattle.rsl_messages.specs.Forms.{known}
use Rattle.station_messages.specs.declared.head.Head.{Head}
use Rattle.station_messages.specs.declared.head.MessageType.{MessageType}
use Rattle.station_messages.specs.declared.message.StationMessage.{StationMessage}
use Rattle.station_messages.specs.declared.reading.MessageKind.{MessageKind}
use Rattle.station_messages.specs.Types.{head_said, head_codec}
use Rattle.station_messages.specs.Messages.{said}
use Rattle.station_messages.specs.Texts.{codec}
use Rattle.station_messages.proofs.ByKind.{all_noted}

pub head_answered : (k : MessageType) (es : List Element) (kept : Kept) (r : Result Head RslFault) → lookup known kept ≡ noted known es → Answers head_codec r (head_said k (lookup known kept)) → Answers head_codec r (head_said k (values_in es))
head_answered k es kept r h answers = subst (Answers head_codec r) (ap (head_said k) h) answers

pub answered : (k : MessageKind) (es : List Element) (kept : Kept) (r : Result StationMessage RslFault) → lookup known kept ≡ noted known es → Answers codec r (said k (lookup known kept)) → Answers codec r (said k (values_in es))
answered k es kept r h answers = subst (Answers codec r) (ap (said k) h ∙ all_noted k es) answers
