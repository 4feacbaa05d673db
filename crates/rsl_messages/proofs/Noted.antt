-- What is kept says what the elements say.
use Rattle.std.proofs.Common.{◌≡◌, List, ◌∙◌, ap, subst, Result}
use Rattle.octet_elements.specs.Elements.{Element}
use Rattle.octet_elements.specs.Lookup.{Kept, lookup, noted, values_in}
use Rattle.octet_elements.specs.Texts.{Answers}
use Rattle.rsl_messages.specs.declared.fault.RslFault.{RslFault}
use Rattle.rsl_messages.specs.declared.head.MessageKind.{MessageKind}
use Rattle.rsl_messages.specs.declared.message.Rsl.{Rsl}
use Rattle.rsl_messages.specs.Forms.{known}
use Rattle.rsl_messages.specs.Messages.{said}
use Rattle.rsl_messages.specs.Texts.{codec}
use Rattle.rsl_messages.proofs.ByKind.{all_noted}

pub answered : {A : Type 0} (k : MessageKind) (es : List Element) (kept : Kept) (r : Result (Rsl A) RslFault) → lookup known kept ≡ noted known es → Answers (codec A) r (said k (lookup known kept)) → Answers (codec A) r (said k (values_in es))
answered {A} k es kept r h answers = subst (Answers (codec A) r) (ap (said k) h ∙ all_noted k es) answers
