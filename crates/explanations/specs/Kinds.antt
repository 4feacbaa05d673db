-- What the argument of each kind of fault is.
use Rattle.explanations.specs.declared.fault.Argument.{Argument}
use Rattle.explanations.specs.declared.fault.Argument.TheVariants.{Absent, MessageType, Identifier, OffsetOnA, OffsetOnAbis, ElementFault}
use Rattle.explanations.specs.declared.fault.Kind.{Kind}
use Rattle.explanations.specs.declared.fault.Kind.TheVariants.{OtherLink, UnknownType, BadLength, Short, Missing, Bad, BadOnRadioPath, CutOnA, CutOnAbis, TooLong}

abbrev pub argument_of_kind : Kind → Argument
argument_of_kind OtherLink = Absent
argument_of_kind UnknownType = MessageType
argument_of_kind BadLength = Absent
argument_of_kind Short = Absent
argument_of_kind Missing = Identifier
argument_of_kind Bad = Identifier
argument_of_kind BadOnRadioPath = ElementFault
argument_of_kind CutOnA = OffsetOnA
argument_of_kind CutOnAbis = OffsetOnAbis
argument_of_kind TooLong = Absent
