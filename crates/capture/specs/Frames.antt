-- How messages lie in a TCP stream.
use Rattle.std.specs.Prelude.{ℕ, ◌+◌, List, [], ◌∷◌, ◌++◌, length}
use Rattle.capture.specs.Numbers.{two}
use Rattle.capture.specs.declared.path.Wire.{Wire}
use Rattle.capture.specs.declared.path.Wire.TheVariants.{Abis, A}

-- IPA: how many octets the message has, two octets; which protocol it is of; the message
abbrev pub ipa : ℕ → List ℕ → List ℕ
ipa protocol message = two (length message) ++ protocol ∷ message

-- a parameter of the variable part: how many octets it has, one octet, and then these (Q.713 clause 1.6)
abbrev pub counted : List ℕ → List ℕ
counted parameter = length parameter ∷ parameter

-- Unitdata (Q.713 clause 4.10): message type 9; protocol class 0; a pointer each to the called address, the calling
-- address and the data, which counts the octets from itself to the parameter's length; then these three.
abbrev pub unitdata : List ℕ → List ℕ → List ℕ → List ℕ
unitdata called calling load =
    9 ∷ 0 ∷ 3 ∷ (3 + length called) ∷ (3 + length called + length calling) ∷ counted called ++ counted calling ++ counted load

-- A subsystem's address (Q.713 clause 3.4): the indicator says that it has a subsystem number alone, by which it is
-- routed; 254 is BSSAP (TS 23.003 clause 8, TS 48.006).
abbrev pub bssap : List ℕ
bssap = 66 ∷ 254 ∷ []

-- a message as it lies in the stream of its link: on Abis as IPA's protocol 0, on A in unitdata as IPA's protocol FD
unfoldable pub frame : Wire → List ℕ → List ℕ
frame (Abis cell trx) message = ipa 0 message
frame (A call) message = ipa 253 (unitdata bssap bssap message)

-- the longest message that a frame can carry: an internet datagram has 65535 octets, and unitdata's length is one octet
abbrev pub limit : Wire → ℕ
limit (Abis cell trx) = 65492
limit (A call) = 255
