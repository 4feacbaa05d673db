-- Causes (TS 48.008 clause 3.2.2.5) that others name.
use Rattle.std.specs.Prelude.{ℕ}

abbrev pub radio_interface_message_failure : ℕ
radio_interface_message_failure = 0x00

abbrev pub radio_interface_failure : ℕ
radio_interface_failure = 0x01

abbrev pub call_control : ℕ
call_control = 0x09

-- radio interface failure, reversion to old channel
abbrev pub reversion_to_old_channel : ℕ
reversion_to_old_channel = 0x0A

abbrev pub handover_successful : ℕ
handover_successful = 0x0B

abbrev pub better_cell : ℕ
better_cell = 0x0C

abbrev pub equipment_failure : ℕ
equipment_failure = 0x20

abbrev pub no_radio_resource_available : ℕ
no_radio_resource_available = 0x21

abbrev pub ciphering_algorithm_not_supported : ℕ
ciphering_algorithm_not_supported = 0x40

abbrev pub invalid_message_contents : ℕ
invalid_message_contents = 0x51
