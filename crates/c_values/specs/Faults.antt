-- The numbers by which C is told a fault of octets, each with its place.
use Rattle.base_grammar.specs.declared.fault.BaseFault.{BaseFault}
use Rattle.base_grammar.specs.declared.fault.BaseFault.TheVariants as faults
use Rattle.bass_operations.specs.declared.fault.OpFault.{OpFault}
use Rattle.bass_operations.specs.declared.fault.OpFault.TheVariants as operations
use Rattle.iso_pdu.specs.Faults.{number_of}
use Rattle.iso_pdu.specs.declared.fault.PduFault.{PduFault}
use Rattle.iso_pdu.specs.declared.fault.PduFault.TheVariants as pdus
use Rattle.pacs_records.specs.declared.fault.PacFault.{PacFault}
use Rattle.pacs_records.specs.declared.fault.PacFault.TheVariants as pacs
use Rattle.receive_state.specs.declared.fault.StateFault.{StateFault}
use Rattle.receive_state.specs.declared.fault.StateFault.TheVariants as states
use Rattle.c_values.specs.declared.fault.AirFault.{AirFault}

-- the number of a fault, and its place
abbrev pub base_fault_c : BaseFault → AirFault
base_fault_c (faults.Short place) = record { place = place; number = 1 }
base_fault_c faults.NoSubgroup = record { place = 3; number = 2 }
base_fault_c (faults.NoBis place) = record { place = place; number = 3 }
base_fault_c (faults.BadIndex place) = record { place = place; number = 4 }
base_fault_c (faults.IndexTwice place) = record { place = place; number = 5 }
base_fault_c (faults.Ltv place fault) = record { place = place; number = 6 }
base_fault_c (faults.Trailing place) = record { place = place; number = 7 }
base_fault_c faults.TooLong = record { place = 252; number = 8 }
base_fault_c faults.Memory = record { place = 0; number = 0 }

abbrev pub pdu_fault_c : PduFault → AirFault
pdu_fault_c (pdus.SegmentShort place) = record { place = place; number = 4 }
pdu_fault_c (pdus.SegmentNoOffset place) = record { place = place; number = 5 }
pdu_fault_c fault = record { place = 0; number = number_of fault }

abbrev pub pac_fault_c : PacFault → AirFault
pac_fault_c pacs.TooLong = record { place = 512; number = 1 }
pac_fault_c (pacs.Short place) = record { place = place; number = 2 }
pac_fault_c (pacs.Ltv place fault) = record { place = place; number = 3 }
pac_fault_c (pacs.Trailing place) = record { place = place; number = 4 }
pac_fault_c pacs.Memory = record { place = 0; number = 0 }

-- of a stream that stands twice the place is its index
abbrev pub operation_fault_c : OpFault → AirFault
operation_fault_c operations.Empty = record { place = 0; number = 1 }
operation_fault_c operations.Opcode = record { place = 0; number = 2 }
operation_fault_c operations.Length = record { place = 0; number = 3 }
operation_fault_c (operations.Rfu place) = record { place = place; number = 4 }
operation_fault_c (operations.BisTwice bis) = record { place = bis; number = 5 }
operation_fault_c operations.Memory = record { place = 0; number = 0 }

abbrev pub state_fault_c : StateFault → AirFault
state_fault_c (states.Short place) = record { place = place; number = 1 }
state_fault_c (states.Rfu place) = record { place = place; number = 2 }
state_fault_c (states.Trailing place) = record { place = place; number = 3 }
state_fault_c states.Memory = record { place = 0; number = 0 }
