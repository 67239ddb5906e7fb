-- Names that open what writes, states, trains and PDUs are read by, for rows that are worked out by computing.
use Rattle.bcast_base.specs.Encoding.{number}
use Rattle.bcast_base.specs.Subgroups.{subgroup_in, subgroups_in, reserved_in}
use Rattle.ltv_codec.specs.Reading.{ltvs_from}
use Rattle.base_grammar.specs.Reading.{base_of, count_at, entries_at, entry_at, fields_of, index_at, run_at, streams_at, subgroup_at, subgroups_at}
use Rattle.bass_operations.specs.Reading.{add_head_in, add_in, code_in, modify_head_in, modify_in, op_in, remove_in, wishes_in}
use Rattle.bass_operations.specs.Twice.{twice_from}
use Rattle.big_info.specs.Rows.{first_fault}
use Rattle.iso_pdu.specs.Control.{control_of}
use Rattle.iso_pdu.specs.Reading.{read_of}
use Rattle.receive_state.specs.Reading.{source_in, head_in, end_in}
use Rattle.delegator_history.specs.States.{answered}
use Rattle.delegator_history.specs.Writes.{unused_from}

unfoldable pub operations : Unit {0}
unfolding number subgroup_in subgroups_in reserved_in add_head_in add_in code_in modify_head_in modify_in op_in remove_in wishes_in twice_from
operations = tt

unfoldable pub lives : Unit {0}
unfolding source_in head_in end_in answered unused_from
lives = tt

unfoldable pub trains : Unit {0}
unfolding ltvs_from base_of count_at entries_at entry_at fields_of index_at run_at streams_at subgroup_at subgroups_at first_fault read_of control_of
trains = tt
