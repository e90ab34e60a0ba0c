-- One name that opens every definition that a call of `run` goes through, for what is computed. Assumes nothing.
use Prim.Native.Nat.{ℕ}
use Rattle.alu.specs.Flags.{parity_of, result_of, with_cy, flag_byte_of, flags_of}
use Rattle.alu.specs.Sums.{sum_of, half_carry_of, add_of, sub_of, cmp_of, keep_cy, inr_of, dcr_of, daa_of}
use Rattle.alu.specs.Logic.{and_carry_of, ana_of, xra_of, ora_of}
use Rattle.alu.specs.Accumulator.{rlc_of, rrc_of, ral_of, rar_of, cma_of, stc_of, cmc_of}
use Rattle.alu.specs.Words.{dad_of}
use Rattle.alu.specs.Groups.{arithmetic_of, accumulator_of}
use Rattle.opcodes.specs.Condition.{met_of}
use Rattle.opcodes.specs.Cycles.{cycling}
use Rattle.opcodes.specs.Kinds.{writes_of, kind_of, status_of, states_of, waits_of, reads_of, raises_of}
use Rattle.effect.specs.Registers.{reg_of, with_reg, with_flags, with_result}
use Rattle.effect.specs.Pairs.{pair_of, with_pair, pop_pair, pair_high_of, pair_low_of}
use Rattle.effect.specs.Kept.{kept_for, keep_of, wz_of}
use Rattle.effect.specs.Bus.{address_of, given_of}
use Rattle.effect.specs.Effect.{counted, dad_pair, accumulated, computed, returned, jumped, called, finish, effect_of}
use Rattle.machine.specs.Record.{cold_of, with_lines, stopped_of}
use Rattle.machine.specs.Step.{stepping}
use Rattle.machine.specs.Row.{showing}
use Rattle.machine.specs.Well as well
use Rattle.schedule.specs.Events as events
use Rattle.schedule.specs.Levels.{act_of, once_of, levels_at}
use Rattle.run.specs.State.{byte_on, memory_after, outputs_after, put_row}
use Rattle.run.specs.Run.{eventful_of, state_of, run_of}
use Rattle.run.specs.Check.{schedule_verdict}
use Rattle.run.specs.Check as check
use Rattle.run.specs.Outcome.{verdict_of, left_of, answered_of, answer_of}

unfoldable pub everything : ℕ
unfolding parity_of result_of with_cy flag_byte_of flags_of sum_of half_carry_of add_of sub_of cmp_of keep_cy inr_of dcr_of daa_of and_carry_of ana_of
    xra_of ora_of rlc_of rrc_of ral_of rar_of cma_of stc_of cmc_of dad_of arithmetic_of accumulator_of met_of cycling writes_of kind_of status_of
    states_of waits_of reads_of raises_of reg_of with_reg with_flags with_result pair_of with_pair pop_pair pair_high_of pair_low_of kept_for
    keep_of wz_of address_of given_of counted dad_pair accumulated computed returned jumped called finish effect_of cold_of with_lines
    stepping showing well.fixed_of well.levels_listed well.one_of well.is_state well.there_of well.cycles_done well.idle_of well.acked_of
    well.zero_or_read well.bytes_of well.well_of events.state_number_of events.listed_of events.follows_of events.all events.ordered_of
    events.checked_of act_of once_of levels_at byte_on memory_after outputs_after put_row stopped_of eventful_of state_of run_of schedule_verdict
    check.states_verdict check.check_of verdict_of left_of answered_of answer_of
everything = 0
