-- What the tables of specs/Bound say, computed; each module is placed in a start of demand 3, and those that are sharp are accepted by the profile.
use mathlib.Core.Path.{◌≡◌, refl}
use mathlib.Core.List.{map, ◌++◌}
use lib.Count.{ones}
use Rattle.word.specs.Number.{signed_of, extend_of}
use Rattle.class.specs.Class.{register_written}
use Rattle.isa.specs.Reading.{fits, decode_of, read_fields, read_of}
use Rattle.branch.specs.Branch.{slot_of, link_of, relative_of, region_of, branch_if, jump_if}
use Rattle.system.specs.System.{is_user, system_call_of}
use Rattle.decision.specs.Decision.{decision_of}
use Rattle.machine.specs.State.{is_lawful, refusal_of}
use Rattle.parts.specs.Parts.{put_of}
use Rattle.machine.specs.Step.{effect_of, effect_at, try_of, step_of}
use Rattle.machine.specs.Run.{repeat_of, run_of}
use Rattle.machine.specs.Resume.{is_served, resume_of}
use Rattle.layout.specs.Layout.{is_code_size, is_data_size, is_placed, is_apart}
use Rattle.view.specs.View.{seen, word_view}
use Rattle.view.specs.Guard.{is_mask_of, mask_in, is_merge_of}
use Rattle.rules.specs.Offset.{offset_of}
use Rattle.rules.specs.Rules.{view_at, view_before, broken10, broken11, is_guarded, fits_data, fits_code, is_contiguous, broken12, broken22, broken25, broken13, broken14, target_of, is_entry, lands, broken15}
use Rattle.checker.specs.Check.{is_word_broken, is_file_broken, accepted, code_of}
use Rattle.checker.specs.Refusal.{All}
use Rattle.profile.specs.Rules.{is_ahead, is_excused, broken20, is_syscall0, is_back, differs}
use Rattle.straight.specs.Check.{is_straight_broken, straight_of}
use Rattle.checker.proofs.Trials.{implied}
use Rattle.confinement.specs.Calls.{methods, exported}
use Rattle.confinement.proofs.Exported.{in_bytes, start_encoded}
use Rattle.confinement.specs.Demand.{Start}
use Rattle.termination.specs.Ends.{answers_of}
use Rattle.examples.specs.Escapes.{image_of, memory_length, lent_of}
use Rattle.straight_examples.specs.Bound.{timed, expected, shortest, sharp, longer, resumed_events, resumed_answers}
use Rattle.examples.proofs.Starts.{facts_of, facts_due, starts}
use Rattle.examples.proofs.Escapes.{each}

pub straight_timed : map timed (sharp ++ longer) ≡ map expected (sharp ++ longer)
unfolding ones signed_of extend_of register_written fits decode_of read_fields read_of slot_of link_of relative_of region_of branch_if jump_if is_user system_call_of decision_of is_lawful refusal_of put_of effect_of effect_at try_of step_of repeat_of run_of is_code_size is_data_size is_placed is_apart seen word_view is_mask_of mask_in is_merge_of offset_of view_at view_before broken10 broken11 is_guarded fits_data fits_code is_contiguous broken12 broken22 broken25 broken13 broken14 target_of is_entry lands broken15 is_word_broken is_file_broken is_ahead is_excused broken20 is_syscall0 is_back differs is_straight_broken
straight_timed = refl

pub straight_starts : All (λ t. Start methods t.row.layout memory_length (image_of t.row) (lent_of t.row)) (sharp ++ longer)
unfolding code_of is_lawful refusal_of is_user
straight_starts =
    each
    (λ t. facts_of t.row.layout memory_length (lent_of t.row))
    (λ t. facts_due t.row.layout memory_length (image_of t.row))
    (λ t. Start methods t.row.layout memory_length (image_of t.row) (lent_of t.row))
    (λ t e. starts t.row.layout memory_length (image_of t.row) (lent_of t.row) e)
    (sharp ++ longer)
    refl

-- and on the bytes of its state, a start for the exported calls
pub straight_exported_starts : All (λ t. Start exported t.row.layout memory_length (image_of t.row) (in_bytes (lent_of t.row))) (sharp ++ longer)
straight_exported_starts =
    implied
    (λ t. Start methods t.row.layout memory_length (image_of t.row) (lent_of t.row))
    (λ t. Start exported t.row.layout memory_length (image_of t.row) (in_bytes (lent_of t.row)))
    (λ t s. start_encoded t.row.layout memory_length (image_of t.row) (lent_of t.row) s)
    (sharp ++ longer)
    straight_starts

pub sharp_accepted : All (λ t. straight_of t.row.layout memory_length (image_of t.row) ≡ accepted) sharp
unfolding ones signed_of extend_of register_written fits decode_of read_fields read_of slot_of relative_of region_of is_code_size is_data_size is_placed is_apart seen word_view is_mask_of mask_in is_merge_of offset_of view_at view_before broken10 broken11 is_guarded fits_data fits_code is_contiguous broken12 broken22 broken25 broken13 broken14 target_of is_entry lands broken15 is_word_broken is_file_broken is_ahead is_excused broken20 is_syscall0 is_back differs is_straight_broken straight_of
sharp_accepted = (refl, (refl, (refl, (refl, tt))))

pub straight_resumed : answers_of methods shortest.row.layout resumed_events (lent_of shortest.row) ≡ resumed_answers
unfolding fits decode_of read_fields read_of slot_of region_of is_user system_call_of decision_of is_lawful refusal_of put_of effect_of effect_at try_of step_of repeat_of run_of is_served resume_of
straight_resumed = refl
