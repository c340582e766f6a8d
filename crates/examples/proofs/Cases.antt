-- C1 to C12 of document 01, and divisions by 0 of document 02, computed from the definitions.
use mathlib.Core.Path.{◌≡◌, refl}
use mathlib.Core.List.{map}
use lib.Count.{ones}
use Rattle.word.specs.Number.{signed_of, extend_of}
use Rattle.class.specs.Class.{register_written}
use Rattle.isa.specs.Reading.{fits, decode_of, read_fields, read_of}
use Rattle.arithmetic.specs.Arithmetic.{bit, checked, shifted_signed, product, divided}
use Rattle.branch.specs.Branch.{slot_of, relative_of, region_of, branch_if}
use Rattle.decision.specs.Decision.{decision_of}
use Rattle.machine.specs.State.{is_lawful, refusal_of}
use Rattle.parts.specs.Parts.{put_of}
use Rattle.machine.specs.Step.{effect_of, effect_at, try_of, step_of}
use Rattle.layout.specs.Layout.{is_code_size, is_data_size, is_placed, is_apart}
use Rattle.view.specs.View.{seen, word_view}
use Rattle.view.specs.Guard.{is_mask_of, mask_in, is_merge_of}
use Rattle.rules.specs.Offset.{offset_of}
use Rattle.rules.specs.Rules.{view_at, view_before, broken10, broken11, is_guarded, fits_data, fits_code, is_contiguous, broken12, broken22, broken25, broken13, broken14, target_of, is_entry, lands, broken15}
use Rattle.checker.specs.Check.{is_word_broken, is_file_broken, check_of}
use Rattle.examples.specs.Cases.{Case, found, divisions, cases}

pub marked_cases : map (λ (c : Case). found c.question) cases ≡ map (λ (c : Case). c.wanted) cases
unfolding ones signed_of extend_of register_written fits decode_of read_fields read_of bit checked shifted_signed product divided slot_of relative_of region_of branch_if decision_of is_lawful refusal_of put_of effect_of effect_at try_of step_of is_code_size is_data_size is_placed is_apart seen word_view is_mask_of mask_in is_merge_of offset_of view_at view_before broken10 broken11 is_guarded fits_data fits_code is_contiguous broken12 broken22 broken25 broken13 broken14 target_of is_entry lands broken15 is_word_broken is_file_broken check_of
marked_cases = refl

pub division_cases : map (λ (c : Case). found c.question) divisions ≡ map (λ (c : Case). c.wanted) divisions
unfolding signed_of extend_of register_written fits decode_of read_fields read_of divided decision_of is_lawful refusal_of put_of effect_of effect_at try_of step_of
division_cases = refl
