-- Each row of the table of starts, computed.
use mathlib.Core.Path.{◌≡◌, refl}
use mathlib.Core.List.{map}
use lib.Count.{ones}
use Rattle.word.specs.Number.{signed_of}
use Rattle.class.specs.Class.{register_written}
use Rattle.isa.specs.Reading.{fits, decode_of, read_fields, read_of}
use Rattle.branch.specs.Branch.{slot_of, region_of}
use Rattle.system.specs.System.{is_user}
use Rattle.machine.specs.State.{is_lawful, refusal_of}
use Rattle.layout.specs.Layout.{is_code_size, is_data_size, is_placed, is_apart}
use Rattle.view.specs.View.{seen, word_view}
use Rattle.view.specs.Guard.{is_mask_of, mask_in, is_merge_of}
use Rattle.rules.specs.Offset.{offset_of}
use Rattle.rules.specs.Rules.{view_at, view_before, broken10, broken11, is_guarded, fits_data, fits_code, is_contiguous, broken12, broken22, broken25, broken13, broken14, target_of, is_entry, lands, broken15}
use Rattle.checker.specs.Check.{is_word_broken, is_file_broken, check_of, code_of}
use Rattle.start.specs.Start.{is_based, user_of, placing_refusal, later_refusal, start_of}
use Rattle.examples.specs.Begun.{begun, begins}

pub begins_said : map begun begins ≡ map (λ b. b.answer) begins
unfolding ones signed_of register_written fits decode_of read_fields read_of slot_of region_of is_user is_lawful refusal_of is_code_size is_data_size is_placed is_apart seen word_view is_mask_of mask_in is_merge_of offset_of view_at view_before broken10 broken11 is_guarded fits_data fits_code is_contiguous broken12 broken22 broken25 broken13 broken14 target_of is_entry lands broken15 is_word_broken is_file_broken check_of code_of is_based user_of placing_refusal later_refusal start_of
begins_said = refl
