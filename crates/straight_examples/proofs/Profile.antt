-- The worked cases of specs/Profile, computed.
use mathlib.Core.Path.{◌≡◌, refl}
use mathlib.Core.List.{map}
use lib.Count.{ones}
use Rattle.word.specs.Number.{signed_of, extend_of}
use Rattle.class.specs.Class.{register_written}
use Rattle.isa.specs.Reading.{fits, decode_of, read_as, read_fields, read_of}
use Rattle.layout.specs.Layout.{is_code_size, is_data_size, is_placed, is_apart}
use Rattle.branch.specs.Branch.{slot_of, relative_of, region_of}
use Rattle.view.specs.View.{seen, word_view}
use Rattle.view.specs.Guard.{is_mask_of, mask_in, is_merge_of}
use Rattle.rules.specs.Offset.{offset_of}
use Rattle.rules.specs.Rules.{view_at, view_before, broken10, broken11, is_guarded, fits_data, fits_code, is_contiguous, broken12, broken22, broken25, broken13, broken14, target_of, is_entry, lands, broken15}
use Rattle.checker.specs.Check.{is_word_broken, is_file_broken, check_of}
use Rattle.profile.specs.Rules.{is_ahead, is_excused, broken20, is_syscall0, is_back, differs}
use Rattle.straight.specs.Check.{is_straight_broken, straight_of}
use Rattle.straight_examples.specs.Profile.{said_of, wanted, cases}

pub profile_said : map said_of cases ≡ map wanted cases
unfolding ones signed_of extend_of register_written fits decode_of read_as read_fields read_of is_code_size is_data_size is_placed is_apart slot_of relative_of region_of seen word_view is_mask_of mask_in is_merge_of view_at view_before broken10 broken11 is_guarded offset_of fits_data fits_code is_contiguous broken12 broken22 broken25 broken13 broken14 target_of is_entry lands broken15 is_word_broken is_file_broken check_of is_ahead is_excused broken20 is_syscall0 is_back differs is_straight_broken straight_of
profile_said = refl
