-- Document 01's worked cases, computed; and module M is lawful.
use mathlib.Core.Path.{◌≡◌, refl, ap}
use mathlib.Core.List.{map}
use lib.Count.{ones}
use lib.ListN.{get_or}
use Rattle.word.specs.Number.{signed_of, extend_of}
use Rattle.class.specs.Class.{register_written}
use Rattle.isa.specs.Reading.{fits, decode_of, read_as, read_fields, read_of}
use Rattle.layout.specs.Layout.{is_code_size, is_data_size, is_placed, is_apart}
use Rattle.branch.specs.Branch.{slot_of, relative_of, region_of}
use Rattle.view.specs.View.{seen, word_view}
use Rattle.view.specs.Guard.{is_mask_of, mask_in, is_merge_of}
use Rattle.rules.specs.Offset.{offset_of}
use Rattle.rules.specs.Rules.{view_at, view_before, broken10, broken11, is_guarded, fits_data, fits_code, is_contiguous, broken12, broken22, broken25, broken13, broken14, target_of, is_entry, lands, broken15}
use Rattle.checker.specs.Check.{is_word_broken, is_file_broken, accepted, check_of}
use Rattle.checker.specs.Lawful.{Lawful}
use Rattle.checker.specs.Examples.{Example, length_m, layout_m, module_m, examples, guards, said_of}
use Rattle.checker.proofs.Whole.{accepted_lawful}

pub examples_said : map said_of examples ≡ map (λ (e : Example). e.says) examples
unfolding ones signed_of extend_of register_written fits decode_of read_as read_fields read_of is_code_size is_data_size is_placed is_apart slot_of relative_of region_of seen word_view is_mask_of mask_in is_merge_of view_at view_before broken10 broken11 is_guarded offset_of fits_data fits_code is_contiguous broken12 broken22 broken25 broken13 broken14 target_of is_entry lands broken15 is_word_broken is_file_broken check_of
examples_said = refl

pub guards_said : map said_of guards ≡ map (λ (e : Example). e.says) guards
unfolding ones signed_of extend_of register_written fits decode_of read_as read_fields read_of is_code_size is_data_size is_placed is_apart slot_of relative_of region_of seen word_view is_mask_of mask_in is_merge_of view_at view_before broken10 broken11 is_guarded offset_of fits_data fits_code is_contiguous broken12 broken22 broken25 broken13 broken14 target_of is_entry lands broken15 is_word_broken is_file_broken check_of
guards_said = refl

-- C9, the row after the sixteen refusals
pub m_accepted : check_of layout_m length_m module_m ≡ accepted
m_accepted = ap (λ l. get_or l 16 accepted) examples_said

pub m_lawful : Lawful layout_m length_m module_m
m_lawful = accepted_lawful layout_m length_m module_m m_accepted
