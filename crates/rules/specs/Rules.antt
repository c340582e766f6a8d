-- The rules of words as tests, 10 to 15, 22 and 25 (document 01, Module and its guards; Refusal table; document 02, Tickets 5 and 7); 8 is that there is no view, 9 is `barred` of the view. img is the image, i a word's index.
use Rattle.std.specs.Prelude.{ℕ, ◌+◌, ◌-◌, ◌*◌, ◌/◌, ◌%◌, ◌≤◌, Bool, false, cond, not, ◌&&◌, ◌||◌, ◌≡◌, List, Option, Some, None, is_some, eqb, leb, ltb, ℤ, pos, negsuc, length, count_ones}
use Rattle.word.specs.Bytes.{load_of, longest}
use Rattle.isa.specs.Width.{bytes_of}
use Rattle.branch.specs.Branch.{relative_of, region_of}
use Rattle.layout.specs.declared.Layout.{Layout}
use Rattle.view.specs.declared.View.{View}
use Rattle.view.specs.View.{word_view, passes, is_relative, is_region, is_register, is_branch, needs_guard, is_base}
use Rattle.view.specs.Guard.{is_mask_of, mask_in, is_merge_of}
use Rattle.rules.specs.Offset.{offset_of}

-- what the rules of layout and image, 1 to 7, leave to those of words
pub record Sized (l : Layout) (img : List ℕ) : Type 0 where
  pub length_is : length img ≡ l.code_size
  pub least : 16 ≤ l.code_size
  pub words : l.code_size % 4 ≡ 0
  pub aligned : l.code_base % 4 ≡ 0
  pub inside : l.code_base + l.code_size ≤ longest

-- word i
abbrev pub word_at : List ℕ → ℕ → ℕ
word_at img i = load_of 4 img (4 * i)

unfoldable pub view_at : List ℕ → ℕ → Option View
view_at img i = word_view (word_at img i)

-- the word before word i; none before the first
unfoldable pub view_before : List ℕ → ℕ → Option View
view_before img i = cond (leb 1 i) (view_at img (i - 1)) None

-- ---- rules of one word

-- writes register 26 or 27
unfoldable pub broken10 : View → Bool
broken10 v = is_base v.written

-- JALR with rd = rs, or a linking branch with rs = 31
unfoldable pub broken11 : View → Bool
broken11 v = v.link && (is_register v.flow && eqb v.rd v.rs || is_relative v.flow && eqb v.rs 31)

-- ---- guards

-- a is ANDI R,S,m and b is OR R,R,base, and R isn't 0, 26 or 27
unfoldable pub is_guarded : ℕ → ℕ → ℕ → ℕ → Bool
is_guarded a b base r = is_mask_of r a && (is_merge_of base r b && (not (eqb r 0) && (not (eqb r 26) && not (eqb r 27))))

-- the two words before word i are so
abbrev pub is_guarded_at : List ℕ → ℕ → ℕ → ℕ → Bool
is_guarded_at img i base r = is_guarded (word_at img (i - 2)) (word_at img (i - 1)) base r

-- and this is m
abbrev pub mask_at : List ℕ → ℕ → ℕ
mask_at img i = mask_in (word_at img (i - 2))

-- both words stand in the bundle of word i
abbrev pub in_bundle : ℕ → Bool
in_bundle i = leb 2 (i % 4)

-- a guard stands before word i: a is word i - 2 and b word i - 1, in its bundle
abbrev pub has_guard : List ℕ → ℕ → ℕ → ℕ → Bool
has_guard img i base r = in_bundle i && is_guarded_at img i base r

-- its mask, where there is one
unfoldable pub guard_mask : List ℕ → ℕ → ℕ → ℕ → Option ℕ
guard_mask img i base r = cond (has_guard img i base r) (Some (mask_at img i)) None

-- mask m and offset are multiples of the width w, the offset isn't negative, and m + offset + w is at most the data size
unfoldable pub fits_data : ℕ → ℕ → ℤ → ℕ → Bool
fits_data size m (pos o) w = eqb (m % w) 0 && (eqb (o % w) 0 && leb (m + o + w) size)
fits_data size m (negsuc o) w = false

-- mask m and width w make a power of two: of that sum one bit is 1
unfoldable pub is_contiguous : ℕ → ℕ → Bool
is_contiguous m w = eqb (count_ones (m + w)) 1

-- m is a multiple of 16 and at most code size - 16
unfoldable pub fits_code : ℕ → ℕ → Bool
fits_code size m = eqb (m % 16) 0 && leb (m + 16) size

-- access whose guard words are missing or different
unfoldable pub broken12 : List ℕ → ℕ → View → Bool
broken12 img i v = is_some v.width && not (has_guard img i 26 v.rs)

-- access whose guard words are right, but the mask and the offset don't fit
unfoldable pub broken22 : ℕ → List ℕ → ℕ → View → Bool
broken22 size img i v =
    is_some v.width && (has_guard img i 26 v.rs && not (fits_data size (mask_at img i) (offset_of v.value) (bytes_of v.width)))

-- access whose guard words are right, but the mask has holes
unfoldable pub broken25 : List ℕ → ℕ → View → Bool
broken25 img i v = is_some v.width && (has_guard img i 26 v.rs && not (is_contiguous (mask_at img i) (bytes_of v.width)))

-- the number of the first of the three that an access breaks, 0 where it breaks none
unfoldable pub data_refusal : ℕ → List ℕ → ℕ → View → ℕ
data_refusal size img i v = cond (broken12 img i v) 12 (cond (broken22 size img i v) 22 (cond (broken25 img i v) 25 0))

-- JR or JALR without fitting guard
unfoldable pub broken13 : ℕ → List ℕ → ℕ → View → Bool
broken13 size img i v = is_register v.flow && not (has_guard img i 27 v.rs && fits_code size (mask_at img i))

-- ---- branches

-- branch or jump straight after a branch or jump: `after` says whether the word before is one
unfoldable pub broken14 : Bool → View → Bool
broken14 after v = is_branch v && after

-- the direct target of the branch or jump at pc
unfoldable pub target_of : View → ℕ → ℕ
target_of v pc = cond (is_relative v.flow) (relative_of pc v.value) (region_of pc v.value)

-- word i is not, and does not come just before, an access, JR or JALR
unfoldable pub is_entry : List ℕ → ℕ → Bool
is_entry img i = not (passes needs_guard (view_at img i)) && not (passes needs_guard (view_at img (i + 1)))

-- target t is inside the code, not on the last word, and an entry
unfoldable pub lands : Layout → List ℕ → ℕ → Bool
lands l img t =
    leb l.code_base t
    && (ltb t (l.code_base + l.code_size)
    && (not (eqb (t + 4) (l.code_base + l.code_size)) && is_entry img ((t - l.code_base) / 4)))

-- direct target where a branch may not lead
unfoldable pub broken15 : Layout → List ℕ → ℕ → View → Bool
broken15 l img i v = (is_relative v.flow || is_region v.flow) && not (lands l img (target_of v (l.code_base + 4 * i)))
