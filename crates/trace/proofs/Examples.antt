-- Closed cases: the request's whole example as text and as list, texts and lists that are malformed, a buffer that is
-- just long enough, clocks joined and parted.
use Prim.Native.Nat.{ℕ}
use mathlib.Core.Bool.{true, false}
use mathlib.Core.Path.{◌≡◌, refl}
use mathlib.Core.List.{List, [], ◌∷◌, ◌++◌}
use Rattle.std.specs.Prelude.{Ok, Err}
use lib.ListN.{take}
use Rattle.decimal.specs.Digits.{digits_of, digits_from}
use Rattle.decimal.specs.Field.{rest_of, field_from}
use Rattle.answer.specs.declared.Refusal.TheVariants.{Room as NoRoom}
use Rattle.trace.specs.Text.{text_of, first_line}
use Rattle.trace.specs.Line.{line_at, fields_at, item_at, triple_at, pair_at}
use Rattle.trace.specs.Lines.{lines_by, lines_from}
use Rattle.trace.specs.Contents.{passed, malformed_at, ended, items_in, check_in, starts_with, contents_of}
use Rattle.trace.specs.Filling.{filled_of, written_by}
use Rattle.trace.specs.Listing.{list_of, clocks_from, call_from, entry_at, listing_by, listing_at, listing_of}
use Rattle.trace.specs.Shrinking.{merged_of, parts_of, cut_of, shrunk_of}
use Rattle.trace.specs.declared.item.Item.{Item}
use Rattle.trace.specs.declared.item.Item.TheVariants.{Write, Read, Clocks}

-- chime>1, W>193>24>0, R>192>32>0, C>17>16
abbrev pub example : List ℕ
example =
    99 ∷ 104 ∷ 105 ∷ 109 ∷ 101 ∷ 9 ∷ 49 ∷ 10 ∷ 87 ∷ 9 ∷ 49 ∷ 57 ∷ 51 ∷ 9 ∷ 50 ∷ 52 ∷ 9 ∷ 48 ∷ 10
    ∷ 82 ∷ 9 ∷ 49 ∷ 57 ∷ 50 ∷ 9 ∷ 51 ∷ 50 ∷ 9 ∷ 48 ∷ 10 ∷ 67 ∷ 9 ∷ 49 ∷ 55 ∷ 9 ∷ 49 ∷ 54 ∷ 10 ∷ []

abbrev pub items : List Item
items = Write 193 24 0 ∷ Read 192 32 0 ∷ Clocks 17 16 ∷ []

pub example-text : text_of items ≡ example
unfolding digits_of digits_from
example-text = refl

pub example-held : contents_of example ≡ record { items = items; check = passed }
unfolding lines_from lines_by items_in check_in starts_with line_at fields_at item_at triple_at pair_at rest_of field_from
example-held = refl

pub largest : digits_of 4294967295 ≡ 52 ∷ 50 ∷ 57 ∷ 52 ∷ 57 ∷ 54 ∷ 55 ∷ 50 ∷ 57 ∷ 53 ∷ []
unfolding digits_of digits_from
largest = refl

-- the first line alone, an empty text, and a first line without its LF
pub header : contents_of first_line ≡ ended passed
unfolding lines_from lines_by items_in check_in starts_with
header = refl

pub empty : (contents_of []).check ≡ malformed_at 1
unfolding starts_with
empty = refl

pub header-cut : (contents_of (take 7 first_line)).check ≡ malformed_at 1
unfolding starts_with
header-cut = refl

-- the example without its last LF
pub last-cut : (contents_of (take 37 example)).check ≡ malformed_at 4
unfolding lines_from lines_by items_in check_in starts_with line_at fields_at item_at triple_at pair_at rest_of field_from
last-cut = refl

-- C>17>016, C>17>0, C>32>1 and an empty line
pub leading-zero : (contents_of (first_line ++ (67 ∷ 9 ∷ 49 ∷ 55 ∷ 9 ∷ 48 ∷ 49 ∷ 54 ∷ 10 ∷ []))).check ≡ malformed_at 2
unfolding lines_from lines_by items_in check_in starts_with line_at fields_at item_at pair_at rest_of field_from
leading-zero = refl

pub no-clocks : (contents_of (first_line ++ (67 ∷ 9 ∷ 49 ∷ 55 ∷ 9 ∷ 48 ∷ 10 ∷ []))).check ≡ malformed_at 2
unfolding lines_from lines_by items_in check_in starts_with line_at fields_at item_at pair_at rest_of field_from
no-clocks = refl

pub high-level : (contents_of (first_line ++ (67 ∷ 9 ∷ 51 ∷ 50 ∷ 9 ∷ 49 ∷ 10 ∷ []))).check ≡ malformed_at 2
unfolding lines_from lines_by items_in check_in starts_with line_at fields_at item_at pair_at rest_of field_from
high-level = refl

pub empty-line : (contents_of (first_line ++ (10 ∷ []))).check ≡ malformed_at 2
unfolding lines_from lines_by items_in check_in starts_with line_at fields_at
empty-line = refl

-- the same calls as a list, which is read as them; a byte short, it is outside from its last item on
abbrev pub list : List ℕ
list = 87 ∷ 0 ∷ 193 ∷ 0 ∷ 24 ∷ 0 ∷ 0 ∷ 0 ∷ 82 ∷ 0 ∷ 192 ∷ 0 ∷ 32 ∷ 0 ∷ 0 ∷ 0 ∷ 67 ∷ 17 ∷ 0 ∷ 0 ∷ 16 ∷ 0 ∷ 0 ∷ 0 ∷ []

pub list-bytes : list_of items ≡ list
list-bytes = refl

pub list_held : listing_of list ≡ record { items = items; sound = true }
unfolding listing_at listing_by entry_at call_from clocks_from
list_held = refl

pub list-cut : (listing_of (take 23 list)).sound ≡ false
unfolding listing_at listing_by entry_at call_from clocks_from
list-cut = refl

-- no clocks, levels 32, an address of 256, a vector with a value
pub list-no-clocks : (listing_of (67 ∷ 17 ∷ 0 ∷ 0 ∷ 0 ∷ 0 ∷ 0 ∷ 0 ∷ [])).sound ≡ false
unfolding listing_at listing_by entry_at call_from clocks_from
list-no-clocks = refl

pub list-high-level : (listing_of (67 ∷ 32 ∷ 0 ∷ 0 ∷ 1 ∷ 0 ∷ 0 ∷ 0 ∷ [])).sound ≡ false
unfolding listing_at listing_by entry_at call_from clocks_from
list-high-level = refl

pub list-far : (listing_of (87 ∷ 0 ∷ 0 ∷ 1 ∷ 0 ∷ 0 ∷ 0 ∷ 0 ∷ [])).sound ≡ false
unfolding listing_at listing_by entry_at call_from clocks_from
list-far = refl

pub list-vector : (listing_of (65 ∷ 0 ∷ 0 ∷ 0 ∷ 1 ∷ 0 ∷ 0 ∷ 0 ∷ [])).sound ≡ false
unfolding listing_at listing_by entry_at call_from clocks_from
list-vector = refl

-- the example's text has 38 bytes: a buffer of 38 is filled, one of 37 is 12
pub just-fits : written_by list 38 ≡ Ok 38
unfolding filled_of listing_at listing_by entry_at call_from clocks_from digits_of digits_from
just-fits = refl

pub too_long : written_by list 37 ≡ Err NoRoom
unfolding filled_of listing_at listing_by entry_at call_from clocks_from digits_of digits_from
too_long = refl

-- equal levels are joined, but not across a read; past the most, a full line and the rest, if any
pub shrunk-joined : shrunk_of (Clocks 17 9 ∷ Clocks 17 1 ∷ Read 192 32 0 ∷ Clocks 17 2 ∷ Clocks 16 3 ∷ [])
    ≡ Clocks 17 10 ∷ Read 192 32 0 ∷ Clocks 17 2 ∷ Clocks 16 3 ∷ []
unfolding shrunk_of cut_of merged_of parts_of
shrunk-joined = refl

pub shrunk-past : shrunk_of (Clocks 17 4294967294 ∷ Clocks 17 3 ∷ []) ≡ Clocks 17 4294967295 ∷ Clocks 17 2 ∷ []
unfolding shrunk_of cut_of merged_of parts_of
shrunk-past = refl

pub shrunk-full : shrunk_of (Clocks 0 4294967295 ∷ Clocks 0 4294967290 ∷ Clocks 0 5 ∷ []) ≡ Clocks 0 4294967295 ∷ Clocks 0 4294967295 ∷ []
unfolding shrunk_of cut_of merged_of parts_of
shrunk-full = refl
