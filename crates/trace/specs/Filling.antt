-- A text in a lent buffer (document 02, M-109): '9 when a list item is outside M-100's ranges; else 12 exactly when the
-- text is longer than the buffer. Either way the buffer keeps its bytes, as do those past a text.'
use Rattle.std.specs.Prelude.{ℕ, Bool, true, false, List, ◌++◌, Result, Ok, Err, leb, length, drop}
use Rattle.choice.specs.Pick.{pick}
use Rattle.answer.specs.declared.Refusal.{Refusal}
use Rattle.answer.specs.declared.Refusal.TheVariants.{Malformed, Room as NoRoom}
use Rattle.trace.specs.Contents.{Check, contents_of}
use Rattle.trace.specs.Listing.{listing_of}
use Rattle.trace.specs.Shrinking.{shrunk_of}
use Rattle.trace.specs.Text.{text_of}
use Rattle.trace.specs.declared.item.Item.{Item}

-- what is answered for the text of items, or for none, to a buffer of this length
unfoldable pub filled_of : Bool → List Item → ℕ → Result ℕ Refusal
filled_of sound is room =
    pick sound (pick (leb (length (text_of is)) room) (Ok (length (text_of is))) (Err NoRoom)) (Err Malformed)

-- bytes over the first of a buffer
abbrev pub over : List ℕ → List ℕ → List ℕ
over bytes buffer = bytes ++ drop (length bytes) buffer

-- the buffer after it
unfoldable pub buffer_of : Bool → List Item → List ℕ → List ℕ
buffer_of sound is buffer =
    pick sound (pick (leb (length (text_of is)) (length buffer)) (over (text_of is) buffer) buffer) buffer

-- the writer's, of a list
abbrev pub written_by : List ℕ → ℕ → Result ℕ Refusal
written_by list room = filled_of (listing_of list).sound (listing_of list).items room

abbrev pub buffer_written : List ℕ → List ℕ → List ℕ
buffer_written list buffer = buffer_of (listing_of list).sound (listing_of list).items buffer

-- the shrink's, of a text: '9 for a malformed text and then 12 as above'
abbrev pub is_well : Check → Bool
is_well (Ok done) = true
is_well (Err bad) = false

abbrev pub shrunk_by : List ℕ → ℕ → Result ℕ Refusal
shrunk_by text room = filled_of (is_well (contents_of text).check) (shrunk_of (contents_of text).items) room

abbrev pub buffer_shrunk : List ℕ → List ℕ → List ℕ
buffer_shrunk text buffer = buffer_of (is_well (contents_of text).check) (shrunk_of (contents_of text).items) buffer
