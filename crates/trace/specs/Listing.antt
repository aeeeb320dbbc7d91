-- A list of items as a rig gives it (document 02, M-109: 'the list's form is yours'): eight bytes an item. What such a
-- list holds is the items up to the first entry that is outside M-100's ranges, and whether there is none; that this is
-- the inverse of `list_of` is stated as `Lists` in specs/Promises.antt.
use Rattle.std.specs.Prelude.{ℕ, zero, suc, ◌+◌, ◌*◌, ◌-◌, ◌/◌, ◌%◌, Bool, true, false, Option, Some, None, List, [], ◌∷◌, ◌++◌, leb, ltb, eqb, length, get_or}
use Rattle.choice.specs.Pick.{pick}
use Rattle.trace.specs.declared.item.Item.{Item}
use Rattle.trace.specs.declared.item.Item.TheVariants.{Write, Read, Vector, Clocks}

-- a number in two bytes and in four, low byte first
abbrev pub short_bytes : ℕ → List ℕ
short_bytes x = x % 256 ∷ x / 256 % 256 ∷ []

abbrev pub long_bytes : ℕ → List ℕ
long_bytes x = x % 256 ∷ x / 256 % 256 ∷ x / 65536 % 256 ∷ x / 16777216 % 256 ∷ []

-- the letter; the answer or the level byte; the address or the vector; the value or the clocks
abbrev pub entry_of : ℕ → ℕ → ℕ → ℕ → List ℕ
entry_of letter n place amount = letter ∷ n ∷ (short_bytes place ++ long_bytes amount)

-- W, R, A, C; what an item has no number for is 0
abbrev pub bytes_of : Item → List ℕ
bytes_of (Write a v n) = entry_of 87 n a v
bytes_of (Read a v n) = entry_of 82 n a v
bytes_of (Vector k n) = entry_of 65 n k 0
bytes_of (Clocks l c) = entry_of 67 l 0 c

abbrev pub list_of : List Item → List ℕ
list_of [] = []
list_of (i ∷ is) = bytes_of i ++ list_of is

-- the two numbers of the entry at a place
abbrev pub short_at : List ℕ → ℕ → ℕ
short_at list at = get_or list (at + 2) 0 + 256 * get_or list (at + 3) 0

abbrev pub long_at : List ℕ → ℕ → ℕ
long_at list at =
    get_or list (at + 4) 0 + 256 * get_or list (at + 5) 0 + 65536 * get_or list (at + 6) 0 + 16777216 * get_or list (at + 7) 0

-- clocks: levels up to 31, at least one clock, and no address
unfoldable pub clocks_from : ℕ → ℕ → ℕ → Option Item
clocks_from n place amount =
    pick (ltb 31 n) None (pick (eqb place 0) (pick (eqb amount 0) None (Some (Clocks n amount))) None)

-- a call: address or vector and value up to 255, and no value with a vector
unfoldable pub call_from : ℕ → ℕ → ℕ → ℕ → Option Item
call_from letter n place amount =
    pick (ltb 255 place) None
    (pick (ltb 255 amount) None
    (pick (eqb letter 87) (Some (Write place amount n))
    (pick (eqb letter 82) (Some (Read place amount n))
    (pick (eqb letter 65) (pick (eqb amount 0) (Some (Vector place n)) None)
    None))))

abbrev pub entry_from : ℕ → ℕ → ℕ → ℕ → Option Item
entry_from letter n place amount = pick (eqb letter 67) (clocks_from n place amount) (call_from letter n place amount)

-- the entry at a place; fewer than eight bytes are none
unfoldable pub entry_at : List ℕ → ℕ → Option Item
entry_at list at =
    pick (leb (at + 8) (length list))
    (entry_from (get_or list at 0) (get_or list (at + 1) 0) (short_at list at) (long_at list at))
    None

pub record Listing : Type 0 where
  pub items : List Item
  pub sound : Bool

-- no item more
abbrev pub listed : Bool → Listing
listed b = record { items = []; sound = b }

abbrev pub with_entry : Option Item → Listing → Listing
with_entry (Some i) r = record { items = i ∷ r.items; sound = r.sound }
with_entry None r = listed false

-- at most n entries
unfoldable pub listing_by : ℕ → List ℕ → ℕ → Listing
listing_by zero list at = listed true
listing_by (suc n) list at =
    pick (ltb at (length list)) (with_entry (entry_at list at) (listing_by n list (at + 8))) (listed true)

-- from a place on; every entry has a byte
unfoldable pub listing_at : List ℕ → ℕ → Listing
listing_at list at = listing_by (length list - at) list at

abbrev pub listing_of : List ℕ → Listing
listing_of list = listing_at list 0
