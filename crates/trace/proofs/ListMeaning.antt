-- A list is read as what it is: the items whose bytes it has (`Lists`).
use Prim.Native.Nat.{ℕ, zero, suc, ◌+◌, ◌*◌, ◌/◌, ◌%◌, ◌<◌, ◌≤◌}
use mathlib.Core.Path.{◌≡◌, refl, ap, sym, subst, ◌∙◌}
use mathlib.Core.Bool.{true, false}
use mathlib.Core.List.{List, [], ◌∷◌, ◌++◌}
use native.Mathlib.Omega.{arith}
use native.Mathlib.Numerals.{add-one}
use lib.Dec.{ltb, eqb}
use lib.ListN.{length, get_or, drop, length-drop, drop_of_length-le}
use lib.Pow.{are_bytes}
use lib.Seq.{drop-cons, drop-drop, get_or-drop}
use borrow.Author.Tests.{le-ltb, ltb-true, ltb-false, eq-eqb, ne_eqb, eqb-true}
use Rattle.std.specs.Prelude.{Option, Some, None}
use Rattle.choice.proofs.Picks.{split, clash, pick_ind}
use Rattle.trace.specs.Listing.{entry_of, bytes_of, list_of, short_at, long_at, clocks_from, call_from, entry_from, entry_at, Listing, with_entry, listing_at, listing_of}
use Rattle.trace.specs.Promises.{Lists}
use Rattle.trace.specs.Text.{InRange, AllInRange}
use Rattle.trace.specs.declared.item.Item.{Item}
use Rattle.trace.specs.declared.item.Item.TheVariants.{Write, Read, Vector, Clocks}
use Rattle.trace.proofs.EntryLaws.{entry-there, entry-within, listing-entry, listing-over}

-- ---- what an entry's numbers are read as
abbrev Stands : ℕ → ℕ → ℕ → ℕ → Option Item → Type 0
Stands letter n place amount (Some i) = InRange i × (entry_of letter n place amount ≡ bytes_of i)
Stands letter n place amount None = Unit {0}

module _ (letter n place amount : ℕ) (byte : n ≤ 255) (top : amount ≤ 4294967295) where
  clocks-stand : eqb letter 67 ≡ true → Stands letter n place amount (clocks_from n place amount)
  unfolding clocks_from
  clocks-stand w =
      pick_ind (Stands letter n place amount) (ltb 31 n) _ _ (λ h. tt) (λ h.
      pick_ind (Stands letter n place amount) (eqb place 0) _ _ (λ p.
      pick_ind (Stands letter n place amount) (eqb amount 0) _ _ (λ z. tt) (λ z.
      ((omega (arith, ltb-false 31 n h), some z, top), rw (eqb-true letter 67 w, eqb-true place 0 p))))
      (λ p. tt))
    where
      some : eqb amount 0 ≡ false → 1 ≤ amount
      some z = split (ltb 0 amount) (λ h. omega (arith, ltb-true 0 amount h)) (λ h. clash (eq-eqb amount 0 (omega (arith, ltb-false 0 amount h))) z)

  call-stands : Stands letter n place amount (call_from letter n place amount)
  unfolding call_from
  call-stands =
      pick_ind (Stands letter n place amount) (ltb 255 place) _ _ (λ h. tt) (λ h.
      pick_ind (Stands letter n place amount) (ltb 255 amount) _ _ (λ g. tt) (λ g.
      let p = ltb-false 255 place h in
      let a = ltb-false 255 amount g in
      pick_ind (Stands letter n place amount) (eqb letter 87) _ _ (λ w. ((p, a, byte), rw (eqb-true letter 87 w))) (λ w.
      pick_ind (Stands letter n place amount) (eqb letter 82) _ _ (λ r. ((p, a, byte), rw (eqb-true letter 82 r))) (λ r.
      pick_ind (Stands letter n place amount) (eqb letter 65) _ _ (λ v.
      pick_ind (Stands letter n place amount) (eqb amount 0) _ _ (λ z. ((p, byte), rw (eqb-true letter 65 v, eqb-true amount 0 z))) (λ z. tt))
      (λ v. tt)))))

  entry-stands : Stands letter n place amount (entry_from letter n place amount)
  entry-stands = pick_ind (Stands letter n place amount) (eqb letter 67) _ _ (λ w. clocks-stand w) (λ w. call-stands)

-- ---- the eight bytes at a place
here : (l : List ℕ) (at : ℕ) → at < length l → drop at l ≡ get_or l at 0 ∷ drop (at + 1) l
here l at h = rw add-one (drop-cons l at 0 h)

next : (l : List ℕ) (at k : ℕ) → at + k < length l → drop (at + k) l ≡ get_or l (at + k) 0 ∷ drop (at + suc k) l
next l at k h = let s : at + k + 1 ≡ at + suc k = omega arith in here l (at + k) h ∙ ap (λ (x : ℕ). get_or l (at + k) 0 ∷ drop x l) s

byte_at : (l : List ℕ) (k : ℕ) → are_bytes l ≡ true → get_or l k 0 < 256
byte_at [] k h = omega arith
byte_at (x ∷ l) zero h = split (ltb x 256) (λ e. ltb-true x 256 e) (λ e. clash h (rw e))
byte_at (x ∷ l) (suc k) h = split (ltb x 256) (λ e. byte_at l k (rw e at h)) (λ e. clash h (rw e))

-- two bytes and four, put together and taken apart again
low-high : (a b : ℕ) → a < 256 → b < 256 → ((a + 256 * b) % 256 ≡ a) × ((a + 256 * b) / 256 % 256 ≡ b)
low-high a b p q = (omega arith, omega arith)

abbrev four : ℕ → ℕ → ℕ → ℕ → ℕ
four a b c d = a + 256 * b + 65536 * c + 16777216 * d

apart : (a b c d : ℕ) → a < 256 → b < 256 → c < 256 → d < 256
    → (four a b c d % 256 ≡ a) × (four a b c d / 256 % 256 ≡ b) × (four a b c d / 65536 % 256 ≡ c) × (four a b c d / 16777216 % 256 ≡ d) × (four a b c d ≤ 4294967295)
apart a b c d p q r s = (omega arith, omega arith, omega arith, omega arith, omega arith)

base : (x : ℕ) → x % 256 + 256 * (x / 256) ≡ x
base x = omega arith

small : (x : ℕ) → x ≤ 255 → x % 256 ≡ x
small x h = omega arith

summed : (x a y b z c w d : ℕ) → a + 256 * y ≡ x → b + 256 * z ≡ y → c + 256 * w ≡ z → d ≡ w → four a b c d ≡ x
summed x a y b z c w d p q r s = omega arith

together : (x : ℕ) → x ≤ 4294967295 → four (x % 256) (x / 256 % 256) (x / 65536 % 256) (x / 16777216 % 256) ≡ x
together x h =
    let b : x / 65536 ≡ x / 256 / 256 = omega arith in
    let c : x / 16777216 ≡ x / 256 / 256 / 256 = omega arith in
    let t : x / 256 / 256 / 256 ≤ 255 = omega arith in
    rw (b, c) (summed x _ _ _ _ _ _ _ (base x) (base (x / 256)) (base (x / 256 / 256)) (small (x / 256 / 256 / 256) t))

module _ (l : List ℕ) (at : ℕ) where
  eight : at + 8 ≤ length l
      → drop at l ≡ get_or l at 0 ∷ get_or l (at + 1) 0 ∷ get_or l (at + 2) 0 ∷ get_or l (at + 3) 0 ∷ get_or l (at + 4) 0
      ∷ get_or l (at + 5) 0 ∷ get_or l (at + 6) 0 ∷ get_or l (at + 7) 0 ∷ drop (at + 8) l
  eight h =
      let p1 = next l at 1 (omega arith) in
      let p2 = next l at 2 (omega arith) in
      let p3 = next l at 3 (omega arith) in
      let p4 = next l at 4 (omega arith) in
      let p5 = next l at 5 (omega arith) in
      let p6 = next l at 6 (omega arith) in
      let p7 = next l at 7 (omega arith) in
      here l at (omega arith) ∙ rw (p1, p2, p3, p4, p5, p6, p7)

  -- the bytes are those of the numbers
  entry-bytes : are_bytes l ≡ true → at + 8 ≤ length l
      → drop at l ≡ entry_of (get_or l at 0) (get_or l (at + 1) 0) (short_at l at) (long_at l at) ++ drop (at + 8) l
  entry-bytes b h =
      let s = low-high (get_or l (at + 2) 0) (get_or l (at + 3) 0) (byte_at l (at + 2) b) (byte_at l (at + 3) b) in
      let f = apart (get_or l (at + 4) 0) (get_or l (at + 5) 0) (get_or l (at + 6) 0) (get_or l (at + 7) 0)
      (byte_at l (at + 4) b) (byte_at l (at + 5) b) (byte_at l (at + 6) b) (byte_at l (at + 7) b) in
      eight h ∙ rw (s.0, s.1, f.0, f.1, f.2, f.3)

  -- an entry that is read as an item has its bytes
  entry-is : are_bytes l ≡ true → (i : Item) → entry_at l at ≡ Some i → InRange i × (drop at l ≡ bytes_of i ++ drop (at + 8) l)
  entry-is b i e =
      let h = entry-within l at i e in
      let f = apart (get_or l (at + 4) 0) (get_or l (at + 5) 0) (get_or l (at + 6) 0) (get_or l (at + 7) 0)
      (byte_at l (at + 4) b) (byte_at l (at + 5) b) (byte_at l (at + 6) b) (byte_at l (at + 7) b) in
      let q : entry_from (get_or l at 0) (get_or l (at + 1) 0) (short_at l at) (long_at l at) ≡ Some i = entry-there l at _ h refl ∙ e in
      let s = subst (Stands (get_or l at 0) (get_or l (at + 1) 0) (short_at l at) (long_at l at)) q
      (entry-stands (get_or l at 0) (get_or l (at + 1) 0) (short_at l at) (long_at l at) (omega (arith, byte_at l (at + 1) b)) f.4) in
      (s.0, entry-bytes b h ∙ ap (λ (x : List ℕ). x ++ drop (at + 8) l) s.1)

  -- and the bytes of an item are read as it
  read-entry : (letter n place amount : ℕ) (s : List ℕ) → place ≤ 255 → amount ≤ 4294967295 → drop at l ≡ entry_of letter n place amount ++ s
      → (entry_at l at ≡ entry_from letter n place amount) × (at + 8 ≤ length l) × (drop (at + 8) l ≡ s)
  read-entry letter n place amount s p a e =
      let k = length-drop at l in
      let m : at + 8 ≤ length l = omega (arith, ap length e) in
      let z : at + 0 ≡ at = omega arith in
      let g : (j : ℕ) → get_or l (at + j) 0 ≡ get_or (entry_of letter n place amount ++ s) j 0 = λ j. sym (get_or-drop at l j 0) ∙ ap (λ (x : List ℕ). get_or x j 0) e in
      let b0 : get_or l at 0 ≡ letter = ap (λ (x : ℕ). get_or l x 0) (sym z) ∙ g 0 in
      let low : place % 256 + 256 * (place / 256 % 256) ≡ place = omega arith in
      let short : short_at l at ≡ place = rw (g 2, g 3) low in
      let long : long_at l at ≡ amount = rw (g 4, g 5, g 6, g 7) (together amount a) in
      (sym (entry-there l at (entry_from letter n place amount) m (rw (b0, g 1, short, long))), m, sym (drop-drop 8 at l) ∙ ap (drop 8) e)

  abbrev Read-back : Item → List ℕ → Type 0
  Read-back i s = (entry_at l at ≡ Some i) × (at + 8 ≤ length l) × (drop (at + 8) l ≡ s)

  read_as : {e : Option Item} (i : Item) (s : List ℕ) → e ≡ Some i → (entry_at l at ≡ e) × (at + 8 ≤ length l) × (drop (at + 8) l ≡ s) → Read-back i s
  read_as i s q r = (r.0 ∙ q, r.1, r.2)

  entry_found : (i : Item) (s : List ℕ) → InRange i → drop at l ≡ bytes_of i ++ s → Read-back i s
  unfolding clocks_from call_from
  entry_found (Write a v n) s h e = read_as (Write a v n) s (rw (le-ltb 255 a h.0, le-ltb 255 v h.1)) (read-entry 87 n a v s h.0 (omega (arith, h.1)) e)
  entry_found (Read a v n) s h e = read_as (Read a v n) s (rw (le-ltb 255 a h.0, le-ltb 255 v h.1)) (read-entry 82 n a v s h.0 (omega (arith, h.1)) e)
  entry_found (Vector k n) s h e = read_as (Vector k n) s (rw (le-ltb 255 k h.0)) (read-entry 65 n k 0 s h.0 (omega arith) e)
  entry_found (Clocks m c) s h e =
      read_as (Clocks m c) s (rw (le-ltb 31 m h.0, ne_eqb c 0 (λ z. omega (arith, h.1)))) (read-entry 67 m 0 c s (omega arith) h.2 e)

-- ---- the whole list
record Sound (s : List ℕ) (r : Listing) : Type 0 where
  range : AllInRange r.items
  shown : r.sound ≡ true → s ≡ list_of r.items

module _ (list : List ℕ) (b : are_bytes list ≡ true) where
  over : (at : ℕ) → length list ≤ at → Sound (drop at list) (listing_at list at)
  over at h = rw (listing-over list at h) (record { range = tt; shown = λ e. drop_of_length-le list h })

  entry-holds : (at : ℕ) → at < length list → Sound (drop (at + 8) list) (listing_at list (at + 8)) → (e : Option Item) → entry_at list at ≡ e
      → Sound (drop at list) (listing_at list at)
  entry-holds at h r (Some i) e =
      let q = entry-is list at b i e in
      rw (listing-entry list at (Some i) h (sym e)) (record {
        range = (q.0, r.range);
        shown = λ s. q.1 ∙ ap (λ (x : List ℕ). bytes_of i ++ x) (r.shown s);
      })
  entry-holds at h r None e = rw (listing-entry list at None h (sym e)) (record { range = tt; shown = λ s. clash s refl })

  holds : (n at : ℕ) → length list ≤ at + n → Sound (drop at list) (listing_at list at)
  holds zero at h = over at (omega arith)
  holds (suc n) at h =
      split (ltb at (length list))
      (λ e. entry-holds at (ltb-true at (length list) e) (holds n (at + 8) (omega arith)) (entry_at list at) refl)
      (λ e. over at (ltb-false at (length list) e))

listing-found : (list : List ℕ) (at : ℕ) (is : List Item) → AllInRange is → drop at list ≡ list_of is → listing_at list at ≡ record { items = is; sound = true }
listing-found list at [] h e = listing-over list at (omega (arith, length-drop at list, ap length e))
listing-found list at (i ∷ is) h e =
    let r = entry_found list at i (list_of is) h.0 e in
    listing-entry list at (Some i) (omega (arith, r.1)) (sym r.0) ∙ ap (with_entry (Some i)) (listing-found list (at + 8) is h.1 r.2)

pub lists : (list : List ℕ) → are_bytes list ≡ true → Lists list
lists list b = record {
  taken = λ s. let h = holds list b (length list) 0 (omega arith) in (h.range, h.shown s);
  found = λ is h e. listing-found list 0 is h e;
}

-- the list of items is read as them
pub list-found : (is : List Item) → AllInRange is → listing_of (list_of is) ≡ record { items = is; sound = true }
list-found is h = listing-found (list_of is) 0 is h refl
