-- Writer and shrink keep their promises.
use Prim.Native.Nat.{ℕ, ◌≤◌}
use mathlib.Core.Path.{◌≡◌, refl, ap, sym, ◌∙◌}
use mathlib.Core.Bool.{true}
use mathlib.Core.List.{List}
use lib.ListN.{length, drop}
use lib.Pow.{are_bytes}
use lib.Seq.{take_at}
use borrow.Author.Tests.{le-leb}
use Rattle.trace.specs.Contents.{passed, contents_of}
use Rattle.trace.specs.Filling.{buffer_of}
use Rattle.trace.specs.Listing.{Listing, list_of, listing_of}
use Rattle.trace.specs.Meaning.{IsText}
use Rattle.trace.specs.Promises.{expanded_of, Writes, Rewrites, SameText, Shrinks}
use Rattle.trace.specs.Shrinking.{shrunk_of, shrunk_text}
use Rattle.trace.specs.Text.{AllInRange, text_of}
use Rattle.trace.specs.declared.item.Item.{Item}
use Rattle.trace.proofs.ListMeaning.{lists, list-found}
use Rattle.trace.proofs.Reading.{reads}
use Rattle.trace.proofs.ShrinkLaws.{shrunk-same, shrunk-alike, shrunk-range}
use Rattle.trace.proofs.SizeLaws.{shrunk-least}

-- the text of items in range is read as them
text-read : (is : List Item) → AllInRange is → ((contents_of (text_of is)).check ≡ passed) × ((contents_of (text_of is)).items ≡ is)
text-read is h = (reads (text_of is)).found is (record { range = h; shown = refl })

pub writes : (list buffer : List ℕ) → are_bytes list ≡ true → (listing_of list).sound ≡ true
    → length (text_of (listing_of list).items) ≤ length buffer → Writes list buffer
unfolding buffer_of
writes list buffer b s h =
    let is : List Item = (listing_of list).items in
    let t = (lists list b).taken s in
    let r = text-read is t.0 in
    record {
      text = rw (s, le-leb (length (text_of is)) (length buffer) h) (take_at (text_of is) (drop (length (text_of is)) buffer) (length (text_of is)) refl);
      read = r.0;
      back = ap list_of r.1 ∙ sym t.1;
    }

pub rewrites : (text : List ℕ) → (contents_of text).check ≡ passed → Rewrites text
rewrites text w =
    let t = (reads text).well_formed w in
    let f = list-found (contents_of text).items t.range in
    record {
      sound = ap (λ (r : Listing). r.sound) f;
      back = ap (λ (r : Listing). text_of r.items) f ∙ sym t.shown;
    }

module _ (text : List ℕ) (w : (contents_of text).check ≡ passed) where
  held : IsText text (contents_of text).items
  held = (reads text).well_formed w

  shrunk-read : ((contents_of (shrunk_text text)).check ≡ passed) × ((contents_of (shrunk_text text)).items ≡ shrunk_of (contents_of text).items)
  shrunk-read = text-read (shrunk_of (contents_of text).items) (shrunk-range (contents_of text).items held.range)

  same-clocks : SameText (shrunk_text text) text
  same-clocks = ap expanded_of shrunk-read.1 ∙ shrunk-same (contents_of text).items

  one-text : (other : List ℕ) → (contents_of other).check ≡ passed → SameText other text → shrunk_text other ≡ shrunk_text text
  one-text other v e =
      ap text_of (shrunk-alike (contents_of other).items (contents_of text).items ((reads other).well_formed v).range held.range e)

  least-text : (other : List ℕ) → (contents_of other).check ≡ passed → SameText other text → length (shrunk_text text) ≤ length other
  least-text other v e =
      let t = (reads other).well_formed v in
      rw t.shown (shrunk-least (contents_of text).items (contents_of other).items held.range t.range (sym e))

  pub shrinks : Shrinks text
  shrinks = record {
    well = shrunk-read.0;
    same = same-clocks;
    least = least-text;
    one = one-text;
    twice = one-text (shrunk_text text) shrunk-read.0 same-clocks;
  }
