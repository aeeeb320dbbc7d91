-- What stands in the buffer after a call that is done.
use Prim.Native.Nat.{ℕ}
use mathlib.Core.Bool.{Bool, true, false}
use mathlib.Core.List.{List}
use mathlib.Core.Path.{◌≡◌, refl, ap, ◌∙◌}
use native.Mathlib.Omega.{arith}
use lib.Dec.{leb}
use lib.ListN.{length, take, drop}
use lib.Pow.{are_bytes}
use lib.Seq.{take_at}
use borrow.Author.Tests.{leb-true}
use Rattle.std.specs.Prelude.{Ok, Err}
use Rattle.choice.proofs.Picks.{split}
use Rattle.trace.specs.Contents.{Check, passed, contents_of}
use Rattle.trace.specs.Filling.{filled_of, buffer_of, is_well}
use Rattle.trace.specs.Listing.{list_of, listing_of}
use Rattle.trace.specs.Shrinking.{shrunk_of}
use Rattle.trace.specs.Text.{text_of}
use Rattle.trace.specs.declared.item.Item.{Item}
use Rattle.trace.proofs.Promised.{writes, shrinks}
use Rattle.recording.specs.Calls.{filled_number, filled_length, trace_write_answer, trace_shrink_answer}
use Rattle.recording.specs.Meaning.{written_in, WritesBack, ShrinksTo}

-- no refusal has the number 0
done-by : (sound : Bool) (is : List Item) (buffer : List ℕ) → filled_number (filled_of sound is (length buffer)) ≡ 0
    → (sound ≡ true) × (leb (length (text_of is)) (length buffer) ≡ true)
unfolding filled_of
done-by false is buffer e = absurd (omega (arith, e))
done-by true is buffer e =
    split (leb (length (text_of is)) (length buffer))
    (λ h. (refl, h))
    (λ h. let n : ◌≡◌ {A = ℕ} 12 0 = rw h at e in absurd (omega (arith, n)))

-- then the text stands there
text-there : (sound : Bool) (is : List Item) (buffer : List ℕ) → filled_number (filled_of sound is (length buffer)) ≡ 0
    → take (filled_length (filled_of sound is (length buffer))) (buffer_of sound is buffer) ≡ text_of is
unfolding filled_of buffer_of
text-there sound is buffer e =
    let d = done-by sound is buffer e in
    rw (d.0, d.1) (take_at (text_of is) (drop (length (text_of is)) buffer) (length (text_of is)) refl)

pub writes-back : (list buffer : List ℕ) → are_bytes list ≡ true → trace_write_answer list buffer ≡ 0 → WritesBack list buffer
writes-back list buffer b e =
    let is : List Item = (listing_of list).items in
    let d = done-by (listing_of list).sound is buffer e in
    let t : written_in list buffer ≡ text_of is = text-there (listing_of list).sound is buffer e in
    let w = writes list buffer b d.0 (leb-true (length (text_of is)) (length buffer) d.1) in
    record {
      well = ap (λ (x : List ℕ). (contents_of x).check) t ∙ w.read;
      back = ap (λ (x : List ℕ). list_of (contents_of x).items) t ∙ w.back;
    }

well-by : (c : Check) → is_well c ≡ true → c ≡ passed
well-by (Ok done) e = refl
well-by (Err bad) e = absurd (let z : ◌≡◌ {A = ℕ} 0 1 = cc in omega arith)

pub shrinks-to : (text buffer : List ℕ) → trace_shrink_answer text buffer ≡ 0 → ShrinksTo text buffer
shrinks-to text buffer e =
    let d = done-by (is_well (contents_of text).check) (shrunk_of (contents_of text).items) buffer e in
    let w = well-by (contents_of text).check d.0 in
    record {
      well = w;
      there = text-there (is_well (contents_of text).check) (shrunk_of (contents_of text).items) buffer e;
      promised = shrinks text w;
    }
