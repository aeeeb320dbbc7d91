-- Reading keeps its promise: every text is well-formed or malformed at one line, and is read as what it is.
use Prim.Native.Nat.{ℕ, zero, suc, ◌+◌, ◌<◌, ◌≤◌}
use mathlib.Core.Path.{◌≡◌, refl, ap, sym, subst, ◌∙◌}
use mathlib.Core.List.{List, [], ◌∷◌, ◌++◌, append_assoc}
use native.Mathlib.Omega.{arith}
use lib.ListN.{length, drop, length-drop, drop_of_length-le}
use Rattle.std.specs.Prelude.{Option, Some, None, Result, Ok, Err}
use Rattle.choice.proofs.Picks.{split}
use Rattle.trace.specs.Text.{AllInRange, line_of, lines_of, first_line}
use Rattle.trace.specs.Line.{found, line_at}
use Rattle.trace.specs.Contents.{Contents, Check, passed, malformed_at, ended, contents_at, starts_with, contents_of}
use Rattle.trace.specs.Meaning.{NoLine, IsText, MalformedAt, first, later, Reads}
use Rattle.trace.specs.declared.item.Item.{Item}
use Rattle.trace.specs.declared.line.Line.{Line}
use Rattle.trace.specs.declared.line.NoItem.{NoItem}
use Rattle.trace.proofs.LineMeaning.{line-is}
use Rattle.trace.proofs.LineFound.{line-not, line-left, line-end}
use Rattle.trace.proofs.TextMeaning.{text-inj, not-both, one_line}
use Rattle.trace.proofs.LinesLaws.{line_after}
use Rattle.trace.proofs.ContentsLaws.{with_item, contents-found, contents-malformed, contents-over, contents-end, starts, not-starts}

-- these bytes are the lines of items in range, and then a line that is no item's
record Broken (s : List ℕ) (is : List Item) : Type 0 where
  rest : List ℕ
  shown : s ≡ lines_of is ++ rest
  some : 0 < length rest
  none : NoLine rest

-- what these bytes hold, of which the first line has this number
record Holds (s : List ℕ) (line : ℕ) (r : Contents) : Type 0 where
  range : AllInRange r.items
  whole : r.check ≡ passed → s ≡ lines_of r.items
  broken : (k : ℕ) → r.check ≡ malformed_at k → (k ≡ line + length r.items) × Broken s r.items

same_bad : {a b : ℕ} → malformed_at a ≡ malformed_at b → a ≡ b
same_bad e = ap (elim [ Ok done ↦ 0 | Err bad ↦ bad.line ]) e

other : {X : Type 0} {k : ℕ} → passed ≡ malformed_at k → X
other e = absurd (let z : ◌≡◌ {A = ℕ} 0 1 = cc in omega arith)

holds-nothing : (line : ℕ) → Holds [] line (ended passed)
holds-nothing line = record { range = tt; whole = λ e. refl; broken = λ k e. other e }

holds-none : (s : List ℕ) (line : ℕ) → 0 < length s → NoLine s → Holds s line (ended (malformed_at line))
holds-none s line h n = record {
  range = tt;
  whole = λ e. other (sym e);
  broken = λ k e. let z : line ≡ k = same_bad e in (omega arith, record { rest = s; shown = refl; some = h; none = n });
}

broken-more : (i : Item) (s : List ℕ) (is : List Item) → Broken s is → Broken (line_of i ++ s) (i ∷ is)
broken-more i s is b = record {
  rest = b.rest;
  shown = ap (λ (x : List ℕ). line_of i ++ x) b.shown ∙ sym (append_assoc (line_of i) (lines_of is) b.rest);
  some = b.some;
  none = b.none;
}

module _ (text : List ℕ) where
  holds_more : (at line : ℕ) (i : Item) (next : ℕ) → line_at text at ≡ found i next → (r : Contents) → Holds (drop next text) (line + 1) r
      → Holds (drop at text) line (with_item i r)
  holds_more at line i next e r h =
      let l = line-is text at i next e in
      record {
        range = (l.range, h.range);
        whole = λ w. l.shown ∙ ap (λ (x : List ℕ). line_of i ++ x) (h.whole w);
        broken = λ k b.
            let q = h.broken k b in
            (omega (arith, q.0), subst (λ (x : List ℕ). Broken x (i ∷ r.items)) (sym l.shown) (broken-more i (drop next text) r.items q.1));
      }

  holds-over : (at line : ℕ) → length text ≤ at → Holds (drop at text) line (ended passed)
  holds-over at line h = subst (λ (s : List ℕ). Holds s line (ended passed)) (sym (drop_of_length-le text h)) (holds-nothing line)

  holds : (n at line : ℕ) → length text ≤ at + n → Holds (drop at text) line (contents_at text at line)
  holds zero at line h = subst (Holds (drop at text) line) (sym (contents-over text at line (omega arith))) (holds-over at line (omega arith))
  holds (suc n) at line h = by (line_at text at) (λ i next e. let a = line_after text at i next e in holds n next (line + 1) (omega arith)) refl
    where
      by : (l : Option (Result Line NoItem)) → ((i : Item) (next : ℕ) → line_at text at ≡ found i next → Holds (drop next text) (line + 1) (contents_at text next (line + 1)))
          → line_at text at ≡ l → Holds (drop at text) line (contents_at text at line)
      by (Some (Ok l)) more e =
          subst (Holds (drop at text) line) (sym (contents-found text at line l.item l.next e)) (holds_more at line l.item l.next e (contents_at text l.next (line + 1)) (more l.item l.next e))
      by (Some (Err bad)) more e =
          subst (Holds (drop at text) line) (sym (contents-malformed text at line e))
          (holds-none (drop at text) line (omega (arith, length-drop at text, line-left text at e)) (line-not text at e))
      by None more e =
          subst (Holds (drop at text) line) (sym (contents-end text at line e)) (holds-over at line (line-end text at e))

  pub items-range : (at : ℕ) → AllInRange (contents_at text at 2).items
  items-range at = (holds (length text) at 2 (omega arith)).range

  -- what is read so is so
  record Sound (r : Contents) : Type 0 where
    well : r.check ≡ passed → IsText text r.items
    bad : (line : ℕ) → r.check ≡ malformed_at line → MalformedAt text line

  sound-behind : text ≡ first_line ++ drop 8 text → Sound (contents_at text 8 2)
  sound-behind e =
      let h = holds (length text) 8 2 (omega arith) in
      record {
        well = λ w. record { range = h.range; shown = e ∙ ap (λ (x : List ℕ). first_line ++ x) (h.whole w) };
        bad = λ line b.
            let q = h.broken line b in
            subst (MalformedAt text) (sym q.0)
            (later (contents_at text 8 2).items q.1.rest h.range (e ∙ ap (λ (x : List ℕ). first_line ++ x) q.1.shown) q.1.some q.1.none);
      }

  sound-first : ((s : List ℕ) → text ≡ first_line ++ s → ⊥) → Sound (ended (malformed_at 1))
  sound-first n = record {
    well = λ w. other (sym w);
    bad = λ line b. let z : 1 ≡ line = same_bad b in subst (MalformedAt text) z (first n);
  }

  sound : Sound (contents_of text)
  sound =
      split (starts_with first_line text)
      (λ h. let r : contents_at text 8 2 ≡ contents_of text = rw h in subst Sound r (sound-behind (starts first_line text h)))
      (λ h. let r : ended (malformed_at 1) ≡ contents_of text = rw h in subst Sound r (sound-first (not-starts first_line text h)))

  pub reads : Reads text
  reads = record {
    well_formed = sound.well;
    found = λ is w. found-by is w (contents_of text).check refl;
    malformed = sound.bad;
    refused = λ line m. refused-by line m (contents_of text).check refl;
  }
    where
      found-by : (is : List Item) → IsText text is → (c : Check) → (contents_of text).check ≡ c → ((contents_of text).check ≡ passed) × ((contents_of text).items ≡ is)
      found-by is w (Ok done) e = (e, text-inj text (contents_of text).items is (sound.well e) w)
      found-by is w (Err bad) e = absurd (not-both text bad.line is (sound.bad bad.line e) w)

      refused-by : (line : ℕ) → MalformedAt text line → (c : Check) → (contents_of text).check ≡ c → (contents_of text).check ≡ malformed_at line
      refused-by line m (Ok done) e = absurd (not-both text line (contents_of text).items m (sound.well e))
      refused-by line m (Err bad) e = e ∙ ap malformed_at (one_line text bad.line line (sound.bad bad.line e) m)
