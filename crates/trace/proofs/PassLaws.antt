-- What is left to go out at a place of a list or of a text: the loops of writer and shrink, one way of a turn each.
use Prim.Native.Nat.{ℕ, ◌≤◌}
use mathlib.Core.Path.{◌≡◌, refl, ap, sym, subst, ◌∙◌}
use mathlib.Core.Bool.{true, false}
use mathlib.Core.List.{List, [], ◌∷◌, ◌++◌}
use Rattle.std.specs.Prelude.{Option, Some, None, Result, Ok, Err}
use Rattle.std.specs.Result.{is_err}
use Rattle.choice.proofs.Picks.{clash}
use Rattle.trace.specs.Contents.{Contents, Check, passed, items_in, contents_at, contents_of}
use Rattle.trace.specs.Filling.{is_well}
use Rattle.trace.specs.Listing.{Listing, with_entry}
use Rattle.trace.specs.Shrinking.{most, shrunk_of}
use Rattle.trace.specs.Text.{AllInRange, line_of, lines_of}
use Rattle.trace.specs.Turning.{out_of, run_items, turn_of, out_at}
use Rattle.trace.specs.declared.item.Item.{Item}
use Rattle.trace.specs.declared.line.NoItem.{NoItem}
use Rattle.trace.specs.declared.turn.Run.{Run}
use Rattle.trace.specs.declared.turn.Turn.{Turn}
use Rattle.trace.proofs.ContentsLaws.{well-contents}
use Rattle.trace.proofs.OutLaws.{turn-goes, out-end, out-shrunk}
use Rattle.trace.proofs.PutLaws.{lines-append}
use Rattle.trace.proofs.TurnLaws.{turn-held}

-- ---- a list, by the entry that comes off its front
module _ (all rest : Listing) (e : Option Item) (h : all ≡ with_entry e rest) where
  pub listed-next : (i : Item) → e ≡ Some i → lines_of all.items ≡ line_of i ++ lines_of rest.items
  listed-next i q = ap (λ (l : Listing). lines_of l.items) h ∙ ap (λ (o : Option Item). lines_of (with_entry o rest).items) q

  -- an entry that is none: nothing is left
  pub listed-out : ((i : Item) → e ≡ Some i → ⊥) → lines_of all.items ≡ []
  listed-out n = ap (λ (l : Listing). lines_of l.items) h ∙ by e n
    where
      by : (e : Option Item) → ((i : Item) → e ≡ Some i → ⊥) → lines_of (with_entry e rest).items ≡ []
      by None n = refl
      by (Some i) n = absurd (n i refl)

-- ---- a text
-- what goes out at lines, with a run held back before them
abbrev pub passed_of : List (Result Item NoItem) → Run → List Item
passed_of lines r = out_of most r.levels r.clocks (items_in lines)

module _ (r : Run) (h : r.clocks ≤ most) where
  module _ (lines rest : List (Result Item NoItem)) (line : Result Item NoItem) (i : Item) (e : lines ≡ line ∷ rest) (o : line ≡ Ok i) (t : Turn) (q : t ≡ turn_of r i) where
    pub passed-next : lines_of (passed_of lines r) ≡ lines_of (out_at t.out i) ++ lines_of (passed_of rest t.held)
    unfolding items_in
    passed-next =
        ap (λ (x : List (Result Item NoItem)). lines_of (passed_of x r)) (e ∙ ap (λ (x : Result Item NoItem). x ∷ rest) o)
        ∙ ap lines_of (turn-goes r i (items_in rest) h)
        ∙ ap (λ (u : Turn). lines_of (out_at u.out i ++ passed_of rest u.held)) (sym q) ∙ lines-append (out_at t.out i) (passed_of rest t.held)

    -- the run that is held back is a line's at most
    pub passed-held : AllInRange (items_in lines) → t.held.clocks ≤ most
    unfolding items_in
    passed-held g =
        let a = subst (λ (x : List (Result Item NoItem)). AllInRange (items_in x)) (e ∙ ap (λ (x : Result Item NoItem). x ∷ rest) o) g in
        subst (λ (u : Turn). u.held.clocks ≤ most) (sym q) (turn-held r i h a.0)

  -- a malformed line is the last
  pub passed-malformed : (lines rest : List (Result Item NoItem)) (line : Result Item NoItem) → lines ≡ line ∷ rest → ((i : Item) → line ≡ Ok i → ⊥)
      → passed_of lines r ≡ run_items r
  unfolding items_in
  passed-malformed lines rest (Ok i) e n = absurd (n i refl)
  passed-malformed lines rest (Err bad) e n = ap (λ (x : List (Result Item NoItem)). passed_of x r) e ∙ out-end r.levels r.clocks h

  pub passed-end : (lines : List (Result Item NoItem)) → lines ≡ [] → passed_of lines r ≡ run_items r
  unfolding items_in
  passed-end lines e = ap (λ (x : List (Result Item NoItem)). passed_of x r) e ∙ out-end r.levels r.clocks h

-- nothing is held back at first
pub passed_start : (lines all : List (Result Item NoItem)) (r : Run) → lines ≡ all → r.clocks ≡ 0 → passed_of lines r ≡ shrunk_of (items_in all)
passed_start lines all r e z =
    ap (λ (n : ℕ). out_of most r.levels n (items_in lines)) z ∙ out-shrunk r.levels (items_in lines)
    ∙ ap (λ (x : List (Result Item NoItem)). shrunk_of (items_in x)) e

-- the lines of a well-formed text are all of it
module _ (text : List ℕ) (c : Check) (q : c ≡ (contents_of text).check) where
  pub well-items : is_err c ≡ false → shrunk_of (contents_at text 8 2).items ≡ shrunk_of (contents_of text).items
  well-items w = ap (λ (r : Contents). shrunk_of r.items) (sym (well-contents text (sym q ∙ well-by c w)))
    where
      well-by : (c : Check) → is_err c ≡ false → c ≡ passed
      well-by (Ok done) w = refl
      well-by (Err bad) w = clash refl w

  pub well-sound : is_err c ≡ false → is_well (contents_of text).check ≡ true
  well-sound w = ap is_well (sym q) ∙ by c w
    where
      by : (c : Check) → is_err c ≡ false → is_well c ≡ true
      by (Ok done) w = refl
      by (Err bad) w = clash refl w

  pub bad-sound : is_err c ≡ true → is_well (contents_of text).check ≡ false
  bad-sound b = ap is_well (sym q) ∙ by c b
    where
      by : (c : Check) → is_err c ≡ true → is_well c ≡ false
      by (Ok done) w = clash w refl
      by (Err bad) w = refl
