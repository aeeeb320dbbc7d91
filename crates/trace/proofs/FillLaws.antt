-- Bytes that go out to a sink, some at a time; and a text that goes out to a gauge, which has the room of a lent
-- buffer, and then to a page, which is that buffer. Writer and shrink are such.
use Prim.Native.Nat.{ℕ, ◌+◌, ◌≤◌}
use mathlib.Core.Path.{◌≡◌, refl, ap, sym, subst, ◌∙◌}
use mathlib.Core.Bool.{Bool, true, false}
use mathlib.Core.List.{List, [], ◌++◌, append_assoc, append-nil}
use native.Mathlib.Omega.{arith}
use lib.ListN.{length, drop, length-append}
use lib.Seq.{sets-eq}
use borrow.Author.Tests.{le-leb, lt-leb}
use Rattle.std.specs.Prelude.{Result, Ok, Err}
use Rattle.answer.specs.declared.Refusal.{Refusal}
use Rattle.answer.specs.declared.Refusal.TheVariants.{Malformed, Room as NoRoom}
use Rattle.trace.specs.Filling.{filled_of, buffer_of}
use Rattle.trace.specs.Pages.{Written}
use Rattle.trace.specs.Sinks.{Sent, SinkLaws}
use Rattle.trace.specs.Text.{text_of}
use Rattle.trace.specs.declared.item.Item.{Item}
use Rattle.trace.specs.declared.page.Page.{Page}

module _ {S : Type 0} {fits : S → ℕ → Type 0} {taken : S → List ℕ → S → Type 0} (laws : SinkLaws fits taken) where
  -- where a part has no room, the whole has none
  short_first : (a : S) (x y : List ℕ) → (fits a (length x) → ⊥) → fits a (length (x ++ y)) → ⊥
  short_first a x y h f = h (laws.fewer a (length x) (length y) (subst (fits a) (length-append x y) f))

  pub sent_short : {U : Type 0} (a c : S) (x y : List ℕ) (e : Refusal) (r : Result U Refusal) → (fits a (length x) → ⊥) × (e ≡ NoRoom) → r ≡ Err e
      → Sent fits taken a (x ++ y) r c
  sent_short a c x y e r h q = rw q (short_first a x y h.0, h.1)

  -- the rest after a part
  pub sent_then : {U : Type 0} (a b c : S) (x y : List ℕ) (r : Result U Refusal) → taken a x b → Sent fits taken b y r c → Sent fits taken a (x ++ y) r c
  sent_then a b c x y (Ok u) t s = laws.joined a b c x y t s
  sent_then a b c x y (Err e) t s = (λ f. s.0 (laws.left a b x (length y) t (subst (fits a) (length-append x y) f)), s.1)

-- of a whole, this is left to go out, and what came before it has been taken
pub record Sending {S : Type 0} (taken : S → List ℕ → S → Type 0) (whole left : List ℕ) (old new : S) : Type 0 where
  pub before : List ℕ
  pub so_far : taken old before new
  pub parted : before ++ left ≡ whole

module _ {S : Type 0} {fits : S → ℕ → Type 0} {taken : S → List ℕ → S → Type 0} (laws : SinkLaws fits taken) (whole left : List ℕ) (old new : S) (w : Sending taken whole left old new) where
  module _ (some rest : List ℕ) (e : left ≡ some ++ rest) where
    same-whole : (w.before ++ some) ++ rest ≡ whole
    same-whole = append_assoc w.before some rest ∙ ap (λ (x : List ℕ). w.before ++ x) (sym e) ∙ w.parted

    pub sending_on : (newer : S) → taken new some newer → Sending taken whole rest old newer
    sending_on newer t = record { before = w.before ++ some; so_far = laws.joined old new newer w.before some w.so_far t; parted = same-whole }

    pub sending_short : {U : Type 0} (r : Result U Refusal) (why : Refusal) (newer : S) → (fits new (length some) → ⊥) × (why ≡ NoRoom) → r ≡ Err why
        → Sent fits taken old whole r newer
    sending_short r why newer h q =
        subst (λ (x : List ℕ). Sent fits taken old x r newer) w.parted
        (sent_then laws old new newer w.before left r w.so_far
        (subst (λ (x : List ℕ). Sent fits taken new x r newer) (sym e) (sent_short laws new newer some rest why r h q)))

  pub sending_last : {U : Type 0} (r : Result U Refusal) (newer : S) → Sent fits taken new left r newer → Sent fits taken old whole r newer
  sending_last r newer s = subst (λ (x : List ℕ). Sent fits taken old x r newer) w.parted (sent_then laws old new newer w.before left r w.so_far s)

  pub sending_all : left ≡ [] → taken old whole new
  sending_all e = subst (λ (x : List ℕ). taken old x new) (sym (append-nil w.before) ∙ ap (λ (x : List ℕ). w.before ++ x) (sym e) ∙ w.parted) w.so_far

-- the three ways that a call goes
abbrev pub Fills : Bool → List Item → List ℕ → Result ℕ Refusal → List ℕ → Type 0
Fills sound is buffer r after = (r ≡ filled_of sound is (length buffer)) × (after ≡ buffer_of sound is buffer)

module _ (sound : Bool) (is : List Item) (buffer : List ℕ) where
  pub fills-malformed : sound ≡ false → Fills sound is buffer (Err Malformed) buffer
  unfolding filled_of buffer_of
  fills-malformed s = rw s (refl, refl)

  module _ (s : sound ≡ true) where
    -- the gauge refuses
    pub fills-longer : (r : Result ℕ Refusal) (why : Refusal) → (length (text_of is) ≤ length buffer → ⊥) × (why ≡ NoRoom) → r ≡ Err why
        → Fills sound is buffer r buffer
    unfolding filled_of buffer_of
    fills-longer r why n q = rw (s, lt-leb (length (text_of is)) (length buffer) (omega (arith, n.0))) (q ∙ ap Err n.1, refl)

    -- the page then takes it
    pub fills-text : (old new : Page) → old.buffer.now ≡ buffer → old.at ≡ 0 → length (text_of is) ≤ length buffer → Written old (text_of is) new
        → Fills sound is buffer (Ok new.at) new.buffer.now
    unfolding filled_of buffer_of
    fills-text old new b z l w =
        let n : 0 + length (text_of is) ≡ length (text_of is) = omega arith in
        rw (s, le-leb (length (text_of is)) (length buffer) l) (
          ap Ok (w.put.past ∙ ap (λ (k : ℕ). k + length (text_of is)) z ∙ n),
          w.put.stored ∙ rw (b, z) (sets-eq (text_of is) buffer 0 (omega arith) ∙ ap (λ (k : ℕ). text_of is ++ drop k buffer) n),
        )

pub fills-as : (sound : Bool) (is js : List Item) (buffer : List ℕ) (r : Result ℕ Refusal) (after : List ℕ) → is ≡ js → Fills sound is buffer r after
    → Fills sound js buffer r after
fills-as sound is js buffer r after e f = subst (λ (x : List Item). Fills sound x buffer r after) e f
