-- What `field_at` finds is the decimal text of a number up to the limit, and it finds each one.
use Prim.Native.Nat.{ℕ, ◌+◌, ◌*◌, ◌-◌, ◌<◌, ◌≤◌}
use mathlib.Core.Path.{◌≡◌, refl, ap, sym, ◌∙◌}
use mathlib.Core.List.{List, [], ◌∷◌, ◌++◌, append_assoc}
use native.Mathlib.Omega.{arith}
use lib.Dec.{ltb, eqb}
use lib.ListN.{length, drop, length-append, length-drop}
use lib.Seq.{drop-drop, drop-append_seam}
use borrow.Author.Tests.{le-ltb, ltb-false, eq-eqb, ne_eqb, eqb-true, eqb-false}
use Rattle.std.specs.Prelude.{Some, None}
use Rattle.choice.proofs.Picks.{split}
use Rattle.decimal.specs.Digits.{digits_of, is_digit}
use Rattle.decimal.specs.Field.{number, rest_of, field_from, field_at, with_digit}
use Rattle.decimal.proofs.DigitLaws.{digits-one, digits_more, digits-ind}
use Rattle.decimal.proofs.FieldLaws.{digit-range, is_digit_lem}

pub no_number : {X : Type 0} {w next : ℕ} → None ≡ number w next → X
no_number e = absurd (let z : ◌≡◌ {A = ℕ} 0 1 = cc in omega arith)

pub same_number : {v m w n : ℕ} → number v m ≡ number w n → (v ≡ w) × (m ≡ n)
same_number e = (
  ap (elim [ None ↦ 0 | Some f ↦ f.value ]) e,
  ap (elim [ None ↦ 0 | Some f ↦ f.next ]) e,
)

module _ (limit end : ℕ) (low : end < 48) where
  -- the scan passes over the digits of a number with that number as the value
  Passes : ℕ → Type 0
  Passes w = (at : ℕ) (t : List ℕ) → w ≤ limit → field_from limit end at (digits_of w ++ t) ≡ rest_of limit end w (at + length (digits_of w)) t

  passes-one : (d : ℕ) → d < 10 → Passes d
  unfolding Passes field_from
  passes-one d h at t l =
      let g : with_digit 0 (48 + d) ≡ d = omega arith in
      rw (digits-one d h, is_digit_lem (48 + d) (omega arith) (omega arith), g)

  passes-more : (v d : ℕ) → 0 < v → d < 10 → Passes v → Passes (10 * v + d)
  unfolding Passes rest_of
  passes-more v d p h so_far at t l =
      let g : with_digit v (48 + d) ≡ 10 * v + d = omega arith in
      let n : (v ≡ 0 → ⊥) = λ e. omega arith in
      let o : (48 + d ≡ end → ⊥) = λ e. omega arith in
      let k : at + length (digits_of v) + 1 ≡ at + length (digits_of v ++ ((48 + d) ∷ [])) = omega (arith, length-append (digits_of v) ((48 + d) ∷ [])) in
      let one_more : rest_of limit end v (at + length (digits_of v)) ((48 + d) ∷ t) ≡ rest_of limit end (10 * v + d) (at + length (digits_of v) + 1) t =
      rw (le-ltb limit v (omega arith), ne_eqb (48 + d) end o, ne_eqb v 0 n, is_digit_lem (48 + d) (omega arith) (omega arith), g) in
      rw (digits_more v d p h, append_assoc, ← k) (so_far at ((48 + d) ∷ t) (omega arith) ∙ one_more)

  passes : (w : ℕ) → Passes w
  passes = digits-ind Passes passes-one passes-more

  pub field-complete : (at w : ℕ) (s : List ℕ) → w ≤ limit → field_from limit end at (digits_of w ++ end ∷ s) ≡ number w (at + length (digits_of w) + 1)
  unfolding Passes rest_of
  field-complete at w s l =
      let stop : rest_of limit end w (at + length (digits_of w)) (end ∷ s) ≡ number w (at + length (digits_of w) + 1) = rw (le-ltb limit w l, eq-eqb end end refl) in
      passes w at (end ∷ s) l ∙ stop

-- the field's text, of which the digits of `v` were passed
Found : ℕ → ℕ → List ℕ → ℕ → ℕ → ℕ → Type 0
Found limit end whole left w next = (s : List ℕ) × (whole ≡ digits_of w ++ end ∷ s) × (w ≤ limit) × (next + length s ≡ left)

rest-sound : (limit end v at : ℕ) (t : List ℕ) (w next : ℕ) → rest_of limit end v at t ≡ number w next → Found limit end (digits_of v ++ t) (at + length t) w next
unfolding Found rest_of
rest-sound limit end v at [] w next e = no_number e
rest-sound limit end v at (b ∷ t) w next e =
    split (ltb limit v) (λ h. no_number (rw h at e)) (λ h.
    let e₁ = rw h at e in
    split (eqb b end)
    (λ q. let r : number v (at + 1) ≡ number w next = rw q at e₁ in
    let vw : v ≡ w = (same_number r).0 in
    let an : at + 1 ≡ next = (same_number r).1 in
    let be : b ≡ end = eqb-true b end q in
    (t, rw (vw, be) refl, omega (arith, ltb-false), omega arith))
    (λ q. let e₂ = rw q at e₁ in
    split (eqb v 0) (λ z. no_number (rw z at e₂)) (λ z.
    let e₃ = rw z at e₂ in
    split (is_digit b)
    (λ d. let r : rest_of limit end (with_digit v b) (at + 1) t ≡ number w next = rw d at e₃ in
    let f = rest-sound limit end (with_digit v b) (at + 1) t w next r in
    let range = digit-range b d in
    let nz : (v ≡ 0 → ⊥) = eqb-false v 0 z in
    let bd : 48 + (b - 48) ≡ b = omega arith in
    let m : digits_of (with_digit v b) ≡ digits_of v ++ (b ∷ []) = digits_more v (b - 48) (omega arith) (omega arith) ∙ rw bd refl in
    (f.0, sym (append_assoc (digits_of v) (b ∷ []) t) ∙ (rw (← m) f.1), f.2, omega arith))
    (λ d. no_number (rw d at e₃)))))

field-sound : (limit end at : ℕ) (t : List ℕ) (w next : ℕ) → field_from limit end at t ≡ number w next → Found limit end t (at + length t) w next
unfolding Found field_from
field-sound limit end at [] w next e = no_number e
field-sound limit end at (b ∷ t) w next e =
    split (is_digit b)
    (λ d. let r : rest_of limit end (with_digit 0 b) (at + 1) t ≡ number w next = rw d at e in
    let f = rest-sound limit end (with_digit 0 b) (at + 1) t w next r in
    let range = digit-range b d in
    let bd : 48 + with_digit 0 b ≡ b = omega arith in
    let m : digits_of (with_digit 0 b) ≡ b ∷ [] = digits-one (with_digit 0 b) (omega arith) ∙ rw bd refl in
    (f.0, rw m at f.1, f.2, omega arith))
    (λ d. no_number (rw d at e))

-- a field of the text, from `at` up to `next`
pub record IsField (text : List ℕ) (at limit end w next : ℕ) : Type 0 where
  pub low : w ≤ limit
  pub shown : drop at text ≡ digits_of w ++ end ∷ drop next text
  pub after : at < next
  pub within : next ≤ length text

pub drop_past : (text : List ℕ) (at : ℕ) (p s : List ℕ) → drop at text ≡ p ++ s → drop (at + length p) text ≡ s
drop_past text at p s e = sym (drop-drop (length p) at text) ∙ rw e (drop-append_seam p s)

-- the text past a field
past-field : (text : List ℕ) (at end w : ℕ) (s : List ℕ) → drop at text ≡ digits_of w ++ end ∷ s → drop (at + length (digits_of w) + 1) text ≡ s
past-field text at end w s e =
    let n : at + length (digits_of w ++ (end ∷ [])) ≡ at + length (digits_of w) + 1 = omega (arith, length-append (digits_of w) (end ∷ [])) in
    rw n at (drop_past text at (digits_of w ++ (end ∷ [])) s (e ∙ sym (append_assoc (digits_of w) (end ∷ []) s)))

field-shown : (text : List ℕ) (at limit end w next : ℕ) (s : List ℕ) → drop at text ≡ digits_of w ++ end ∷ s → w ≤ limit → next + length s ≡ at + length (drop at text)
    → IsField text at limit end w next
field-shown text at limit end w next s e l k =
    let n : next ≡ at + length (digits_of w) + 1 = omega (arith, ap length e, length-append (digits_of w) (end ∷ s)) in
    let d : drop next text ≡ s = rw n (past-field text at end w s e) in
    record {
      low = l;
      shown = rw d e;
      after = omega arith;
      within = omega (arith, length-drop at text, ap length e, length-append (digits_of w) (end ∷ s));
    }

pub field_is : (text : List ℕ) (at limit end w next : ℕ) → field_at text at limit end ≡ number w next → IsField text at limit end w next
unfolding Found
field_is text at limit end w next e = let f = field-sound limit end at (drop at text) w next e in field-shown text at limit end w next f.0 f.1 f.2 f.3

-- each decimal is found
pub record FieldFound (text : List ℕ) (at limit end w : ℕ) (s : List ℕ) : Type 0 where
  pub next : ℕ
  pub found : field_at text at limit end ≡ number w next
  pub left : drop next text ≡ s

pub field_found : (text : List ℕ) (at limit end w : ℕ) (s : List ℕ) → end < 48 → w ≤ limit → drop at text ≡ digits_of w ++ end ∷ s → FieldFound text at limit end w s
field_found text at limit end w s low l e =
    record { next = at + length (digits_of w) + 1; found = rw e (field-complete limit end low at w s l); left = past-field text at end w s e }
