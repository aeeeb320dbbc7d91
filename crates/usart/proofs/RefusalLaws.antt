-- The number of a write is that of the first condition in document 01's order that holds, else 0; and the same for
-- vector 0.
use Prim.Native.Nat.{ℕ, zero, suc, ◌+◌, ◌*◌, ◌/◌, ◌%◌, ◌<◌}
use mathlib.Core.Bool.{Bool, true, false, not, ◌&&◌, ◌||◌}
use mathlib.Core.Path.{◌≡◌, refl, sym, ap, ◌∙◌}
use native.Mathlib.Omega.{arith}
use lib.Dec.{eqb, leb}
use borrow.Author.Tests.{eq-eqb, ne_eqb, eqb-true, eqb-false, leb-true, leb-false}
use Rattle.std.proofs.Common.{Err, None, Ok, Option, Result, Some}
use Rattle.answer.specs.Number.{number_of, number_in}
use Rattle.answer.specs.declared.Refusal.{Refusal}
use Rattle.answer.specs.declared.Refusal.TheVariants.{Reserved, Unmodelled, UnderWay, Unrequested}
use Rattle.choice.specs.Bit.{is_set}
use Rattle.choice.specs.Pick.{pick, digit}
use Rattle.choice.proofs.Digits.{digit-odd}
use Rattle.choice.proofs.Picks.{pick_ind, split, clash}
use Rattle.frame.specs.declared.format.Size.{Size}
use Rattle.frame.specs.declared.format.Format.{Format}
use Rattle.usart.specs.Unit.{is_busy, txc_requested}
use Rattle.usart.specs.Settings.{code_of, size_of, is_known, upm_of, settings_of}
use Rattle.usart.specs.Write.{with_baud, formatted_of, txc_cleared, with_u2x, write_a, controlled, with_size, coded_b}
use Rattle.usart.specs.Write.{is_reserved_c, format_in, sized_c, coded_c, write_c, timed_of, write_h, write_of, vector_of}
use Rattle.usart.specs.Refusing.{is_reserved, is_unmodelled, changes, is_under_way}
use Rattle.usart.specs.declared.baud.Baud.{Baud}
use Rattle.usart.specs.declared.unit.Usart.{Usart}
use Rattle.usart.specs.declared.write.Register.{Register}
use Rattle.usart.specs.declared.write.Register.TheVariants.{Ucsr0a, Ucsr0b, Ucsr0c, Ubrr0l, Ubrr0h, Udr0}
use Rattle.usart.proofs.SettingsLaws.{code_lt, upm-again, Codes, coded, same-settings}

-- a refusal by a test, and one by its failing
refused-by : (r : Refusal) (w : Result Usart Refusal) (t : Bool) {n : ℕ} → number_in w ≡ n
    → number_in (pick t (Err r) w) ≡ pick t (number_of r) n
refused-by r w true h = refl
refused-by r w false h = h

refused-not : (r : Refusal) (w : Result Usart Refusal) (t : Bool) {n : ℕ} → number_in w ≡ n
    → number_in (pick t w (Err r)) ≡ pick (not t) (number_of r) n
refused-not r w true h = h
refused-not r w false h = refl

-- two tests that say the same
same_test : (a b x y : ℕ) → (x ≡ y → a ≡ b) → (a ≡ b → x ≡ y) → eqb a b ≡ eqb x y
same_test a b x y f g =
    split (eqb x y) (λ h. eq-eqb a b (f (eqb-true x y h)) ∙ sym h) (λ h. ne_eqb a b (λ e. eqb-false x y h (g e)) ∙ sym h)

-- a number that is another when three parts are
module _ (a b p q s t c d : ℕ) (f : p ≡ q → s ≡ t → c ≡ d → a ≡ b) (g : a ≡ b → (p ≡ q) × ((s ≡ t) × (c ≡ d))) where
  three-by : (x y z : Bool) → eqb p q ≡ x → eqb s t ≡ y → eqb c d ≡ z → not (eqb a b) ≡ (not x || not y || not z)
  three-by true true true hx hy hz = ap not (eq-eqb a b (f (eqb-true p q hx) (eqb-true s t hy) (eqb-true c d hz)))
  three-by true true false hx hy hz = ap not (ne_eqb a b (λ e. eqb-false c d hz (g e).1.1))
  three-by true false z hx hy hz = ap not (ne_eqb a b (λ e. eqb-false s t hy (g e).1.0))
  three-by false y z hx hy hz = ap not (ne_eqb a b (λ e. eqb-false p q hx (g e).0))

  three-tests : not (eqb a b) ≡ (not (eqb p q) || not (eqb s t) || not (eqb c d))
  three-tests = three-by (eqb p q) (eqb s t) (eqb c d) refl refl refl

-- a format that is set: 4 when busy and the settings are not the same
formatted-number : (u : Usart) (busy : Bool) (f : Format)
    → number_in (formatted_of u busy f) ≡ pick (busy && not (eqb (settings_of f) (settings_of u.format))) 4 0
unfolding formatted_of
formatted-number u true f = refused-not UnderWay (Ok u) (eqb (settings_of f) (settings_of u.format)) refl
formatted-number u false f = refl

-- A
cleared-format : (u : Usart) (v : ℕ) → (txc_cleared u v).format ≡ u.format
unfolding txc_cleared
cleared-format u v = pick_ind (λ (w : Usart). w.format ≡ u.format) (is_set v 64) _ _ (λ _. refl) (λ _. refl)

test-a : (f : Format) (v : ℕ)
    → eqb (settings_of (with_u2x f (is_set v 2))) (settings_of f) ≡ eqb (v / 2 % 2) (digit f.u2x)
test-a f v =
    let g : Format = with_u2x f (is_set v 2) in
    let b : digit (is_set v 2) ≡ v / 2 % 2 = digit-odd (v / 2) in
    same_test (settings_of g) (settings_of f) (v / 2 % 2) (digit f.u2x)
    (λ e. ap (λ (n : ℕ). code_of f.size + digit f.usbs * 8 + upm_of f.parity * 16 + n * 64) (b ∙ e))
    (λ e. sym b ∙ (same-settings g f e).u2x)

number-a : (u : Usart) (v : ℕ)
    → number_in (formatted_of (txc_cleared u v) (is_busy u) (with_u2x u.format (is_set v 2))) ≡ pick (is_under_way u Ucsr0a v) 4 0
number-a u v =
    let g : Format = with_u2x u.format (is_set v 2) in
    formatted-number (txc_cleared u v) (is_busy u) g
    ∙ ap (λ (f : Format). pick (is_busy u && not (eqb (settings_of g) (settings_of f))) 4 0) (cleared-format u v)
    ∙ ap (λ (t : Bool). pick (is_busy u && not t) 4 0) (test-a u.format v)

write-a : (u : Usart) (v : ℕ)
    → number_in (write_a u v) ≡ pick (is_unmodelled u Ucsr0a v) 3 (pick (is_under_way u Ucsr0a v) 4 0)
unfolding write_a
write-a u v = refused-by Unmodelled _ (eqb (v % 2) 1) (number-a u v)

-- B
test-b : (f : Format) (z : Size) (v : ℕ) → code_of z ≡ v / 4 % 2 * 4 + code_of f.size % 4
    → eqb (settings_of (with_size f z)) (settings_of f) ≡ eqb (v / 4 % 2) (code_of f.size / 4)
test-b f z v h =
    let g : Format = with_size f z in
    same_test (settings_of g) (settings_of f) (v / 4 % 2) (code_of f.size / 4)
    (λ e. ap (λ (n : ℕ). n + digit f.usbs * 8 + upm_of f.parity * 16 + digit f.u2x * 64) (omega (arith, h, e)))
    (λ e. omega (arith, h, (same-settings g f e).size, code_lt f.size))

coded-b : (u : Usart) (v : ℕ) (k : Option Size) → Codes (v / 4 % 2 * 4 + code_of u.format.size % 4) k
    → number_in (coded_b u v k) ≡ pick (not (is_known k)) 2 (pick (is_under_way u Ucsr0b v) 4 0)
coded-b u v (Some z) h =
    formatted-number (controlled u v) (is_busy u) (with_size u.format z)
    ∙ ap (λ (x : Bool). pick (is_busy u && not x) 4 0) (test-b u.format z v h)
coded-b u v None h = refl

-- C
umsel : (n : ℕ) → n < 4 → eqb n 2 ≡ false → not (eqb n 0) ≡ (eqb n 1 || eqb n 3)
umsel zero h e = refl
umsel (suc zero) h e = refl
umsel (suc (suc zero)) h e = clash refl e
umsel (suc (suc (suc zero))) h e = refl
umsel (suc (suc (suc (suc n)))) h e = absurd (omega arith)

test-c : (u : Usart) (z : Size) (v : ℕ) → code_of z ≡ code_of u.format.size / 4 * 4 + v / 2 % 4
    → eqb (v / 16 % 4) 1 ≡ false
    → not (eqb (settings_of (format_in u z v)) (settings_of u.format)) ≡ changes u Ucsr0c v
test-c u z v h e =
    let f : Format = u.format in
    let g : Format = format_in u z v in
    let p : upm_of g.parity ≡ v / 16 % 4 = upm-again (v / 16 % 4) (omega arith) e in
    let s : digit g.usbs ≡ v / 8 % 2 = digit-odd (v / 8) in
    three-tests (settings_of g) (settings_of f) (v / 16 % 4) (upm_of f.parity) (v / 8 % 2) (digit f.usbs) (v / 2 % 4)
    (code_of f.size % 4)
    (λ hp hs hc. omega (arith, p, s, h, hp, hs, hc))
    (λ q. let r = same-settings g f q in (sym p ∙ r.parity, (sym s ∙ r.usbs, omega (arith, h, r.size))))

sized-c : (u : Usart) (z : Size) (v : ℕ) → v < 256 → eqb (v / 64) 2 ≡ false → eqb (v / 16 % 4) 1 ≡ false
    → code_of z ≡ code_of u.format.size / 4 * 4 + v / 2 % 4
    → number_in (sized_c u z v) ≡ pick (is_unmodelled u Ucsr0c v) 3 (pick (is_under_way u Ucsr0c v) 4 0)
unfolding sized_c
sized-c u z v b m e h =
    refused-not Unmodelled _ (eqb (v / 64) 0)
    (formatted-number u (is_busy u) (format_in u z v) ∙ ap (λ (x : Bool). pick (is_busy u && x) 4 0) (test-c u z v h e))
    ∙ ap (λ (x : Bool). pick x 3 (pick (is_under_way u Ucsr0c v) 4 0)) (umsel (v / 64) (omega (arith, b)) m)

coded-c : (u : Usart) (v : ℕ) (k : Option Size) → v < 256 → eqb (v / 64) 2 ≡ false → eqb (v / 16 % 4) 1 ≡ false
    → Codes (code_of u.format.size / 4 * 4 + v / 2 % 4) k
    → number_in (coded_c u v k) ≡ pick (not (is_known k)) 2 (pick (is_unmodelled u Ucsr0c v) 3 (pick (is_under_way u Ucsr0c v) 4 0))
coded-c u v (Some z) b m e h = sized-c u z v b m e h
coded-c u v None b m e h = refl

reserved-by : (w : Result Usart Refusal) (a b c t : Bool) (n : ℕ) → (a ≡ false → b ≡ false → number_in w ≡ pick t 2 n)
    → number_in (pick (pick a true (pick b true c)) (Err Reserved) w) ≡ pick (a || b || c || t) 2 n
reserved-by w true b c t n h = refl
reserved-by w false true c t n h = refl
reserved-by w false false true t n h = refl
reserved-by w false false false t n h = h refl refl

write-c : (u : Usart) (v : ℕ) → v < 256 → number_in (write_c u v)
    ≡ pick (is_reserved u Ucsr0c v) 2 (pick (is_unmodelled u Ucsr0c v) 3 (pick (is_under_way u Ucsr0c v) 4 0))
unfolding write_c is_reserved_c
write-c u v b =
    let n : ℕ = code_of u.format.size / 4 * 4 + v / 2 % 4 in
    reserved-by _ (eqb (v / 64) 2) (eqb (v / 16 % 4) 1) (eqb (v % 2) 1) (not (is_known (size_of n))) _
    (λ m e. coded-c u v (size_of n) b m e (coded n))

-- UBRR0L and H
timed-number : (u : Usart) (b : Baud) → number_in (timed_of u b) ≡ pick (is_busy u && true) 4 0
unfolding timed_of
timed-number u b = by (is_busy u)
  where
    by : (busy : Bool) → number_in (pick busy (Err UnderWay) (Ok (with_baud u b))) ≡ pick (busy && true) 4 0
    by true = refl
    by false = refl

test-h : (v : ℕ) → leb 16 v ≡ not (eqb (v / 16) 0)
test-h v =
    split (leb 16 v) (λ h. let l = leb-true 16 v h in h ∙ ap not (sym (ne_eqb (v / 16) 0 (λ e. omega (arith, l, e)))))
    (λ h. let l = leb-false 16 v h in h ∙ ap not (sym (eq-eqb (v / 16) 0 (omega (arith, l)))))

write-h : (u : Usart) (v : ℕ) → number_in (write_h u v) ≡ pick (is_reserved u Ubrr0h v) 2 (pick (is_busy u && true) 4 0)
unfolding write_h
write-h u v =
    refused-by Reserved _ (leb 16 v) (timed-number u _)
    ∙ ap (λ (t : Bool). pick t 2 (pick (is_busy u && true) 4 0)) (test-h v)

-- UDR0
none-changed : (busy : Bool) → ◌≡◌ {A = ℕ} 0 (pick (busy && false) 4 0)
none-changed true = refl
none-changed false = refl

pub write-number : (u : Usart) (r : Register) (v : ℕ) → v < 256
    → number_in (write_of u r v) ≡ pick (is_reserved u r v) 2 (pick (is_unmodelled u r v) 3 (pick (is_under_way u r v) 4 0))
write-number u Ucsr0a v b = write-a u v
write-number u Ucsr0b v b =
    let n : ℕ = v / 4 % 2 * 4 + code_of u.format.size % 4 in coded-b u v (size_of n) (coded n)
write-number u Ucsr0c v b = write-c u v b
write-number u Ubrr0l v b = timed-number u _
write-number u Ubrr0h v b = write-h u v
write-number u Udr0 v b = none-changed (is_busy u)

-- vector 0: 8 without its request
pub vector-number : (u : Usart) → number_in (vector_of u) ≡ pick (txc_requested u) 0 8
unfolding vector_of
vector-number u = by _ (txc_requested u)
  where
    by : (w : Usart) (t : Bool) → number_in (pick t (Ok w) (Err Unrequested)) ≡ pick t 0 8
    by w true = refl
    by w false = refl
