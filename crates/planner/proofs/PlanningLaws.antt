-- Planner and check keep their promise.
use mathlib.Core.Path.{◌≡◌, refl, ap, sym, ◌∙◌}
use mathlib.Core.Bool.{Bool, true, false}
use mathlib.Core.Logic.{◌↔◌}
use Prim.Native.Nat.{ℕ, ◌+◌, ◌*◌, ◌/◌, ◌^◌, ◌≤◌, ◌<◌}
use native.Mathlib.Nat.{le_of_mul-le-mul_right}
use native.Mathlib.Omega.{arith}
use native.Mathlib.Decide.{dec_lt}
use lib.Dec.{eqb, leb}
use lib.IntN.{ℤ}
use lib.Signed.{mag}
use mir.Syntax.{w32}
use mir.Val.{to_z, of_z}
use mir.ValLaws.{to_z-of_z}
use borrow.Author.Tests.{leb-true, leb-false, le-leb, eqb-true, eqb-false}
use Rattle.choice.specs.Pick.{pick, digit}
use Rattle.choice.proofs.Picks.{both, pick_ind, pick_true, pick-false, split}
use Rattle.std.proofs.Common.{Ok, Err}
use Rattle.answer.specs.declared.Refusal.TheVariants.{Range}
use Rattle.planner.specs.Setting.{samples, total, Best, Chosen}
use Rattle.planner.specs.Figure.{tenths_at}
use Rattle.planner.specs.Neighbour.{is_larger_no_worse, is_smaller_no_worse, is_best_at, ubrr_by, ubrr_at}
use Rattle.planner.specs.Planning.{is_in_range, plan_at, planned_of, tenths_of, checked_of, Plans, Checks, Refuses}
use Rattle.planner.proofs.Sizes.{Sizes, in-range, step-least, total-least}
use Rattle.planner.proofs.NeighbourLaws.{best_of, best-larger, best-smaller}
use Rattle.planner.proofs.ChoiceLaws.{chosen_last, chosen-same, chosen_less}
use Rattle.planner.proofs.FigureLaws.{nearest, small}

module _ (clock S rate : ℕ) (z : Sizes clock S rate) where
  k-least : 1 ≤ S * rate
  k-least = step-least z.S-least z.rate-least

  -- what the check finds of the neighbour above
  above : (u : ℕ) → pick (eqb u 4095) true (is_smaller_no_worse clock (S * rate) (u + 1)) ≡ true → u < 4095
      → clock * (u + 1 + (u + 1 + 1)) ≤ 2 * (S * rate * ((u + 1) * (u + 1 + 1)))
  above u h l = split (eqb u 4095) (λ e. absurd (omega (arith, eqb-true u 4095 e))) (λ e. leb-true _ _ (sym (ap (λ (b : Bool). pick b true (is_smaller_no_worse clock (S * rate) (u + 1))) e) ∙ h))

  -- the check says yes exactly when `Best` holds
  is-best : (u : ℕ) → is_best_at clock S rate u ≡ true → Best clock S rate u
  is-best u h =
      let a = both (leb u 4095) _ h in
      let b = both (is_larger_no_worse clock (S * rate) u) _ a.1 in
      best_of clock S rate z.clock-least k-least u (leb-true u 4095 a.0) (leb-true _ _ b.0) (above u b.1)

  best-is : (u : ℕ) → Best clock S rate u → is_best_at clock S rate u ≡ true
  best-is u b =
      rw (le-leb u 4095 b.fits, le-leb _ _ (best-larger clock S rate z.clock-least k-least u b))
      (pick_ind (λ (t : Bool). t ≡ true) (eqb u 4095) true (is_smaller_no_worse clock (S * rate) (u + 1)) (λ _. refl)
      (λ e. le-leb _ _ (best-smaller clock S rate z.clock-least k-least u b (below u b.fits (eqb-false u 4095 e)))))
    where
      below : (u : ℕ) → u ≤ 4095 → (u ≡ 4095 → ⊥) → u < 4095
      below u h n = omega arith

  pub best-exactly : (u : ℕ) → (is_best_at clock S rate u ≡ true) ↔ Best clock S rate u
  best-exactly u = (is-best u, best-is u)

  -- the planner's UBRR is the chosen one
  pub chosen_at : Chosen clock S rate (ubrr_at clock S rate)
  chosen_at =
      let q : ℕ = clock / (S * rate) in
      pick_ind (Chosen clock S rate) (leb 4096 q) _ _
      (λ e. chosen_last clock S rate z.clock-least k-least (leb-true 4096 q e))
      (λ e. pick_ind (Chosen clock S rate) (is_larger_no_worse clock (S * rate) q) _ _
      (λ f. chosen-same clock S rate z.clock-least k-least (leb-false 4096 q e) (leb-true _ _ f))
      (λ f. chosen_less clock S rate z.clock-least k-least (leb-false 4096 q e) (leb-false _ _ f)))

  -- at a best UBRR the clock is at most twice T, or UBRR is 4,095
  pub best-clock : (u : ℕ) → Best clock S rate u → clock ≤ 5000 * total S rate u
  best-clock u b = by (dec_lt u 4095)
    where
      by : Dec (u < 4095) → clock ≤ 5000 * total S rate u
      by (yes h) =
          let a : ℕ = u + 1 in
          let l : clock * (a + (a + 1)) ≤ 2 * (S * rate * (a * (a + 1))) = best-smaller clock S rate z.clock-least k-least u b h in
          let g : clock * (a + 1) ≤ 2 * (S * rate * a) * (a + 1) = omega arith in
          let i : clock ≤ 2 * (S * rate * a) = le_of_mul-le-mul_right g (omega arith) in
          omega arith
      by (no h) =
          let e : u ≡ 4095 = omega (arith, b.fits) in
          let k = k-least in
          rw e (omega (arith, z.clock-most))

-- there is only one
pub one_choice : {clock S rate u v : ℕ} → Chosen clock S rate u → Chosen clock S rate v → u ≡ v
one_choice p q = omega (arith, p.largest _ q.best, q.largest _ p.best)

digit-yes : (b : Bool) → digit b ≡ 1 → b ≡ true
digit-yes true e = refl
digit-yes false e = absurd (omega arith)

digit-most : (b : Bool) → digit b ≤ 1
digit-most true = omega arith
digit-most false = omega arith

-- what the two answer, in range and out of it
module _ (clock rate u2x : ℕ) where
  abbrev ubrr : ℕ
  ubrr = ubrr_at clock (samples u2x) rate

  pub planned : is_in_range clock rate ≡ true → planned_of clock rate u2x ≡ Ok (plan_at clock (samples u2x) rate)
  unfolding planned_of
  planned h = sym (pick_true (is_in_range clock rate) _ _ _ h refl)

  pub unplanned : is_in_range clock rate ≡ false → planned_of clock rate u2x ≡ Err Range
  unfolding planned_of
  unplanned h = sym (pick-false (is_in_range clock rate) _ _ _ h refl)

  pub checked : (u : ℕ) → is_in_range clock rate ≡ true → checked_of clock rate u2x u ≡ Ok (is_best_at clock (samples u2x) rate u)
  unfolding checked_of
  checked u h = sym (pick_true (is_in_range clock rate) _ _ _ h refl)

  pub unchecked : (u : ℕ) → is_in_range clock rate ≡ false → checked_of clock rate u2x u ≡ Err Range
  unfolding checked_of
  unchecked u h = sym (pick-false (is_in_range clock rate) _ _ _ h refl)

  -- .. by the numbers that the code has
  pub plan-done : {c k u : ℕ} → is_in_range clock rate ≡ true → c ≡ clock → k ≡ samples u2x * rate → u ≡ ubrr_by c k (c / k)
      → (e : ℤ) → e ≡ tenths_at c (k * (u + 1)) → mag e < 2 ^ 31
      → Ok (record { ubrr = u; tenths = to_z w32 (of_z w32 e) }) ≡ planned_of clock rate u2x
  plan-done {c} {k} {u} h ec ek eu e ee fits =
      let et : k * (u + 1) ≡ total (samples u2x) rate u = rw ek (omega arith) in
      rw (to_z-of_z w32 e (record { sfits = fits }), ee, et, eu, ec, ek) (sym (planned h))

  pub checks : (u : ℕ) → is_in_range clock rate ≡ true → Checks clock rate u2x u
  checks u h =
      let b : Bool = is_best_at clock (samples u2x) rate u in
      let e = best-exactly clock (samples u2x) rate (in-range clock rate u2x h) u in
      record {
        done = rw (checked u h) refl;
        told = rw (checked u h) (digit-most b);
        exactly = rw (checked u h) ((λ y. e.0 (digit-yes b y)), (λ y. ap digit (e.1 y)));
      }

  pub plans : is_in_range clock rate ≡ true → Plans clock rate u2x
  plans h =
      let z = in-range clock rate u2x h in
      let c = chosen_at clock (samples u2x) rate z in
      record {
        done = rw (planned h) refl;
        chosen = rw (planned h) c;
        accepted = rw (planned h) ((checks ubrr h).exactly.1 c.best);
        nearest = rw (planned h) (nearest clock (total (samples u2x) rate ubrr) (total-least ubrr z.S-least z.rate-least));
      }

  -- every figure fits 32 bits
  pub figure-small : mag (tenths_of (planned_of clock rate u2x)) ≤ 5000000
  figure-small = split (is_in_range clock rate) inside (λ h. rw (unplanned h) (omega arith))
    where
      inside : is_in_range clock rate ≡ true → mag (tenths_of (planned_of clock rate u2x)) ≤ 5000000
      inside h =
          let z = in-range clock rate u2x h in
          let b = (chosen_at clock (samples u2x) rate z).best in
          rw (planned h) (small clock (total (samples u2x) rate ubrr) (total-least ubrr z.S-least z.rate-least) (best-clock clock (samples u2x) rate z ubrr b))

  pub refuses : (u : ℕ) → is_in_range clock rate ≡ false → Refuses clock rate u2x u
  refuses u h =
      record {
        planner = rw (unplanned h) refl;
        no_ubrr = rw (unplanned h) refl;
        no_tenths = rw (unplanned h) refl;
        check = rw (unchecked u h) refl;
        no = rw (unchecked u h) refl;
      }
