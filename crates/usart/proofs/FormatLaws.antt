-- A format that is written: the code compares it by `==` with the one that is set, the definition by their numbers.
use mathlib.Core.Bool.{Bool, true, false, not}
use mathlib.Core.Path.{◌≡◌, refl, ap, sym, ◌∙◌}
use borrow.Author.Tests.{not-true, not-false}
use Rattle.std.proofs.Common.{Ok, Err, Result}
use Rattle.answer.specs.declared.Refusal.{Refusal}
use Rattle.answer.specs.declared.Refusal.TheVariants.{UnderWay}
use Rattle.choice.proofs.Picks.{pick_true, pick-false}
use Rattle.frame.specs.declared.format.Format.{Format}
use Rattle.frame.specs.contracts.format.FormatPartialEq.TheImpl.{eq-value}
use Rattle.usart.specs.Write.{with_format, formatted_of}
use Rattle.usart.specs.declared.unit.Usart.{Usart}
use Rattle.usart.proofs.SettingsLaws.{settings-equal, equal-format}

module _ (u : Usart) (busy : Bool) (f : Format) where
  pub format-refused : busy ≡ true → true ≡ not (eq-value.it f u.format) → Err UnderWay ≡ formatted_of u busy f
  unfolding formatted_of
  format-refused b d =
      let e : eq-value.it f u.format ≡ false = not-true (eq-value.it f u.format) (sym d) in
      pick_true busy _ _ _ b (pick-false _ _ _ _ (sym (settings-equal f u.format) ∙ e) refl)

  pub format-same : busy ≡ true → false ≡ not (eq-value.it f u.format) → Ok (with_format u f) ≡ formatted_of u busy f
  unfolding formatted_of
  format-same b d =
      let e : eq-value.it f u.format ≡ true = not-false (eq-value.it f u.format) (sym d) in
      let kept : Result Usart Refusal = Ok u in
      let same : with_format u f ≡ u = ap (with_format u) (equal-format f u.format e) in
      pick_true busy _ _ _ b (pick_true _ kept _ _ (sym (settings-equal f u.format) ∙ e) (ap Ok same))

  pub format-set : busy ≡ false → Ok (with_format u f) ≡ formatted_of u busy f
  unfolding formatted_of
  format-set b = pick-false busy _ _ _ b refl
