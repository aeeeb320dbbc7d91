-- Closed cases of a field that is closed by a tab.
use mathlib.Core.Path.{◌≡◌, refl}
use mathlib.Core.List.{[], ◌∷◌}
use Rattle.std.specs.Prelude.{None}
use Rattle.decimal.specs.Field.{number, rest_of, field_from, field_at}

-- 024
pub leading-zero : field_at (48 ∷ 50 ∷ 52 ∷ 9 ∷ []) 0 255 9 ≡ None
unfolding rest_of field_from
leading-zero = refl

-- 0, and the largest that is let through
pub zero : field_at (48 ∷ 9 ∷ []) 0 255 9 ≡ number 0 2
unfolding rest_of field_from
zero = refl

pub largest : field_at (50 ∷ 53 ∷ 53 ∷ 9 ∷ []) 0 255 9 ≡ number 255 4
unfolding rest_of field_from
largest = refl

-- 256; no digit; a number that the text's end cuts off
pub too_large : field_at (50 ∷ 53 ∷ 54 ∷ 9 ∷ []) 0 255 9 ≡ None
unfolding rest_of field_from
too_large = refl

pub no_digit : field_at (9 ∷ []) 0 255 9 ≡ None
unfolding rest_of field_from
no_digit = refl

pub cut : field_at (50 ∷ []) 0 255 9 ≡ None
unfolding rest_of field_from
cut = refl
