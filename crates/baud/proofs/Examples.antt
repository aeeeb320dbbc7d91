-- Arguments that are numbers and some that are not, and the request's example.
use mathlib.Core.Path.{◌≡◌, refl}
use mathlib.Core.Bool.{true, false}
use mathlib.Core.List.{[], ◌∷◌}
use Rattle.std.proofs.Common.{Some, None}
use Rattle.baud.specs.declared.setting.Setting.{Setting}
use Rattle.baud.specs.declared.advice.Advice.TheVariants.{MoreLengths}
use Rattle.baud.specs.Decimal.{number_in, are_digits, worth_after}
use Rattle.baud.specs.Rate.{thousandths}
use Rattle.baud.specs.Length.{lengths_within, is_within_at}
use Rattle.baud.specs.Advice.{advice_of, decided}

-- 115200, and 007
number : number_in (49 ∷ 49 ∷ 53 ∷ 50 ∷ 48 ∷ 48 ∷ []) ≡ Some 115200
unfolding are_digits worth_after
number = refl

zeros : number_in (48 ∷ 48 ∷ 55 ∷ []) ≡ Some 7
unfolding are_digits worth_after
zeros = refl

-- 4294967295 is the last, 4294967296 too large
last : number_in (52 ∷ 50 ∷ 57 ∷ 52 ∷ 57 ∷ 54 ∷ 55 ∷ 50 ∷ 57 ∷ 53 ∷ []) ≡ Some 4294967295
unfolding are_digits worth_after
last = refl

large : number_in (52 ∷ 50 ∷ 57 ∷ 52 ∷ 57 ∷ 54 ∷ 55 ∷ 50 ∷ 57 ∷ 54 ∷ []) ≡ None
unfolding are_digits worth_after
large = refl

-- +1, 1a, and no byte at all
plus : number_in (43 ∷ 49 ∷ []) ≡ None
unfolding are_digits worth_after
plus = refl

letter : number_in (49 ∷ 97 ∷ []) ≡ None
unfolding are_digits worth_after
letter = refl

empty : number_in [] ≡ None
empty = refl

-- 16 MHz, 115,200: UBRR 8 at normal speed, 16 at double
abbrev normal : Setting
normal = record { u2x = false; ubrr = 8 }

abbrev double : Setting
double = record { u2x = true; ubrr = 16 }

-- 16,000,000/144 and 16,000,000/136 baud
real : thousandths 16000000 144 ≡ 111111111
real = refl

real-double : thousandths 16000000 136 ≡ 117647059
real-double = refl

-- within the limit at no frame length, and at D = 5 alone
none : lengths_within 16000000 115200 normal ≡ 0
unfolding is_within_at
none = refl

one : lengths_within 16000000 115200 double ≡ 1
unfolding is_within_at
one = refl

take-double : advice_of 16000000 115200 normal double ≡ MoreLengths true
unfolding advice_of decided is_within_at
take-double = refl
