-- Laws of codes, words and parts: each is had again from what the bytes hold of it. Assumes nothing.
use Prim.Native.Nat.{ℕ, ◌+◌, ◌*◌, ◌^◌, ◌<◌, ◌≤◌}
use mathlib.Core.Bool.{Bool, true, false, not, beq}
use mathlib.Core.Path.{◌≡◌, refl}
use native.Mathlib.Nat.{pow-le-pow_right}
use native.Mathlib.Omega.{arith}
use lib.Dec.{eqb}
use Rattle.std.proofs.Common.{None, Option, Some}
use Rattle.choice.specs.Pick.{digit}
use Rattle.frame.specs.Format.{data_bits, word_bits}
use Rattle.frame.specs.declared.format.Size.{Size}
use Rattle.frame.specs.declared.format.Size.TheVariants.{Five, Six, Seven, Eight, Nine}
use Rattle.frame.specs.declared.format.Parity.{Parity}
use Rattle.frame.specs.declared.format.Parity.TheVariants.{Off, Even, Odd}
use Rattle.frame.specs.declared.format.Format.{Format}
use Rattle.frame.proofs.FormatLaws.{data-bits-range, word-bits-range}
use Rattle.usart.specs.Settings.{code_of, size_of, upm_of, parity_of}
use Rattle.usart.specs.Sender.{is_vacant, is_resting}
use Rattle.usart.specs.Sampler.{is_receiving}
use Rattle.usart.specs.Queue.{oldest_of}
use Rattle.usart.specs.declared.sampler.Sampler.{Sampler}
use Rattle.usart.specs.declared.sampler.Sampler.TheVariants.{Idle, Receiving}
use Rattle.usart.specs.declared.queue.Places.{Places}
use Rattle.usart.specs.declared.queue.Places.TheVariants.{Empty, One, Two, Three}
use Rattle.spi.specs.declared.flag.Flag.{Flag}
use Rattle.spi.specs.declared.flag.Flag.TheVariants.{Clear, Set, Armed}
use Rattle.record.specs.Codes.{known_size, flag_code, flag_of}
use Rattle.record.specs.Parts.{buffer_data, buffer_from, transmission_in, shifter_from, remembered_in, reception_in, sampler_from, held_count, second_in, is_waiting, third_in, places_from}
use Rattle.record.specs.Layout.{low, high}
use Rattle.record.specs.Image.{bit}
use Rattle.usart.specs.declared.sender.Transmission.{Transmission}

pub data-limit : (z : Size) → 2 ^ data_bits z ≤ 512
data-limit z = pow-le-pow_right {n = 2} (omega arith) {i = data_bits z} {j = 9} (data-bits-range z).1

pub word-limit : (f : Format) → 2 ^ word_bits f ≤ 1024
word-limit f = pow-le-pow_right {n = 2} (omega arith) {i = word_bits f} {j = 10} (word-bits-range f).1

pub word-parts : (x : ℕ) → x < 65536 → low x + 256 * high x ≡ x
word-parts x h = omega arith

pub flag-bit : (b : Bool) → eqb (bit b) 1 ≡ b
flag-bit true = refl
flag-bit false = refl

pub size-again : (z : Size) → known_size (code_of z) ≡ z
unfolding size_of
size-again Five = refl
size-again Six = refl
size-again Seven = refl
size-again Eight = refl
size-again Nine = refl

pub parity-again : (p : Parity) → parity_of (upm_of p) ≡ p
unfolding parity_of
parity-again Off = refl
parity-again Even = refl
parity-again Odd = refl

pub flag-again : (f : Flag) → flag_of (flag_code f) ≡ f
unfolding flag_of
flag-again Clear = refl
flag-again Set = refl
flag-again Armed = refl

pub buffer-again : (b : Option ℕ) → buffer_from (not (is_vacant b)) (buffer_data b) ≡ b
unfolding buffer_from
buffer-again None = refl
buffer-again (Some d) = refl

pub shifter-again : (s : Option Transmission) → shifter_from (not (is_resting s)) (transmission_in s) ≡ s
unfolding shifter_from
shifter-again None = refl
shifter-again (Some t) = refl

pub sampler-again : (s : Sampler) → sampler_from (is_receiving s) (remembered_in s) (reception_in s) ≡ s
unfolding sampler_from
sampler-again (Idle last) = refl
sampler-again (Receiving r) = refl

pub places-again : (p : Places) → places_from (held_count p) (is_waiting p) (oldest_of p) (second_in p) (third_in p) ≡ p
unfolding places_from
places-again Empty = refl
places-again (One a) = refl
places-again (Two a b) = refl
places-again (Three a b c) = refl

-- two levels are the same where their digits are
pub same_digits : (a b : Bool) → beq a b ≡ eqb (digit a) (digit b)
same_digits true true = refl
same_digits true false = refl
same_digits false true = refl
same_digits false false = refl
