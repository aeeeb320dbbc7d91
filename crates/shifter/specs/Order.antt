-- The shift register by its data order (document 01, 'SPI': 'DORD 1 sends the low bit first', 'One shift register: at
-- each sampling edge the sent bit leaves and the sampled one enters').
use Rattle.std.specs.Prelude.{ℕ, ◌+◌, ◌*◌, ◌/◌, ◌%◌, Bool, List, [], ◌∷◌}
use Rattle.choice.specs.Pick.{pick, digit}
use Rattle.choice.specs.Bit.{is_set}

-- the bit that leaves next: the low one with DORD, else the high one
unfoldable pub out_bit : Bool → ℕ → Bool
out_bit dord x = pick dord (is_set x 1) (is_set x 128)

-- the sent bit leaves at its end, and the sampled one enters at the other
unfoldable pub shifted_in : Bool → ℕ → Bool → ℕ
shifted_in dord x b = pick dord (x / 2 + digit b * 128) (x % 128 * 2 + digit b)

-- the bits of a byte in the order in which they leave
unfoldable pub bits_of : Bool → ℕ → List Bool
bits_of dord x =
    pick dord
    (is_set x 1 ∷ is_set x 2 ∷ is_set x 4 ∷ is_set x 8 ∷ is_set x 16 ∷ is_set x 32 ∷ is_set x 64 ∷ is_set x 128 ∷ [])
    (is_set x 128 ∷ is_set x 64 ∷ is_set x 32 ∷ is_set x 16 ∷ is_set x 8 ∷ is_set x 4 ∷ is_set x 2 ∷ is_set x 1 ∷ [])
