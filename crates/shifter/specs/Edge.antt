-- What edge k of a byte's 16 does (document 01, 'SPI').
use Rattle.std.specs.Prelude.{ℕ, ◌%◌, Bool, false, eqb, ltb}
use Rattle.choice.specs.Pick.{pick}
use Rattle.shifter.specs.Order.{out_bit, shifted_in}
use Rattle.shifter.specs.declared.Mode.{Mode}
use Rattle.shifter.specs.declared.Shifter.{Shifter}

-- with CPHA 0 odd edges sample; with CPHA 1 even edges sample
unfoldable pub is_sampling : Bool → ℕ → Bool
is_sampling cpha k = pick cpha (eqb (k % 2) 0) (eqb (k % 2) 1)

-- with CPHA 0 even edges 2 to 14 put out the next bit; with CPHA 1 odd edges put out
unfoldable pub is_putting : Bool → ℕ → Bool
is_putting cpha k = pick cpha (eqb (k % 2) 1) (pick (ltb k 16) (eqb (k % 2) 0) false)

unfoldable pub edge_of : Mode → Shifter → ℕ → Bool → Shifter
edge_of m r k input =
    pick (is_sampling m.cpha k) (record { shift = shifted_in m.dord r.shift input; out = r.out })
    (pick (is_putting m.cpha k) (record { shift = r.shift; out = out_bit m.dord r.shift })
    r)
