-- A byte in exchange for another, of any master and of the slave: what is out before edge 1, and the next edge
-- (document 01, 'SPI').
use Rattle.std.specs.Prelude.{ℕ, ◌+◌, Bool, ltb}
use Rattle.choice.specs.Pick.{pick}
use Rattle.shifter.specs.Order.{out_bit}
use Rattle.shifter.specs.Edge.{edge_of}
use Rattle.shifter.specs.declared.Mode.{Mode}
use Rattle.shifter.specs.declared.Shifter.{Shifter}
use Rattle.shifter.specs.declared.Exchange.{Exchange}
use Rattle.shifter.specs.declared.Edged.{Edged}
use Rattle.shifter.specs.declared.Edged.TheVariants.{Onward, Complete}

-- with CPHA 0 the first bit is out at once, with CPHA 1 the last one stays
unfoldable pub first_out : Mode → ℕ → Bool → Bool
first_out m shift out = pick m.cpha out (out_bit m.dord shift)

-- the edge that comes next, of 16
unfoldable pub next_edge : ℕ → ℕ
next_edge edges = pick (ltb edges 15) (edges + 1) 16

-- with edge 16 the byte is complete
unfoldable pub edged_of : Mode → Exchange → Bool → Edged
edged_of m x input =
    let k : ℕ = next_edge x.edges in
    let r : Shifter = edge_of m x.register k input in
    pick (ltb k 16) (Onward (record { register = r; edges = k })) (Complete r)
