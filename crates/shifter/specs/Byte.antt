-- Statements and their means, not rules: a whole byte of 16 edges, what is sampled at them and what is shown.
use Rattle.std.specs.Prelude.{ℕ, zero, suc, ◌+◌, ◌<◌, Bool, false, List, [], ◌∷◌, ◌≡◌}
use Rattle.choice.specs.Pick.{pick}
use Rattle.shifter.specs.Order.{out_bit, bits_of}
use Rattle.shifter.specs.Edge.{is_sampling, edge_of}
use Rattle.shifter.specs.declared.Mode.{Mode}
use Rattle.shifter.specs.declared.Shifter.{Shifter}

-- edges k + 1, k + 2 and so on, with the level of the input at each
abbrev pub after_edges : Mode → Shifter → ℕ → List Bool → Shifter
after_edges m r k [] = r
after_edges m r k (i ∷ is) = after_edges m (edge_of m r (k + 1) i) (k + 1) is

-- the levels of the input at the sampling edges, in order
abbrev pub sampled_at : Bool → ℕ → List Bool → List Bool
sampled_at cpha k [] = []
sampled_at cpha k (i ∷ is) =
    let later : List Bool = sampled_at cpha (k + 1) is in
    pick (is_sampling cpha (k + 1)) (i ∷ later) later

-- the bits that are out at the sampling edges, as the other side samples them
abbrev pub shown_at : Mode → Shifter → ℕ → List Bool → List Bool
shown_at m r k [] = []
shown_at m r k (i ∷ is) =
    let later : List Bool = shown_at m (edge_of m r (k + 1) i) (k + 1) is in
    pick (is_sampling m.cpha (k + 1)) (r.out ∷ later) later

-- with CPHA 0 the first bit is out before edge 1
abbrev pub Presented : Mode → Shifter → Type 0
Presented m r = m.cpha ≡ false → r.out ≡ out_bit m.dord r.shift

-- a whole byte goes out and a whole one comes in: at the sampling edges the bits of the register are out, in order, and
-- after edge 16 the register holds the sampled levels, in order
pub record WholeByte (m : Mode) (r : Shifter) (is : List Bool) : Type 0 where
  pub shown : shown_at m r 0 is ≡ bits_of m.dord r.shift
  pub taken : bits_of m.dord (after_edges m r 0 is).shift ≡ sampled_at m.cpha 0 is
  pub byte : (after_edges m r 0 is).shift < 256

-- two shift registers, each with the other's bit on its input
pub record Joined : Type 0 where
  pub master : Shifter
  pub slave : Shifter

-- edge k of both: the slave sees it after the master
abbrev pub joined_edge : Mode → Joined → ℕ → Joined
joined_edge m j k =
    let a : Shifter = edge_of m j.master k j.slave.out in
    record { master = a; slave = edge_of m j.slave k a.out }

-- n edges after edge k
abbrev pub joined_edges : Mode → Joined → ℕ → ℕ → Joined
joined_edges m j k zero = j
joined_edges m j k (suc n) = joined_edges m (joined_edge m j (k + 1)) (k + 1) n

-- after 16 edges each holds the other's byte
pub record Swaps (m : Mode) (j : Joined) : Type 0 where
  pub master : (joined_edges m j 0 16).master.shift ≡ j.slave.shift
  pub slave : (joined_edges m j 0 16).slave.shift ≡ j.master.shift
