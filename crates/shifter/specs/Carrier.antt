-- Statements and their means, not rules: whoever carries a byte over its 16 edges, by whatever clocks they come. An SPI
-- master or slave does, and a serial unit that is an SPI master.
use Rattle.std.specs.Prelude.{ℕ, zero, suc, ◌+◌, ◌-◌, ◌<◌, Bool, true, false, List, [], ◌∷◌, ◌≡◌, eqb}
use Rattle.choice.specs.Pick.{pick}
use Rattle.shifter.specs.Order.{bits_of}
use Rattle.shifter.specs.Edge.{is_sampling, edge_of}
use Rattle.shifter.specs.Byte.{sampled_at}
use Rattle.shifter.specs.declared.Mode.{Mode}
use Rattle.shifter.specs.declared.Shifter.{Shifter}

-- states S and events E: what an event does, which are clocks, which leave a byte under way alone, which are an edge,
-- the level of the input at it, and the bit that is out
pub record Carrier (S E : Type 0) : Type 0 where
  pub next : S → E → S
  pub is_clock : E → Bool
  pub is_harmless : S → E → Bool
  pub is_edge : S → E → Bool
  pub input : S → E → Bool
  pub out : S → Bool

module _ {S E : Type 0} (c : Carrier S E) where
  abbrev pub final_of : S → List E → S
  final_of s [] = s
  final_of s (e ∷ es) = final_of (c.next s e) es

  abbrev pub clocks_in : List E → ℕ
  clocks_in [] = 0
  clocks_in (e ∷ es) = pick (c.is_clock e) (suc (clocks_in es)) (clocks_in es)

  abbrev pub is_undisturbed : S → List E → Bool
  is_undisturbed s [] = true
  is_undisturbed s (e ∷ es) = pick (c.is_harmless s e) (is_undisturbed (c.next s e) es) false

  -- the levels of the input at the edges, in order
  abbrev pub inputs_at : S → List E → List Bool
  inputs_at s [] = []
  inputs_at s (e ∷ es) = pick (c.is_edge s e) (c.input s e ∷ inputs_at (c.next s e) es) (inputs_at (c.next s e) es)

  -- the bits that are out after the edges, in order
  abbrev pub outs_at : S → List E → List Bool
  outs_at s [] = []
  outs_at s (e ∷ es) = pick (c.is_edge s e) (c.out (c.next s e) ∷ outs_at (c.next s e) es) (outs_at (c.next s e) es)

  -- the list ends with its n-th edge
  abbrev pub is_up_to : ℕ → S → List E → Bool
  is_up_to n s [] = eqb n 0
  is_up_to zero s (e ∷ es) = false
  is_up_to (suc n) s (e ∷ es) = pick (c.is_edge s e) (is_up_to n (c.next s e) es) (is_up_to (suc n) (c.next s e) es)

  -- the byte v goes out and x comes in: who samples at the sampling edges gets v, and x is what was on the input at
  -- them
  pub record Carries (m : Mode) (s : S) (v x : ℕ) (es : List E) : Type 0 where
    pub sent : sampled_at m.cpha 0 (outs_at s es) ≡ bits_of m.dord v
    pub taken : bits_of m.dord x ≡ sampled_at m.cpha 0 (inputs_at s es)
    pub byte : x < 256

  -- what has to be shown of a carrier: At s k r, k edges into a byte with r in the register and out, moves by `edge_of`
  -- at an edge and by nothing else, and edge 16 leads to Ended. (With CPHA 0 edge 16 may show the next byte's first
  -- bit.)
  pub record Edges (m : Mode) (At : S → ℕ → Shifter → Type 0) (Ended : S → Shifter → Type 0) : Type 0 where
    pub waits : (s : S) (e : E) (k : ℕ) (r : Shifter) → At s k r → c.is_harmless s e ≡ true → c.is_edge s e ≡ false
        → At (c.next s e) k r
    pub goes : (s : S) (e : E) (k : ℕ) (r : Shifter) → At s k r → c.is_harmless s e ≡ true → c.is_edge s e ≡ true
        → k < 15 → let q : Shifter = edge_of m r (k + 1) (c.input s e) in
        At (c.next s e) (k + 1) q × (c.out (c.next s e) ≡ q.out)
    pub ends : (s : S) (e : E) (r : Shifter) → At s 15 r → c.is_harmless s e ≡ true → c.is_edge s e ≡ true
        → let q : Shifter = edge_of m r 16 (c.input s e) in
        Ended (c.next s e) q × (is_sampling m.cpha 16 ≡ true → c.out (c.next s e) ≡ q.out)

  -- and of a master: Due s k j, k edges into a byte with j clocks before that of the next edge, which comes h clocks
  -- after the last
  pub record Paces (h : ℕ) (Due : S → ℕ → ℕ → Type 0) : Type 0 where
    pub rests : (s : S) (e : E) (k j : ℕ) → Due s k j → c.is_harmless s e ≡ true → c.is_clock e ≡ false
        → (c.is_edge s e ≡ false) × Due (c.next s e) k j
    pub waits : (s : S) (e : E) (k j : ℕ) → Due s k (suc j) → c.is_harmless s e ≡ true → c.is_clock e ≡ true
        → (c.is_edge s e ≡ false) × Due (c.next s e) k j
    pub goes : (s : S) (e : E) (k : ℕ) → Due s k 0 → c.is_harmless s e ≡ true → c.is_clock e ≡ true
        → (c.is_edge s e ≡ true) × (k < 15 → Due (c.next s e) (k + 1) (h - 1))
