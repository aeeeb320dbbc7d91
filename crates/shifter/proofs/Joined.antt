-- Two shift registers joined: after 16 edges each holds the other's byte.
use Prim.Native.Nat.{ℕ, zero, suc, ◌+◌, ◌<◌}
use mathlib.Core.Bool.{Bool}
use mathlib.Core.List.{List, [], ◌∷◌}
use mathlib.Core.Path.{◌≡◌, refl, sym, ap, ◌∙◌}
use lib.ListN.{length}
use Rattle.choice.specs.Pick.{pick}
use Rattle.shifter.specs.Edge.{is_sampling}
use Rattle.shifter.specs.Byte.{after_edges, sampled_at, shown_at, Presented, WholeByte, Joined, joined_edge, joined_edges, Swaps}
use Rattle.shifter.specs.declared.Mode.{Mode}
use Rattle.shifter.specs.declared.Shifter.{Shifter}
use Rattle.shifter.proofs.Laws.{bits-injective}
use Rattle.shifter.proofs.Byte.{whole-byte, shown-before}

module _ (m : Mode) where
  -- what each sees at its edges
  abbrev master_sees : Joined → ℕ → ℕ → List Bool
  master_sees j k zero = []
  master_sees j k (suc n) = j.slave.out ∷ master_sees (joined_edge m j (k + 1)) (k + 1) n

  abbrev slave_sees : Joined → ℕ → ℕ → List Bool
  slave_sees j k zero = []
  slave_sees j k (suc n) = (joined_edge m j (k + 1)).master.out ∷ slave_sees (joined_edge m j (k + 1)) (k + 1) n

  -- each samples what the other shows
  record Seen (j : Joined) (k n : ℕ) : Type 0 where
    lengths : (length (master_sees j k n) ≡ n) × (length (slave_sees j k n) ≡ n)
    master : after_edges m j.master k (master_sees j k n) ≡ (joined_edges m j k n).master
    slave : after_edges m j.slave k (slave_sees j k n) ≡ (joined_edges m j k n).slave
    master_samples : sampled_at m.cpha k (master_sees j k n) ≡ shown_at m j.slave k (slave_sees j k n)
    slave_samples : sampled_at m.cpha k (slave_sees j k n) ≡ shown_at m j.master k (master_sees j k n)

  seen : (j : Joined) (k n : ℕ) → Seen j k n
  seen j k zero = record { lengths = (refl, refl); master = refl; slave = refl; master_samples = refl; slave_samples = refl }
  seen j k (suc n) =
      let x = seen (joined_edge m j (k + 1)) (k + 1) n in
      record {
        lengths = (ap suc x.lengths.0, ap suc x.lengths.1);
        master = x.master;
        slave = x.slave;
        master_samples = ap (λ (z : List Bool). pick (is_sampling m.cpha (k + 1)) (j.slave.out ∷ z) z) x.master_samples;
        slave_samples = shown-before m j.master (k + 1) j.slave.out _ _ _ (λ _. refl) x.slave_samples;
      }

-- with CPHA 0 both first bits must be out before edge 1
pub swaps : (m : Mode) (j : Joined) → j.master.shift < 256 → j.slave.shift < 256 → Presented m j.master → Presented m j.slave → Swaps m j
swaps m j hm hs pm ps =
    let x : Seen m j 0 16 = seen m j 0 16 in
    let a : WholeByte m j.master (master_sees m j 0 16) = whole-byte m j.master (master_sees m j 0 16) x.lengths.0 hm pm in
    let b : WholeByte m j.slave (slave_sees m j 0 16) = whole-byte m j.slave (slave_sees m j 0 16) x.lengths.1 hs ps in
    record {
      master =
          sym (ap (λ (r : Shifter). r.shift) x.master)
          ∙ bits-injective m.dord _ _ a.byte hs (a.taken ∙ x.master_samples ∙ b.shown);
      slave =
          sym (ap (λ (r : Shifter). r.shift) x.slave)
          ∙ bits-injective m.dord _ _ b.byte hm (b.taken ∙ x.slave_samples ∙ a.shown);
    }
