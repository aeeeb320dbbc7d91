-- What the device's operations do to the serial unit is what their serial events do.
use Prim.Native.Nat.{ℕ}
use mathlib.Core.Bool.{Bool, true, false}
use mathlib.Core.List.{List, [], ◌∷◌, map}
use mathlib.Core.Path.{◌≡◌, refl, sym, ap, ap₂, ◌∙◌}
use lib.Dec.{eqb}
use Rattle.std.proofs.Common.{Err, None, Ok, Option, Result, Some}
use Rattle.choice.specs.Pick.{pick}
use borrow.Author.Tests.{eqb-true}
use Rattle.choice.proofs.Picks.{pick_ind, pick-split}
use Rattle.usart.specs.Event.{Event, write, read, vector, settled as serial_settled, final_of, levels_of, is_udr0}
use Rattle.usart.specs.Sending.{outputs_of as serial_outputs}
use Rattle.usart.specs.Write.{write_of as serial_write_of, vector_of as serial_vector_of}
use Rattle.usart.specs.declared.write.Register.{Register}
use Rattle.usart.specs.declared.write.Register.TheVariants.{Udr0}
use Rattle.spi.specs.Register.{write_of as spi_write_of, vector_of as spi_vector_of}
use Rattle.device.specs.Outcome.{settled, read_settled}
use Rattle.device.specs.Address.{place_of}
use Rattle.device.specs.Unit.{txd_bits}
use Rattle.device.specs.Unit.{rxd_in, clock_of}
use Rattle.device.specs.Register.{serial_written, spi_written, write_in, write_of, read_in, read_of, vector_of}
use Rattle.device.specs.Run.{ran_of, outputs_of}
use Rattle.device.specs.Serial.{clocks_of, writes_at, reads_at, vectors_at}
use Rattle.answer.specs.declared.Refusal.TheVariants.{Unknown}
use Rattle.device.specs.declared.unit.Device.{Device}
use Rattle.device.proofs.OutputLaws.{output-serial}
use Rattle.usart.specs.declared.unit.Usart.{Usart}
use Rattle.spi.specs.declared.unit.Spi.{Spi as SpiUnit}
use Rattle.answer.specs.declared.Refusal.{Refusal}
use Rattle.device.specs.declared.address.Place.{Place}
use Rattle.device.specs.declared.address.Place.TheVariants.{Serial, Spi}

-- the place of UDR0, the data register
abbrev pub is_data : Option Place → Bool
is_data (Some (Serial r)) = is_udr0 r
is_data (Some (Spi r)) = false
is_data None = false

-- the data register's address is UDR0's
elsewhere : (a k : ℕ) (p q : Option Place) → eqb k 0xC6 ≡ false → is_data p ≡ false → is_data q ≡ eqb a 0xC6 → is_data (pick (eqb a k) p q) ≡ eqb a 0xC6
elsewhere a k p q n hp hq =
    pick-split (λ (t : Bool) (x : Option Place). is_data x ≡ eqb a 0xC6) (eqb a k) p q
    (λ e. hp ∙ sym (ap (λ (x : ℕ). eqb x 0xC6) (eqb-true a k e) ∙ n))
    (λ _. hq)

here : (a : ℕ) (q : Option Place) → (eqb a 0xC6 ≡ false → is_data q ≡ false) → is_data (pick (eqb a 0xC6) (Some (Serial Udr0)) q) ≡ eqb a 0xC6
here a q h = pick-split (λ (t : Bool) (x : Option Place). is_data x ≡ t) (eqb a 0xC6) (Some (Serial Udr0)) q (λ _. refl) h

not-data : (t : Bool) (p q : Option Place) → is_data p ≡ false → is_data q ≡ false → is_data (pick t p q) ≡ false
not-data t p q hp hq = pick_ind (λ (x : Option Place). is_data x ≡ false) t p q (λ _. hp) (λ _. hq)

pub data-address : (a : ℕ) → is_data (place_of a) ≡ eqb a 0xC6
unfolding place_of
data-address a =
    elsewhere a 0xC0 _ _ refl refl
    (elsewhere a 0xC1 _ _ refl refl
    (elsewhere a 0xC2 _ _ refl refl
    (elsewhere a 0xC4 _ _ refl refl
    (elsewhere a 0xC5 _ _ refl refl
    (here a _ (λ _. not-data (eqb a 0x4C) _ _ refl (not-data (eqb a 0x4D) _ _ refl (not-data (eqb a 0x4E) _ _ refl (not-data (eqb a 0x24) _ _ refl refl)))))))))

pub serial-settled : (d : Device) (w : Result Usart Refusal) → (settled d (serial_written d w)).usart ≡ serial_settled d.usart w
serial-settled d (Ok u) = refl
serial-settled d (Err r) = refl

pub spi-settled : (d : Device) (w : Result SpiUnit Refusal) → (settled d (spi_written d w)).usart ≡ d.usart
spi-settled d (Ok s) = refl
spi-settled d (Err r) = refl

write-in : (d : Device) (p : Option Place) (v : ℕ) → (settled d (write_in d p v)).usart ≡ final_of d.usart (writes_at p v)
write-in d (Some (Serial r)) v = serial-settled d (serial_write_of d.usart r v)
write-in d (Some (Spi r)) v = spi-settled d (spi_write_of d.spi r v)
write-in d None v = refl

pub write-serial : (d : Device) (a v : ℕ) → (settled d (write_of d a v)).usart ≡ final_of d.usart (writes_at (place_of a) v)
write-serial d a v = write-in d (place_of a) v

read-in : (d : Device) (p : Option Place) → (read_settled d (read_in d p)).usart ≡ final_of d.usart (reads_at p)
read-in d (Some (Serial r)) = refl
read-in d (Some (Spi r)) = refl
read-in d None = refl

pub read-serial : (d : Device) (a : ℕ) → (read_settled d (read_of d a)).usart ≡ final_of d.usart (reads_at (place_of a))
read-serial d a = read-in d (place_of a)

vector-in : (d : Device) (a b : Bool)
    → (settled d (pick a (serial_written d (serial_vector_of d.usart)) (pick b (spi_written d (spi_vector_of d.spi)) (Err Unknown)))).usart
    ≡ final_of d.usart (pick a (vector ∷ []) [])
vector-in d true b = serial-settled d (serial_vector_of d.usart)
vector-in d false true = spi-settled d (spi_vector_of d.spi)
vector-in d false false = refl

pub vector-serial : (d : Device) (n : ℕ) → (settled d (vector_of d n)).usart ≡ final_of d.usart (vectors_at n)
unfolding vector_of vectors_at
vector-serial d n = vector-in d (eqb n 0) (eqb n 1)

pub run-serial : (d : Device) (ls : List ℕ) → (ran_of d ls).usart ≡ final_of d.usart (clocks_of ls)
unfolding ran_of
run-serial d [] = refl
run-serial d (l ∷ ls) = run-serial (clock_of d l) ls

pub outputs-serial : (d : Device) (ls : List ℕ) → map txd_bits (outputs_of d ls) ≡ serial_outputs d.usart (clocks_of ls)
unfolding outputs_of
outputs-serial d [] = refl
outputs-serial d (l ∷ ls) = ap₂ (◌∷◌) (output-serial (clock_of d l) l) (outputs-serial (clock_of d l) ls)

pub levels-serial : (ls : List ℕ) → levels_of (clocks_of ls) ≡ map rxd_in ls
levels-serial [] = refl
levels-serial (l ∷ ls) = ap (◌∷◌ (rxd_in l)) (levels-serial ls)

-- what holds of no event and of any access of a serial register holds of a call's events
pub writes_are : (P : List Event → Type 0) (v : ℕ) → P [] → ((r : Register) → P (write r v ∷ [])) → (p : Option Place) → P (writes_at p v)
writes_are P v none one (Some (Serial r)) = one r
writes_are P v none one (Some (Spi r)) = none
writes_are P v none one None = none

pub reads-are : (P : List Event → Type 0) → P [] → ((r : Register) → P (read r ∷ [])) → (p : Option Place) → P (reads_at p)
reads-are P none one (Some (Serial r)) = one r
reads-are P none one (Some (Spi r)) = none
reads-are P none one None = none

pub vectors-are : (P : List Event → Type 0) → P [] → P (vector ∷ []) → (n : ℕ) → P (vectors_at n)
unfolding vectors_at
vectors-are P none one n = pick_ind P (eqb n 0) (vector ∷ []) [] (λ _. one) (λ _. none)
