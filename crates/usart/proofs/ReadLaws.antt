-- What a read changes, and what the registers' bits say of the oldest frame.
use mathlib.Core.Path.{◌≡◌, refl, ◌∙◌, ap}
use mathlib.Core.Bool.{Bool, true, false, not}
use mathlib.Core.List.{List, [], ◌∷◌, ◌++◌, map}
use Prim.Native.Nat.{ℕ, ◌+◌, ◌*◌, ◌/◌}
use native.Mathlib.Omega.{arith}
use lib.Dec.{eqb}
use Rattle.choice.specs.Bit.{bit_at}
use Rattle.choice.specs.Pick.{pick, digit}
use Rattle.choice.proofs.Digits.{digit-le, digit-odd}
use Rattle.choice.proofs.Picks.{clash}
use Rattle.usart.specs.Sender.{is_vacant}
use Rattle.usart.specs.Queue.{kept_in, is_empty, oldest_of, taken_from}
use Rattle.usart.specs.Read.{ucsr0a, ucsr0b, oldest, popped_of, read_of}
use Rattle.usart.specs.Event.{read, is_udr0}
use Rattle.usart.specs.Receiving.{Seen, seen_by, seen_in, taken_by}
use Rattle.usart.specs.declared.queue.Frame.{Frame}
use Rattle.usart.specs.declared.queue.Places.{Places}
use Rattle.usart.specs.declared.queue.Places.TheVariants.{Empty, One, Two, Three}
use Rattle.usart.specs.declared.unit.Usart.{Usart}
use Rattle.usart.specs.declared.write.Register.{Register}
use Rattle.usart.specs.declared.write.Register.TheVariants.{Ucsr0a, Ucsr0b, Ucsr0c, Ubrr0l, Ubrr0h, Udr0}

-- only a read of UDR0 changes anything
pub each_read : (P : Usart → Type 0) (u : Usart) (r : Register) → (is_udr0 r ≡ false → P u) → (is_udr0 r ≡ true → P (popped_of u))
    → P (read_of u r).after
each_read P u Ucsr0a other it = other refl
each_read P u Ucsr0b other it = other refl
each_read P u Ucsr0c other it = other refl
each_read P u Ubrr0l other it = other refl
each_read P u Ubrr0h other it = other refl
each_read P u Udr0 other it = it refl

pub read_keeps : (u : Usart) (r : Register) → is_udr0 r ≡ false → (read_of u r).after ≡ u
read_keeps u r e = each_read (λ (v : Usart). v ≡ u) u r (λ _. refl) (λ t. clash t e)

-- flags in a byte, as in UCSR0A, each read back by its place
pub record Flags (n : ℕ) (b7 b5 b4 b3 b2 : Bool) : Type 0 where
  pub bit7 : bit_at n 7 ≡ digit b7
  pub bit5 : bit_at n 5 ≡ digit b5
  pub bit4 : bit_at n 4 ≡ digit b4
  pub bit3 : bit_at n 3 ≡ digit b3
  pub bit2 : bit_at n 2 ≡ digit b2

flags : (a b c d e g k : Bool)
    → Flags (digit a * 128 + digit b * 64 + digit c * 32 + digit d * 16 + digit e * 8 + digit g * 4 + digit k * 2) a c d e g
flags a b c d e g k =
    let a1 = digit-le a in
    let b1 = digit-le b in
    let c1 = digit-le c in
    let d1 = digit-le d in
    let e1 = digit-le e in
    let g1 = digit-le g in
    let k1 = digit-le k in
    record { bit7 = omega arith; bit5 = omega arith; bit4 = omega arith; bit3 = omega arith; bit2 = omega arith }

module _ (u : Usart) where
  abbrev rxc : Bool
  rxc = not (is_empty u.receiver.queue.places)

  abbrev udre : Bool
  udre = is_vacant u.sender.buffer

  pub status : Flags (ucsr0a u) rxc udre (oldest u).fe (oldest u).dor (oldest u).upe
  status = flags rxc u.sender.txc udre (oldest u).fe (oldest u).dor (oldest u).upe u.format.u2x

  rxb8-bit : bit_at (ucsr0b u) 1 ≡ bit_at (oldest u).«data» 8
  rxb8-bit =
      omega (
        arith,
        digit-odd ((oldest u).«data» / 256),
        digit-le u.control.rxcie,
        digit-le u.control.txcie,
        digit-le u.control.udrie,
        digit-le u.control.rxen,
        digit-le u.control.txen,
        digit-le u.control.txb8,
      )

  pub txb8-bit : bit_at (ucsr0b u) 0 ≡ digit u.control.txb8
  txb8-bit = omega (arith, digit-le u.control.txb8)

  -- what the firmware sees before a read of UDR0, and reads, is what is in the oldest frame
  pub seen-oldest : seen_by u ≡ seen_in (oldest u)
  seen-oldest = rw (status.bit4, status.bit3, status.bit2, rxb8-bit)

  -- a read takes the oldest frame and leaves the others
  pub taken-kept : taken_by u (read Udr0) ++ map seen_in (kept_in (taken_from u.receiver.queue.places)) ≡ map seen_in (kept_in u.receiver.queue.places)
  taken-kept = by u.receiver.queue.places refl
    where
      -- there is an oldest one, x
      one : (p : Places) (x : Frame) → u.receiver.queue.places ≡ p → is_empty p ≡ false → oldest_of p ≡ x
          → pick (eqb (bit_at (ucsr0a u) 7) 1) (seen_by u ∷ []) [] ≡ seen_in x ∷ []
      one p x e h o =
          let b : bit_at (ucsr0a u) 7 ≡ 1 = status.bit7 ∙ ap (λ (q : Places). digit (not (is_empty q))) e ∙ ap (λ (t : Bool). digit (not t)) h in
          let s : seen_by u ≡ seen_in x = seen-oldest ∙ ap (λ (q : Places). seen_in (oldest_of q)) e ∙ ap seen_in o in
          rw (b, s)

      by : (p : Places) → u.receiver.queue.places ≡ p
          → pick (eqb (bit_at (ucsr0a u) 7) 1) (seen_by u ∷ []) [] ++ map seen_in (kept_in (taken_from p)) ≡ map seen_in (kept_in p)
      by Empty e = let b : bit_at (ucsr0a u) 7 ≡ 0 = status.bit7 ∙ ap (λ (q : Places). digit (not (is_empty q))) e in rw b
      by (One x) e = ap (λ (t : List Seen). t ++ []) (one (One x) x e refl refl)
      by (Two x y) e = ap (λ (t : List Seen). t ++ (seen_in y ∷ [])) (one (Two x y) x e refl refl)
      by (Three x y z) e = ap (λ (t : List Seen). t ++ (seen_in y ∷ seen_in z ∷ [])) (one (Three x y z) x e refl refl)
