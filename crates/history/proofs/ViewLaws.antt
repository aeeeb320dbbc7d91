-- The serial view of a history: the serial unit's events. What the statements say of calls on a record is what the
-- unit's own say of them.
use Prim.Native.Nat.{ℕ, ◌+◌}
use mathlib.Core.List.{List, [], ◌∷◌, ◌++◌, map}
use mathlib.Core.Path.{◌≡◌, refl, sym, ap, ap₂, ◌∙◌}
use native.Mathlib.Omega.{arith}
use lib.ListN.{length}
use Rattle.std.proofs.Common.{Ok, Result}
use Rattle.usart.specs.Event.{Event, write as writes, read as reads, vector as takes, final_of, levels_of}
use Rattle.usart.specs.Sending.{outputs_of as outputs_at}
use Rattle.usart.specs.declared.unit.Usart.{Usart}
use Rattle.usart.specs.declared.write.Register.{Register}
use Rattle.usart.proofs.AppendLaws.{final-append}
use Rattle.device.specs.Address.{place_of}
use Rattle.device.specs.Unit.{txd_bits}
use Rattle.device.specs.Run.{outputs_of}
use Rattle.device.specs.Serial.{clocks_of, writes_at, reads_at, vectors_at}
use Rattle.device.specs.declared.unit.Device.{Device}
use Rattle.device.proofs.SerialLaws.{write-serial, read-serial, vector-serial, run-serial, outputs-serial, writes_are, reads-are, vectors-are}
use Rattle.record.specs.Codec.{decode_of}
use Rattle.history.specs.Call.{Call, reset, write, read, vector, pass, effect, record_after, final_record, along, Throughout, Bytes, device_in, usart_of, OnlyDataCall, OnlyData}
use Rattle.history.proofs.StepLaws.{passes, next_device, induct}
use Rattle.answer.specs.declared.Refusal.{Refusal}

-- the events of a call; a reset is none
abbrev pub events_of : List ℕ → Call → List Event
events_of s reset = []
events_of s (write a v) = writes_at (place_of a) v
events_of s (read a) = reads_at (place_of a)
events_of s (vector n) = vectors_at n
events_of s (pass p) = clocks_of (effect s (pass p)).levels

abbrev pub view_of : List ℕ → List Call → List Event
view_of s [] = []
view_of s (c ∷ cs) = events_of s c ++ view_of (record_after s c) cs

-- what holds of clocks, by their levels, and of any access of a serial register holds of a call's events, by its levels
pub events-are : (P : List ℕ → List Event → Type 0) → ((ls : List ℕ) → P ls (clocks_of ls)) → ((r : Register) (v : ℕ) → P [] (writes r v ∷ []))
    → ((r : Register) → P [] (reads r ∷ [])) → P [] (takes ∷ []) → (s : List ℕ) (c : Call) → P (effect s c).levels (events_of s c)
events-are P clocks wr rd ve s reset = clocks []
events-are P clocks wr rd ve s (write a v) = writes_are (P []) v (clocks []) (λ r. wr r v) (place_of a)
events-are P clocks wr rd ve s (read a) = reads-are (P []) (clocks []) rd (place_of a)
events-are P clocks wr rd ve s (vector n) = vectors-are (P []) (clocks []) ve n
events-are P clocks wr rd ve s (pass p) = clocks (effect s (pass p)).levels

-- a call passes as many clocks as its events have
clocks-as-many : (ls : List ℕ) → length ls ≡ length (levels_of (clocks_of ls))
clocks-as-many [] = refl
clocks-as-many (l ∷ ls) = omega (arith, clocks-as-many ls)

as_many : (s : List ℕ) (c : Call) → length (effect s c).levels ≡ length (levels_of (events_of s c))
as_many = events-are (λ ls es. length ls ≡ length (levels_of es)) clocks-as-many (λ r v. refl) (λ r. refl) refl

-- what a call but reset does on a record of a device: to the serial unit what its events do, on TxD what they show
pub record Acts (s : List ℕ) (c : Call) : Type 0 where
  pub device : Device
  pub valid : decode_of s ≡ Ok device
  pub only : OnlyDataCall s c
  pub next : usart_of (record_after s c) ≡ final_of (usart_of s) (events_of s c)
  pub txd : map txd_bits (effect s c).outputs ≡ outputs_at (usart_of s) (events_of s c)

pub usart-is : (s : List ℕ) (d : Device) → decode_of s ≡ Ok d → usart_of s ≡ d.usart
usart-is s d h = ap (λ (x : Result Device Refusal). (device_in x).usart) h

module _ (s : List ℕ) (d : Device) (h : decode_of s ≡ Ok d) where
  pub next-usart : (c : Call) → OnlyDataCall s c → (next_device s d c).usart ≡ final_of d.usart (events_of s c)
  next-usart reset o = absurd o
  next-usart (write a v) o = write-serial d a v
  next-usart (read a) o = read-serial d a
  next-usart (vector n) o = vector-serial d n
  next-usart (pass p) o = run-serial d (effect s (pass p)).levels

  shows-outputs : (c : Call) → (effect s c).outputs ≡ outputs_of d (effect s c).levels
  unfolding outputs_of
  shows-outputs reset = refl
  shows-outputs (write a v) = refl
  shows-outputs (read a) = refl
  shows-outputs (vector n) = refl
  shows-outputs (pass p) = (passes s d h p).outputs

  pub txd-of : (c : Call) → map txd_bits (effect s c).outputs ≡ outputs_at d.usart (events_of s c)
  unfolding outputs_of
  txd-of c =
      ap (map txd_bits) (shows-outputs c)
      ∙ events-are (λ ls es. map txd_bits (outputs_of d ls) ≡ outputs_at d.usart es) (outputs-serial d) (λ r v. refl) (λ r. refl) refl s c

  acts : (c : Call) → OnlyDataCall s c → decode_of (record_after s c) ≡ Ok (next_device s d c) → Acts s c
  acts c o e = record {
    device = d;
    valid = h;
    only = o;
    next = usart-is (record_after s c) (next_device s d c) e ∙ next-usart c o ∙ ap (λ (u : Usart). final_of u (events_of s c)) (sym (usart-is s d h));
    txd = txd-of c ∙ ap (λ (u : Usart). outputs_at u (events_of s c)) (sym (usart-is s d h));
  }

pub all-act : (s : List ℕ) (d : Device) (cs : List Call) → decode_of s ≡ Ok d → Bytes cs → OnlyData s cs → Throughout Acts s cs
all-act = induct (λ s cs. OnlyData s cs → Throughout Acts s cs) (λ s d h o. tt) (λ s d h c cs e k o. (acts s d h c o.0 e, k o.1))

-- what is gathered along the calls, if of each call it is the unit's own of its events, is the unit's own of the view
pub view : {A : Type 0} (f : ℕ → List ℕ → Call → List A) (Y : ℕ → Usart → List Event → List A) → ((j : ℕ) (u : Usart) → [] ≡ Y j u [])
    → ((j : ℕ) (u : Usart) (es fs : List Event) → Y j u (es ++ fs) ≡ Y j u es ++ Y (j + length (levels_of es)) (final_of u es) fs)
    → ((j : ℕ) (s : List ℕ) (c : Call) → Acts s c → f j s c ≡ Y j (usart_of s) (events_of s c))
    → (j : ℕ) (s : List ℕ) (cs : List Call) → Throughout Acts s cs → along f j s cs ≡ Y j (usart_of s) (view_of s cs)
view f Y none append each j s [] a = none j (usart_of s)
view f Y none append each j s (c ∷ cs) a =
    let rest = view_of (record_after s c) cs in
    ap₂ (◌++◌) (each j s c a.0)
    (view f Y none append each (j + length (effect s c).levels) (record_after s c) cs a.1 ∙ ap₂ (λ (n : ℕ) (u : Usart). Y (j + n) u rest) (as_many s c) a.0.next)
    ∙ sym (append j (usart_of s) (events_of s c) rest)

pub final-view : (s : List ℕ) (cs : List Call) → Throughout Acts s cs → usart_of (final_record s cs) ≡ final_of (usart_of s) (view_of s cs)
final-view s [] a = refl
final-view s (c ∷ cs) a =
    let rest = view_of (record_after s c) cs in
    final-view (record_after s c) cs a.1 ∙ ap (λ (u : Usart). final_of u rest) a.0.next ∙ sym (final-append (usart_of s) (events_of s c) rest)
