-- The sender's line, for every list of calls on a record: what its statement says of calls, said of the serial unit's
-- events, and the theorem.
use Prim.Native.Nat.{ℕ, suc, ◌+◌, ◌*◌}
use mathlib.Core.List.{List, [], ◌∷◌, ◌++◌, map, append-nil}
use mathlib.Core.Path.{◌≡◌, refl, sym, ap, subst, ◌∙◌}
use lib.Dec.{eqb}
use Rattle.std.proofs.Common.{None, Ok, Option, Some}
use Rattle.choice.specs.Bit.{bit_at}
use Rattle.choice.specs.Pick.{pick, digit}
use Rattle.choice.proofs.Digits.{digit-is}
use Rattle.frame.specs.Word.{data_of}
use Rattle.usart.specs.Event.{Event, is_udr0, final_of}
use Rattle.usart.specs.Read.{ucsr0a}
use Rattle.usart.specs.Sender.{is_vacant}
use Rattle.usart.specs.Sending.{taken_at, outputs_of as outputs_at, taken_of as taken_in, Sends}
use Rattle.usart.specs.Unit.{clock_of}
use Rattle.usart.specs.declared.unit.Usart.{Usart}
use Rattle.usart.proofs.AppendLaws.{outputs-append, taken-append}
use Rattle.usart.proofs.ReadLaws.{status, txb8-bit}
use Rattle.usart.proofs.SendingLine.{outputs-length, sends as sends-at}
use Rattle.device.specs.Address.{place_of}
use Rattle.device.specs.Unit.{txd_bits}
use Rattle.device.proofs.SerialLaws.{is_data}
use Rattle.device.specs.Serial.{clocks_of, writes_at}
use Rattle.device.specs.Unit.{rxd_in}
use Rattle.device.specs.declared.unit.Device.{Device}
use Rattle.device.proofs.SerialLaws.{data-address, reads-are, vectors-are}
use Rattle.record.specs.Codec.{decode_of}
use Rattle.record.proofs.Round.{decode-valid}
use Rattle.history.specs.Call.{Call, reset, write, read, vector, pass, effect, final_record, Throughout, device_in, device_of, usart_of}
use Rattle.history.specs.Sending.{MaySend, accepted_by, taken_of, txd_levels}
use Rattle.history.proofs.ViewLaws.{events_of, view_of, Acts, usart-is, all-act, view, final-view}
use Rattle.history.proofs.ReceivingView.{ucsr0a-is, ucsr0b-is, only-view}
use Rattle.device.specs.declared.address.Place.{Place}
use Rattle.device.specs.declared.address.Place.TheVariants.{Serial, Spi}

-- only clocks show outputs
txd-view : (s : List ℕ) (cs : List Call) → Throughout Acts s cs → txd_levels s cs ≡ outputs_at (usart_of s) (view_of s cs)
txd-view = view (λ j s c. map txd_bits (effect s c).outputs) (λ j. outputs_at) (λ j u. refl) (λ j. outputs-append) (λ j s c a. a.txd) 0

-- what a write of UDR0 gives the buffer
abbrev given : Usart → ℕ → List ℕ
given u v = pick (is_vacant u.sender.buffer) (data_of u.format (digit u.control.txb8 * 256 + v) ∷ []) []

given-in : (j : ℕ) (u : Usart) (p : Option Place) (v : ℕ) → map (taken_at j) (pick (is_data p) (given u v) []) ≡ taken_in j u (writes_at p v)
given-in j u (Some (Serial r)) v = sym (append-nil (map (taken_at j) (pick (is_udr0 r) (given u v) [])))
given-in j u (Some (Spi r)) v = refl
given-in j u None v = refl

clocks-give : (j : ℕ) (u : Usart) (ls : List ℕ) → [] ≡ taken_in j u (clocks_of ls)
clocks-give j u [] = refl
clocks-give j u (l ∷ ls) = clocks-give (suc j) (clock_of u (rxd_in l)) ls

write-gives : (j : ℕ) (s : List ℕ) (d : Device) → decode_of s ≡ Ok d → (a v : ℕ)
    → map (taken_at j) (accepted_by s (write a v)) ≡ taken_in j d.usart (writes_at (place_of a) v)
write-gives j s d h a v =
    let u = d.usart in
    let udre : eqb (bit_at (ucsr0a u) 5) 1 ≡ is_vacant u.sender.buffer = ap (λ (x : ℕ). eqb x 1) (status u).bit5 ∙ digit-is (is_vacant u.sender.buffer) in
    rw (ucsr0a-is s d h, ucsr0b-is s d h, udre, txb8-bit u, usart-is s d h, ← data-address a) (given-in j u (place_of a) v)

taken-by : (j : ℕ) (s : List ℕ) (d : Device) → decode_of s ≡ Ok d → (c : Call) → map (taken_at j) (accepted_by s c) ≡ taken_in j d.usart (events_of s c)
taken-by j s d h reset = refl
taken-by j s d h (write a v) = write-gives j s d h a v
taken-by j s d h (read a) = reads-are (λ (es : List Event). [] ≡ taken_in j d.usart es) refl (λ r. refl) (place_of a)
taken-by j s d h (vector n) = vectors-are (λ (es : List Event). [] ≡ taken_in j d.usart es) refl refl n
taken-by j s d h (pass p) = clocks-give j d.usart (effect s (pass p)).levels

taken-view : (s : List ℕ) (cs : List Call) → Throughout Acts s cs → taken_of s cs ≡ taken_in 0 (usart_of s) (view_of s cs)
taken-view =
    view (λ j s c. map (taken_at j) (accepted_by s c)) taken_in (λ j u. refl)
    (λ j u es fs. taken-append j u es fs ∙ ap (λ (n : ℕ). taken_in j u es ++ taken_in (j + n) (final_of u es) fs) (outputs-length u es))
    (λ j s c a. taken-by j s a.device a.valid c ∙ ap (λ (u : Usart). taken_in j u (events_of s c)) (sym (usart-is s a.device a.valid))) 0

pub sends : (d : Device) (s : List ℕ) (cs : List Call) → MaySend d s cs → Sends d.usart (taken_of s cs) (txd_levels s cs) (usart_of (final_record s cs)).sender.buffer
sends d s cs m =
    let same = ap device_in m.valid in
    subst (λ (x : Device). Sends x.usart (taken_of s cs) (txd_levels s cs) (usart_of (final_record s cs)).sender.buffer) same
    (sent (subst (λ (x : Device). MaySend x s cs) (sym same) m))
  where
    sent : MaySend (device_of s) s cs → Sends (usart_of s) (taken_of s cs) (txd_levels s cs) (usart_of (final_record s cs)).sender.buffer
    sent m =
        let u = usart_of s in
        let es = view_of s cs in
        let a = all-act s (device_of s) cs m.valid m.bytes m.only_data in
        let r : Sends u (taken_in 0 u es) (outputs_at u es) (final_of u es).sender.buffer = sends-at u es (record {
          ready = m.ready;
          buffer = (decode-valid s (device_of s) m.valid).usart.sender.buffer;
          only_data = only-view s cs a;
        }) in
        rw (taken-view s cs a, txd-view s cs a, final-view s cs a) r
