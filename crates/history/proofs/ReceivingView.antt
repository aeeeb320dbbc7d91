-- What demand 3 says of calls on a record, said of the serial unit's events.
use Prim.Native.Nat.{ℕ}
use mathlib.Core.Bool.{Bool, true}
use mathlib.Core.List.{List, [], ◌∷◌, map, append-nil}
use mathlib.Core.Path.{◌≡◌, refl, sym, ap, ap₂, subst, ◌∙◌}
use lib.Dec.{eqb}
use borrow.Author.Tests.{eq-eqb}
use Rattle.std.proofs.Common.{Err, None, Ok, Option, Result, Some}
use Rattle.choice.specs.Bit.{bit_at}
use Rattle.choice.specs.Pick.{pick}
use Rattle.choice.proofs.Picks.{clash}
use Rattle.usart.specs.Event.{Event, is_refused, is_udr0, at_clocks, levels_of, OnlyData as OnlyDataAt}
use Rattle.usart.specs.Read.{split_votes as serial_split_votes, read_of as serial_read_of}
use Rattle.usart.specs.Receiving.{Seen, NoneWaits as NoneWaitsAt, seen_by as seen_at, reads_of as reads_in, arrivals_of as arrivals_at}
use Rattle.usart.specs.Unit.{clock_of}
use Rattle.usart.specs.Write.{write_of as serial_write_of}
use Rattle.usart.specs.declared.unit.Usart.{Usart}
use Rattle.usart.specs.declared.write.Register.TheVariants.{Ucsr0a, Ucsr0b, Udr0}
use Rattle.usart.proofs.AppendLaws.{levels-append, only-append, none-waits-append, reads-append, arrivals-append, clocks-append}
use Rattle.device.specs.Address.{place_of}
use Rattle.device.specs.Outcome.{answer_of, value_of}
use Rattle.device.specs.Register.{serial_written, write_in}
use Rattle.device.proofs.SerialLaws.{is_data}
use Rattle.device.specs.Serial.{is_serial, clocks_of, writes_at, reads_at}
use Rattle.device.specs.Unit.{rxd_in, split_votes}
use Rattle.device.specs.declared.unit.Device.{Device}
use Rattle.device.proofs.SerialLaws.{data-address, levels-serial, writes_are, reads-are, vectors-are}
use Rattle.record.specs.Codec.{decode_of}
use Rattle.warpmagpie.specs.Calls.{query_value_on, read_value, split_votes_value}
use Rattle.history.specs.Call.{Call, reset, write, read, vector, pass, effect, record_after, along, Throughout, usart_of, OnlyDataCall, rxd_levels}
use Rattle.history.specs.Receiving.{NoneWaits, seen_by, taken_by, reads_of, arrivals_of}
use Rattle.history.proofs.StepLaws.{write-on, read-on}
use Rattle.history.proofs.ViewLaws.{events_of, view_of, events-are, Acts, usart-is, view}
use Rattle.answer.specs.declared.Refusal.{Refusal}
use Rattle.device.specs.declared.address.Place.{Place}
use Rattle.device.specs.declared.address.Place.TheVariants.{Serial, Spi}

-- only clocks show levels
pub rxd-view : (s : List ℕ) (cs : List Call) → Throughout Acts s cs → rxd_levels s cs ≡ levels_of (view_of s cs)
rxd-view =
    view (λ j s c. map rxd_in (effect s c).levels) (λ j u es. levels_of es) (λ j u. refl) (λ j u es fs. levels-append es fs)
    (λ j s c a. events-are (λ ls es. map rxd_in ls ≡ levels_of es) (λ ls. sym (levels-serial ls)) (λ r v. refl) (λ r. refl) refl s c) 0

-- only at a clock does a frame complete
pub arrivals-view : (s : List ℕ) (cs : List Call) → Throughout Acts s cs → arrivals_of s cs ≡ arrivals_at 0 (usart_of s) (view_of s cs)
arrivals-view =
    view (λ j s c. arrivals_at j (usart_of s) (clocks_of (effect s c).levels)) arrivals_at (λ j u. refl) arrivals-append
    (λ j s c a. events-are (λ ls es. arrivals_at j (usart_of s) (clocks_of ls) ≡ arrivals_at j (usart_of s) es) (λ ls. refl) (λ r v. refl) (λ r. refl) refl s c) 0

-- only a clock accepts a start bit
pub none-waits-view : (s : List ℕ) (cs : List Call) → Throughout Acts s cs → NoneWaits s cs → NoneWaitsAt (usart_of s) (view_of s cs)
none-waits-view s [] a f = tt
none-waits-view s (c ∷ cs) a f =
    none-waits-append (usart_of s) (events_of s c) (view_of (record_after s c) cs)
    (events-are (λ ls es. NoneWaitsAt (usart_of s) (clocks_of ls) → NoneWaitsAt (usart_of s) es) (λ ls g. g) (λ r v g. tt) (λ r g. tt) (λ g. tt) s c f.0)
    (subst (λ (u : Usart). NoneWaitsAt u (view_of (record_after s c) cs)) a.0.next (none-waits-view (record_after s c) cs a.1 f.1))

-- a write of another serial register than UDR0 is refused by the unit
refused-in : (d : Device) (w : Result Usart Refusal) → (answer_of (serial_written d w) ≡ 0 → ⊥) → is_refused w ≡ true
refused-in d (Ok u) n = absurd (n refl)
refused-in d (Err r) n = refl

only-in : (d : Device) (a v : ℕ) (p : Option Place) → place_of a ≡ p → (answer_of (write_in d p v) ≡ 0 → is_serial p ≡ true → a ≡ 0xC6)
    → OnlyDataAt d.usart (writes_at p v)
only-in d a v (Some (Serial r)) e o =
    (λ n. refused-in d (serial_write_of d.usart r v) (λ z. clash (sym (ap is_data e) ∙ data-address a ∙ eq-eqb a 0xC6 (o z refl)) n), tt)
only-in d a v (Some (Spi r)) e o = tt
only-in d a v None e o = tt

only-clocks : (u : Usart) (ls : List ℕ) → OnlyDataAt u (clocks_of ls)
only-clocks u [] = tt
only-clocks u (l ∷ ls) = only-clocks (clock_of u (rxd_in l)) ls

only-by : (s : List ℕ) (d : Device) → decode_of s ≡ Ok d → (c : Call) → OnlyDataCall s c → OnlyDataAt d.usart (events_of s c)
only-by s d h reset o = absurd o
only-by s d h (write a v) o = only-in d a v (place_of a) refl (λ z. o (ap answer_of (write-on s d h a v) ∙ z))
only-by s d h (read a) o = reads-are (OnlyDataAt d.usart) tt (λ r. tt) (place_of a)
only-by s d h (vector n) o = vectors-are (OnlyDataAt d.usart) tt tt n
only-by s d h (pass p) o = only-clocks d.usart (effect s (pass p)).levels

pub only-view : (s : List ℕ) (cs : List Call) → Throughout Acts s cs → OnlyDataAt (usart_of s) (view_of s cs)
only-view s [] a = tt
only-view s (c ∷ cs) a =
    let rest = view_of (record_after s c) cs in
    let x = a.0 in
    only-append (usart_of s) (events_of s c) rest
    (subst (λ (u : Usart). OnlyDataAt u (events_of s c)) (sym (usart-is s x.device x.valid)) (only-by s x.device x.valid c x.only))
    (subst (λ (u : Usart). OnlyDataAt u rest) x.next (only-view (record_after s c) cs a.1))

-- what UDR0, UCSR0B, UCSR0A and the call for split votes show of a frame
abbrev seen_of : ℕ → ℕ → ℕ → ℕ → Seen
seen_of v b a c = record { value = v; rxb8 = bit_at b 1; fe = bit_at a 4; dor = bit_at a 3; upe = bit_at a 2; splits = c }

-- what the registers read, and the split votes
module _ (s : List ℕ) (d : Device) (h : decode_of s ≡ Ok d) where
  pub ucsr0a-is : read_value s 0xC0 ≡ (serial_read_of d.usart Ucsr0a).value
  unfolding place_of
  ucsr0a-is = ap value_of (read-on s d h 0xC0)

  pub ucsr0b-is : read_value s 0xC1 ≡ (serial_read_of d.usart Ucsr0b).value
  unfolding place_of
  ucsr0b-is = ap value_of (read-on s d h 0xC1)

  pub udr0-is : read_value s 0xC6 ≡ (serial_read_of d.usart Udr0).value
  unfolding place_of
  udr0-is = ap value_of (read-on s d h 0xC6)

  splits-are : split_votes_value s ≡ serial_split_votes d.usart
  unfolding query_value_on
  splits-are = ap (query_value_on split_votes) h

  seen-is : seen_by s ≡ seen_at d.usart
  seen-is =
      ap₂ (λ (v c : ℕ). seen_of v (read_value s 0xC1) (read_value s 0xC0) c) udr0-is splits-are
      ∙ ap₂ (λ (b a : ℕ). seen_of (serial_read_of d.usart Udr0).value b a (serial_split_votes d.usart)) ucsr0b-is ucsr0a-is

-- what a UDR0 read sees if RXC is set
abbrev seen_if : Usart → List Seen
seen_if u = pick (eqb (bit_at (serial_read_of u Ucsr0a).value 7) 1) (seen_at u ∷ []) []

taken_in : (u : Usart) (p : Option Place) → pick (is_data p) (seen_if u) [] ≡ reads_in u (reads_at p)
taken_in u (Some (Serial r)) = sym (append-nil (pick (is_udr0 r) (seen_if u) []))
taken_in u (Some (Spi r)) = refl
taken_in u None = refl

clocks-take : (u : Usart) (ls : List ℕ) → [] ≡ reads_in u (clocks_of ls)
clocks-take u [] = refl
clocks-take u (l ∷ ls) = clocks-take (clock_of u (rxd_in l)) ls

taken-by : (s : List ℕ) (d : Device) → decode_of s ≡ Ok d → (c : Call) → taken_by s c ≡ reads_in d.usart (events_of s c)
taken-by s d h reset = refl
taken-by s d h (write a v) = writes_are (λ (es : List Event). [] ≡ reads_in d.usart es) v refl (λ r. refl) (place_of a)
taken-by s d h (read a) = rw (seen-is s d h, ucsr0a-is s d h, ← data-address a) (taken_in d.usart (place_of a))
taken-by s d h (vector n) = vectors-are (λ (es : List Event). [] ≡ reads_in d.usart es) refl refl n
taken-by s d h (pass p) = clocks-take d.usart (effect s (pass p)).levels

pub reads-view : (s : List ℕ) (cs : List Call) → Throughout Acts s cs → reads_of s cs ≡ reads_in (usart_of s) (view_of s cs)
reads-view =
    view (λ j. taken_by) (λ j. reads_in) (λ j u. refl) (λ j. reads-append)
    (λ j s c a. taken-by s a.device a.valid c ∙ ap (λ (u : Usart). reads_in u (events_of s c)) (sym (usart-is s a.device a.valid))) 0

-- what only clocks give: a frame completes at one, and a vote is cast
pub clocks-view : {A : Type 0} (g : ℕ → Usart → Bool → List A) (s : List ℕ) (cs : List Call) → Throughout Acts s cs
    → along (λ j s c. at_clocks g j (usart_of s) (clocks_of (effect s c).levels)) 0 s cs ≡ at_clocks g 0 (usart_of s) (view_of s cs)
clocks-view g s cs =
    view (λ j s c. at_clocks g j (usart_of s) (clocks_of (effect s c).levels)) (at_clocks g) (λ j u. refl) (clocks-append g)
    (λ j s c a. events-are (λ ls es. at_clocks g j (usart_of s) (clocks_of ls) ≡ at_clocks g j (usart_of s) es) (λ ls. refl) (λ r v. refl) (λ r. refl) refl s c) 0 s cs
