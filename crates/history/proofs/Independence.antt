-- SPI traffic never changes a serial answer: what the serial side is answered is a function of the serial unit and the
-- serial parts alone.
use Prim.Native.Nat.{ℕ, ◌+◌, ◌%◌}
use mathlib.Core.Bool.{Bool, true, false}
use mathlib.Core.List.{List, [], ◌∷◌, ◌++◌, map}
use mathlib.Core.Path.{◌≡◌, refl, sym, ap, ap₂, ◌∙◌}
use lib.Dec.{eqb}
use lib.ListN.{length}
use Rattle.std.proofs.Common.{Err, None, Ok, Option, Result, Some}
use Rattle.choice.specs.Pick.{pick}
use Rattle.usart.specs.Event.{Event, clock, write as writes, read as reads, vector as takes, next_of, final_of}
use Rattle.usart.specs.Read.{split_votes as serial_split_votes, read_of as serial_read_of}
use Rattle.usart.specs.Sending.{outputs_of as outputs_at}
use Rattle.usart.specs.Unit.{clock_of, output_of, requests_of as serial_requests, reset_usart}
use Rattle.usart.specs.Write.{write_of as serial_write_of, vector_of as serial_vector_of}
use Rattle.answer.specs.Number.{number_in}
use Rattle.usart.specs.declared.unit.Usart.{Usart}
use Rattle.spi.specs.Register.{vector_of as spi_vector_of}
use Rattle.device.specs.Address.{place_of}
use Rattle.device.specs.Outcome.{answer_of, read_answer_of, value_of}
use Rattle.device.specs.Register.{serial_written, spi_written, write_in, read_in, vector_of}
use Rattle.device.specs.Serial.{is_serial, clocks_of, writes_at, reads_at, vectors_at}
use Rattle.device.specs.Unit.{rxd_in, requests_of, split_votes}
use Rattle.answer.specs.declared.Refusal.TheVariants.{Unknown}
use Rattle.device.specs.declared.unit.Device.{Device}
use Rattle.device.proofs.OutputLaws.{requests-serial}
use Rattle.device.proofs.RegisterLaws.{answer-serial}
use Rattle.device.proofs.SerialLaws.{write-serial, read-serial, vector-serial, run-serial}
use Rattle.record.specs.Codec.{decode_of}
use Rattle.record.proofs.Round.{decode-length}
use Rattle.warpmagpie.specs.Calls.{query_value_on, split_votes_value}
use Rattle.history.specs.Call.{Call, reset, write, read, vector, pass, effect, record_after, final_record, along, Bytes, usart_of}
use Rattle.history.specs.Serial.{Serial as Part, event, resets, serial_part, serial_parts, Answer, number, value, txd, serial_answer, request_bits, Alike, Agree}
use Rattle.history.proofs.StepLaws.{next_device, reset-done, write-on, read-on, vector_on_lem, induct}
use Rattle.history.proofs.ViewLaws.{usart-is, txd-of}
use Rattle.answer.specs.declared.Refusal.{Refusal}
use Rattle.answer.specs.declared.Reading.{Reading}
use Rattle.device.specs.declared.address.Place.{Place}
use Rattle.device.specs.declared.address.Place.TheVariants.{Serial, Spi}

-- what a part does to the serial unit, and what it is answered
abbrev after_part : Usart → Part → Usart
after_part u (event e) = next_of u e
after_part u resets = reset_usart

abbrev answer_at : Usart → Part → Answer
answer_at u (event (clock rxd)) = txd (output_of (clock_of u rxd))
answer_at u (event (writes r v)) = number (number_in (serial_write_of u r v))
answer_at u (event (reads r)) = value 0 (serial_read_of u r).value
answer_at u (event takes) = number (number_in (serial_vector_of u))
answer_at u resets = number 0

abbrev last_of : Usart → List Part → Usart
last_of u [] = u
last_of u (x ∷ xs) = last_of (after_part u x) xs

abbrev answers_at : Usart → List Part → List Answer
answers_at u [] = []
answers_at u (x ∷ xs) = answer_at u x ∷ answers_at (after_part u x) xs

answers-append : (u : Usart) (xs ys : List Part) → answers_at u (xs ++ ys) ≡ answers_at u xs ++ answers_at (last_of u xs) ys
answers-append u [] ys = refl
answers-append u (x ∷ xs) ys = ap (◌∷◌ (answer_at u x)) (answers-append (after_part u x) xs ys)

last-append : (u : Usart) (xs ys : List Part) → last_of u (xs ++ ys) ≡ last_of (last_of u xs) ys
last-append u [] ys = refl
last-append u (x ∷ xs) ys = last-append (after_part u x) xs ys

last-events : (u : Usart) (es : List Event) → last_of u (map event es) ≡ final_of u es
last-events u [] = refl
last-events u (e ∷ es) = last-events (next_of u e) es

-- the answers of each call
write-at : (d : Device) (p : Option Place) (v : ℕ) → pick (is_serial p) (number (answer_of (write_in d p v)) ∷ []) [] ≡ answers_at d.usart (map event (writes_at p v))
write-at d (Some (Serial r)) v = ap (λ (n : ℕ). number n ∷ []) (answer-serial d (serial_write_of d.usart r v))
write-at d (Some (Spi r)) v = refl
write-at d None v = refl

read_at : (d : Device) (p : Option Place) → pick (is_serial p) (value (read_answer_of (read_in d p)) (value_of (read_in d p)) ∷ []) [] ≡ answers_at d.usart (map event (reads_at p))
read_at d (Some (Serial r)) = refl
read_at d (Some (Spi r)) = refl
read_at d None = refl

vector-in : (d : Device) (a b : Bool)
    → pick a (number (answer_of (pick a (serial_written d (serial_vector_of d.usart)) (pick b (spi_written d (spi_vector_of d.spi)) (Err Unknown)))) ∷ []) []
    ≡ answers_at d.usart (map event (pick a (takes ∷ []) []))
vector-in d true b = ap (λ (n : ℕ). number n ∷ []) (answer-serial d (serial_vector_of d.usart))
vector-in d false b = refl

vector-at : (d : Device) (n : ℕ) → pick (eqb n 0) (number (answer_of (vector_of d n)) ∷ []) [] ≡ answers_at d.usart (map event (vectors_at n))
unfolding vector_of vectors_at
vector-at d n = vector-in d (eqb n 0) (eqb n 1)

clocks-at : (u : Usart) (ls : List ℕ) → map txd (outputs_at u (clocks_of ls)) ≡ answers_at u (map event (clocks_of ls))
clocks-at u [] = refl
clocks-at u (l ∷ ls) = ap (◌∷◌ (txd (output_of (clock_of u (rxd_in l))))) (clocks-at (clock_of u (rxd_in l)) ls)

answer-by : (s : List ℕ) (d : Device) → decode_of s ≡ Ok d → (c : Call) → serial_answer s c ≡ answers_at d.usart (serial_part s c)
answer-by s d h reset = ap (λ (w : Result Device Refusal). number (answer_of w) ∷ []) (reset-done s (decode-length s d h))
answer-by s d h (write a v) =
    ap (λ (w : Result Device Refusal). pick (is_serial (place_of a)) (number (answer_of w) ∷ []) []) (write-on s d h a v) ∙ write-at d (place_of a) v
answer-by s d h (read a) =
    ap (λ (g : Result (Reading Device) Refusal). pick (is_serial (place_of a)) (value (read_answer_of g) (value_of g) ∷ []) []) (read-on s d h a) ∙ read_at d (place_of a)
answer-by s d h (vector n) = ap (λ (w : Result Device Refusal). pick (eqb n 0) (number (answer_of w) ∷ []) []) (vector_on_lem s d h n) ∙ vector-at d n
answer-by s d h (pass p) = ap (map txd) (txd-of s d h (pass p)) ∙ clocks-at d.usart (effect s (pass p)).levels

-- the serial unit after each call
part_of : (s : List ℕ) (d : Device) (c : Call) → (next_device s d c).usart ≡ last_of d.usart (serial_part s c)
part_of s d reset = refl
part_of s d (write a v) = write-serial d a v ∙ sym (last-events d.usart (writes_at (place_of a) v))
part_of s d (read a) = read-serial d a ∙ sym (last-events d.usart (reads_at (place_of a)))
part_of s d (vector n) = vector-serial d n ∙ sym (last-events d.usart (vectors_at n))
part_of s d (pass p) = let ls = (effect s (pass p)).levels in run-serial d ls ∙ sym (last-events d.usart (clocks_of ls))

part-is : (s : List ℕ) (d : Device) → decode_of s ≡ Ok d → (c : Call) → decode_of (record_after s c) ≡ Ok (next_device s d c)
    → usart_of (record_after s c) ≡ last_of (usart_of s) (serial_part s c)
part-is s d h c e =
    usart-is (record_after s c) (next_device s d c) e ∙ part_of s d c ∙ ap (λ (u : Usart). last_of u (serial_part s c)) (sym (usart-is s d h))

answers-view : (s : List ℕ) (d : Device) (cs : List Call) → decode_of s ≡ Ok d → Bytes cs → (j : ℕ)
    → along (λ j. serial_answer) j s cs ≡ answers_at (usart_of s) (along (λ j. serial_part) j s cs)
answers-view =
    induct (λ s cs. (j : ℕ) → along (λ j. serial_answer) j s cs ≡ answers_at (usart_of s) (along (λ j. serial_part) j s cs))
    (λ s d h j. refl)
    (λ s d h c cs e k j.
    let rest = along (λ j. serial_part) (j + length (effect s c).levels) (record_after s c) cs in
    ap₂ (◌++◌) (answer-by s d h c ∙ ap (λ (u : Usart). answers_at u (serial_part s c)) (sym (usart-is s d h))) (k _ ∙ ap (λ (u : Usart). answers_at u rest) (part-is s d h c e))
    ∙ sym (answers-append (usart_of s) (serial_part s c) rest))

final-parts : (s : List ℕ) (d : Device) (cs : List Call) → decode_of s ≡ Ok d → Bytes cs → (j : ℕ)
    → usart_of (final_record s cs) ≡ last_of (usart_of s) (along (λ j. serial_part) j s cs)
final-parts =
    induct (λ s cs. (j : ℕ) → usart_of (final_record s cs) ≡ last_of (usart_of s) (along (λ j. serial_part) j s cs))
    (λ s d h j. refl)
    (λ s d h c cs e k j.
    let rest = along (λ j. serial_part) (j + length (effect s c).levels) (record_after s c) cs in
    k _ ∙ ap (λ (u : Usart). last_of u rest) (part-is s d h c e) ∙ sym (last-append (usart_of s) (serial_part s c) rest))

-- request bits 0 to 2 are those of the serial unit
bits_of : (s : List ℕ) (d : Device) → decode_of s ≡ Ok d → request_bits s ≡ serial_requests (usart_of s)
unfolding query_value_on
bits_of s d h = ap (λ (x : Result Device Refusal). query_value_on requests_of x % 8) h ∙ requests-serial d ∙ sym (ap serial_requests (usart-is s d h))

final-bits : (s : List ℕ) (d : Device) (cs : List Call) → decode_of s ≡ Ok d → Bytes cs
    → request_bits (final_record s cs) ≡ serial_requests (usart_of (final_record s cs))
final-bits = induct (λ s cs. request_bits (final_record s cs) ≡ serial_requests (usart_of (final_record s cs))) bits_of (λ s d h c cs e k. k)

-- so are the split votes
splits_of : (s : List ℕ) (d : Device) → decode_of s ≡ Ok d → split_votes_value s ≡ serial_split_votes (usart_of s)
unfolding query_value_on
splits_of s d h = ap (query_value_on split_votes) h ∙ sym (ap serial_split_votes (usart-is s d h))

final-splits : (s : List ℕ) (d : Device) (cs : List Call) → decode_of s ≡ Ok d → Bytes cs
    → split_votes_value (final_record s cs) ≡ serial_split_votes (usart_of (final_record s cs))
final-splits = induct (λ s cs. split_votes_value (final_record s cs) ≡ serial_split_votes (usart_of (final_record s cs))) splits_of (λ s d h c cs e k. k)

pub independent : (d e : Device) (s t : List ℕ) (cs ds : List Call) → Alike d e s t cs ds → Agree s t cs ds
independent d e s t cs ds a =
    let one : usart_of s ≡ usart_of t = usart-is s d a.first ∙ a.one ∙ sym (usart-is t e a.second) in
    let final : usart_of (final_record s cs) ≡ usart_of (final_record t ds) =
    final-parts s d cs a.first a.bytes 0 ∙ ap₂ last_of one a.same ∙ sym (final-parts t e ds a.second a.bytes_too 0) in
    record {
      answers =
          answers-view s d cs a.first a.bytes 0 ∙ ap₂ answers_at one a.same ∙ sym (answers-view t e ds a.second a.bytes_too 0);
      requests =
          final-bits s d cs a.first a.bytes ∙ ap serial_requests final ∙ sym (final-bits t e ds a.second a.bytes_too);
      splits =
          final-splits s d cs a.first a.bytes ∙ ap serial_split_votes final ∙ sym (final-splits t e ds a.second a.bytes_too);
      final = final;
    }

bytes-first : (cs ds : List Call) → Bytes (cs ++ ds) → Bytes cs
bytes-first [] ds p = tt
bytes-first (c ∷ cs) ds p = (p.0, bytes-first cs ds p.1)

-- .. and at every place inside: wherever the two stand after equal serial parts, with calls still to come, they agree
-- so far, and so do queries at that place
pub independent-inside : (d e : Device) (s t : List ℕ) (cs cs' ds ds' : List Call) → Alike d e s t (cs ++ cs') (ds ++ ds') → serial_parts s cs ≡ serial_parts t ds
    → Agree s t cs ds
independent-inside d e s t cs cs' ds ds' a same =
    independent d e s t cs ds (record {
      first = a.first;
      second = a.second;
      one = a.one;
      bytes = bytes-first cs cs' a.bytes;
      bytes_too = bytes-first ds ds' a.bytes_too;
      same = same;
    })
