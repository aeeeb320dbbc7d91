-- The tests of the frames held and of the receiver's enable, as in TestLaws. Assumes nothing.
use Prim.Native.Nat.{ℕ, zero, suc, ◌+◌, ◌*◌, ◌<◌, ◌≤◌}
use mathlib.Core.Bool.{Bool, true, false, not, ◌&&◌}
use mathlib.Core.List.{[]}
use mathlib.Core.Path.{◌≡◌, refl, ap}
use native.Mathlib.Decide.{dec_lt}
use native.Mathlib.Omega.{arith}
use lib.Dec.{eqb}
use lib.ListN.{length}
use borrow.Author.Tests.{eqb-true, eq-eqb, not-true}
use Rattle.choice.proofs.Picks.{pick_ind, clash}
use Rattle.usart.specs.Sampler.{is_receiving}
use Rattle.frame.specs.declared.format.Format.{Format}
use Rattle.usart.specs.Queue.{no_frame, waiting_in, oldest_of}
use Rattle.usart.specs.Receiver.{stopped}
use Rattle.usart.specs.Valid.{voted_bits, ValidFrame, ValidPlaces, ValidWaiting}
use Rattle.usart.specs.declared.sampler.Reception.{Reception}
use Rattle.usart.specs.declared.sampler.Sampler.{Sampler}
use Rattle.usart.specs.declared.sampler.Sampler.TheVariants.{Idle, Receiving}
use Rattle.usart.specs.declared.queue.Frame.{Frame}
use Rattle.usart.specs.declared.queue.Places.{Places}
use Rattle.usart.specs.declared.queue.Places.TheVariants.{Empty, One, Two, Three}
use Rattle.usart.specs.declared.receiver.Receiver.{Receiver}
use Rattle.usart.proofs.TallyLaws.{voted-before}
use Rattle.record.specs.Layout.{low}
use Rattle.record.specs.Codes.{marks_of, frame_from}
use Rattle.record.specs.Parts.{remembered_in, reception_in, sampler_from, held_count, second_in, is_waiting, third_in, places_from}
use Rattle.record.specs.Accepts.{places_fit, waiting_fits, enabled_fits}
use Rattle.record.proofs.ListLaws.{and_both, and-pair}
use Rattle.record.proofs.RegisterLaws.{marks-again}

-- the three bytes of a held frame, as a number
abbrev bytes_of : Frame → ℕ
bytes_of x = low x.«data» + 256 * marks_of x + 65536 * x.splits

pub places-fit : (p : Places) → places_fit (held_count p) (bytes_of (oldest_of p)) (bytes_of (second_in p)) ≡ true
unfolding places_fit
places-fit Empty = refl
places-fit (One a) = refl
places-fit (Two a b) = refl
places-fit (Three a b c) = refl

-- the bytes of a held frame are within their limits
pub record FrameBytes (low marks splits : ℕ) : Type 0 where
  pub low-lt : low < 256
  pub marks-le : marks ≤ 15
  pub splits-le : splits ≤ 12

frame-valid : (k l c : ℕ) → FrameBytes k l c → ValidFrame (frame_from k l c)
frame-valid k l c h = record { «data» = omega (arith, h.low-lt); splits = h.splits-le }

-- they are shown again
pub record FrameShown (low_byte marks splits : ℕ) (x : Frame) : Type 0 where
  pub low-is : low x.«data» ≡ low_byte
  pub marks-are : marks_of x ≡ marks
  pub splits-are : x.splits ≡ splits

frame-shown : (k l c : ℕ) → FrameBytes k l c → FrameShown k l c (frame_from k l c)
frame-shown k l c h = let a = marks-again k l c h.low-lt h.marks-le in record { low-is = a.0; marks-are = a.1; splits-are = refl }

no-frame-shown : (k l c : ℕ) → k + 256 * l + 65536 * c ≡ 0 → FrameShown k l c no_frame
no-frame-shown k l c h = record { low-is = omega arith; marks-are = omega arith; splits-are = omega arith }

-- frames of these bytes
module _ (k l c m n e u v w : ℕ) (ha : FrameBytes k l c) (hb : FrameBytes m n e) (hc : FrameBytes u v w) where
  abbrev places_of : ℕ → Bool → Places
  places_of held waits = places_from held waits (frame_from k l c) (frame_from m n e) (frame_from u v w)

  pub places-valid : (held : ℕ) (waits : Bool) → held ≤ 2 → ValidPlaces (places_of held waits)
  unfolding places_from
  places-valid zero waits h = tt
  places-valid (suc zero) waits h = frame-valid k l c ha
  places-valid (suc (suc zero)) true h = (frame-valid k l c ha, (frame-valid m n e hb, frame-valid u v w hc))
  places-valid (suc (suc zero)) false h = (frame-valid k l c ha, frame-valid m n e hb)
  places-valid (suc (suc (suc held))) waits h = absurd (omega arith)

  pub record PlacesShown (held : ℕ) (waits : Bool) (p : Places) : Type 0 where
    pub count : held_count p ≡ held
    pub oldest : FrameShown k l c (oldest_of p)
    pub second : FrameShown m n e (second_in p)
    pub flag : is_waiting p ≡ waits
    pub third : FrameShown u v w (third_in p)

  pub places-shown : (f : Format) (r : Reception) (held : ℕ) (waits : Bool) → held ≤ 2
      → places_fit held (k + 256 * l + 65536 * c) (m + 256 * n + 65536 * e) ≡ true
      → waiting_fits f r held waits (u + 256 * v + 65536 * w) ≡ true
      → PlacesShown held waits (places_of held waits)
  unfolding places_from places_fit waiting_fits
  places-shown f r zero true h q x = clash (and_both (eqb 0 2) (eqb (voted_bits f r) 0) x).0 refl
  places-shown f r zero false h q x =
      let p = and_both (eqb (m + 256 * n + 65536 * e) 0) (eqb (k + 256 * l + 65536 * c) 0) q in
      record {
        count = refl;
        oldest = no-frame-shown k l c (eqb-true _ 0 p.1);
        second = no-frame-shown m n e (eqb-true _ 0 p.0);
        flag = refl;
        third = no-frame-shown u v w (eqb-true _ 0 x);
      }
  places-shown f r (suc zero) true h q x = clash (and_both (eqb 1 2) (eqb (voted_bits f r) 0) x).0 refl
  places-shown f r (suc zero) false h q x = record {
    count = refl;
    oldest = frame-shown k l c ha;
    second = no-frame-shown m n e (eqb-true _ 0 q);
    flag = refl;
    third = no-frame-shown u v w (eqb-true _ 0 x);
  }
  places-shown f r (suc (suc zero)) true h q x = record {
    count = refl;
    oldest = frame-shown k l c ha;
    second = frame-shown m n e hb;
    flag = refl;
    third = frame-shown u v w hc;
  }
  places-shown f r (suc (suc zero)) false h q x = record {
    count = refl;
    oldest = frame-shown k l c ha;
    second = frame-shown m n e hb;
    flag = refl;
    third = no-frame-shown u v w (eqb-true _ 0 x);
  }
  places-shown f r (suc (suc (suc held))) waits h q x = absurd (omega arith)

-- none waits once the start bit of a frame under way is decided

pub none-voted : (f : Format) (s : Sampler) (p : Places) → ValidWaiting f s p → is_waiting p ≡ true → voted_bits f (reception_in s) ≡ 0
none-voted f (Idle last) p v e = voted-before f (reception_in (Idle last)) (omega arith)
none-voted f (Receiving r) Empty v e = clash e refl
none-voted f (Receiving r) (One a) v e = clash e refl
none-voted f (Receiving r) (Two a b) v e = clash e refl
none-voted f (Receiving r) (Three a b c) v e = elim (dec_lt 0 (voted_bits f r)) [
  | yes h ↦ absurd (omega (arith, ap length (v (omega arith))))
  | no h ↦ omega arith
]

pub waiting-fits : (f : Format) (s : Sampler) (p : Places) → ValidWaiting f s p
    → waiting_fits f (reception_in s) (held_count p) (is_waiting p) (bytes_of (third_in p)) ≡ true
unfolding waiting_fits
waiting-fits f s Empty v = refl
waiting-fits f s (One a) v = refl
waiting-fits f s (Two a b) v = refl
waiting-fits f s (Three a b c) v = and-pair (eqb 2 2) _ refl (eq-eqb _ 0 (none-voted f s (Three a b c) v refl))

none_in : (n : ℕ) (a b c : Frame) → waiting_in (places_from n false a b c) ≡ []
unfolding places_from
none_in n a b c =
    let F : Places → Type 0 = λ p. waiting_in p ≡ [] in
    pick_ind F (eqb n 0) Empty _ (λ _. refl) (λ _. pick_ind F (eqb n 1) (One a) (Two a b) (λ _. refl) (λ _. refl))

pub waiting-valid : (f : Format) (receiving last : Bool) (r : Reception) (n : ℕ) (waits : Bool) (a b c : Frame) (z : ℕ) → waiting_fits f r n waits z ≡ true
    → ValidWaiting f (sampler_from receiving last r) (places_from n waits a b c)
unfolding waiting_fits sampler_from
waiting-valid f false last r n waits a b c z h = tt
waiting-valid f true last r n true a b c z h = λ d.
    absurd (let e = eqb-true (voted_bits f r) 0 (and_both (eqb n 2) (eqb (voted_bits f r) 0) h).1 in omega arith)
waiting-valid f true last r n false a b c z h = λ _. none_in n a b c

-- a disabled receiver is stopped

pub enabled-fits : (rxen : Bool) (r : Receiver) → (rxen ≡ false → r ≡ stopped)
    → enabled_fits rxen (is_receiving r.sampler) (remembered_in r.sampler) (held_count r.queue.places) r.queue.lost ≡ true
unfolding enabled_fits
enabled-fits true r v = refl
enabled-fits false r v =
    ap (λ (x : Receiver). not (is_receiving x.sampler) && not (remembered_in x.sampler) && eqb (held_count x.queue.places) 0 && not x.queue.lost) (v refl)

abbrev receiver_of : Bool → Bool → Reception → ℕ → Bool → Frame → Frame → Frame → Bool → Receiver
receiver_of receiving last r n waits a b c lost =
    record { sampler = sampler_from receiving last r; queue = record { places = places_from n waits a b c; lost = lost } }

pub enabled-valid : (rxen receiving last : Bool) (r : Reception) (n : ℕ) (waits : Bool) (a b c : Frame) (lost : Bool) → enabled_fits rxen receiving last n lost ≡ true
    → rxen ≡ false → receiver_of receiving last r n waits a b c lost ≡ stopped
unfolding enabled_fits sampler_from places_from
enabled-valid true receiving last r n waits a b c lost h e = clash refl e
enabled-valid false receiving last r n waits a b c lost h e =
    let p = and_both (not receiving && not last && eqb n 0) (not lost) h in
    let q = and_both (not receiving && not last) (eqb n 0) p.0 in
    let s = and_both (not receiving) (not last) q.0 in
    rw (not-true receiving s.0, not-true last s.1, eqb-true n 0 q.1, not-true lost p.1) refl

-- as many as the count says
pub places_count : (n : ℕ) (waits : Bool) (a b c : Frame) → n ≤ 2 → held_count (places_from n waits a b c) ≡ n
unfolding places_from
places_count zero waits a b c h = refl
places_count (suc zero) waits a b c h = refl
places_count (suc (suc zero)) true a b c h = refl
places_count (suc (suc zero)) false a b c h = refl
places_count (suc (suc (suc n))) waits a b c h = absurd (omega arith)
