-- Demand 3 at the serial unit: the induction over the events.
use mathlib.Core.Path.{◌≡◌, refl, ◌∙◌, sym, ap, subst}
use mathlib.Core.Bool.{Bool, true, false}
use mathlib.Core.List.{List, [], ◌∷◌, ◌++◌, map, append_assoc, append-nil, map-append}
use mathlib.Core.Logic.{⊎_elim}
use Prim.Native.Nat.{ℕ, zero, suc, ◌+◌, ◌-◌, ◌*◌, ◌^◌, ◌≤◌, ◌<◌}
use native.Mathlib.Nat.{mul-le-mul_right, eq-or-lt_of_le, mod-eq_of_lt}
use native.Mathlib.Omega.{arith}
use lib.ListN.{length}
use borrow.Author.Tests.{le-ltb}
use Rattle.frame.specs.Format.{data_bits, word_bits, first_vote}
use Rattle.frame.specs.Word.{data_of, word_of, parity_error}
use Rattle.frame.specs.declared.format.Format.{Format}
use Rattle.frame.proofs.WordLaws.{data-word, parity-right}
use Rattle.usart.specs.Queue.{waiting_in, kept_in, marked_of, stored_in, started_of, taken_from}
use Rattle.usart.specs.Receiver.{frame_of, put_of, receiver_of, listened_of}
use Rattle.usart.specs.Sampler.{sampler_of}
use Rattle.usart.specs.Unit.{clock_of}
use Rattle.usart.specs.Read.{read_of}
use Rattle.usart.specs.Event.{Event, clock, write, read, vector, next_of, final_of, is_udr0, OnlyData, levels_of}
use Rattle.usart.specs.Line.{Sent, line_level, Fits, EndedBy, Shows}
use Rattle.usart.specs.Receiving.{held_by, waiting_by, is_start, outcome_at, NoneWaits, LineOn, Hears, Seen, seen_in, taken_by, reads_of, clean}
use Rattle.usart.specs.Receiving.{Arrival, arrived_in, arrived_by, arrivals_of, InTime, Delivered}
use Rattle.usart.specs.Valid.{ValidWaiting}
use Rattle.usart.specs.declared.sender.Sender.{Sender}
use Rattle.usart.specs.declared.sampler.Sampler.{Sampler}
use Rattle.usart.specs.declared.sampler.Sampler.TheVariants.{Idle, Receiving}
use Rattle.usart.specs.declared.sampler.Outcome.{Outcome}
use Rattle.usart.specs.declared.sampler.Outcome.TheVariants.{Nothing, Started, Complete}
use Rattle.usart.specs.declared.sampler.Sampled.{Sampled}
use Rattle.usart.specs.declared.queue.Frame.{Frame}
use Rattle.usart.specs.declared.queue.Places.{Places}
use Rattle.usart.specs.declared.queue.Places.TheVariants.{Empty, One, Two, Three}
use Rattle.usart.specs.declared.queue.Queue.{Queue}
use Rattle.usart.specs.declared.receiver.Receiver.{Receiver}
use Rattle.usart.specs.declared.unit.Usart.{Usart}
use Rattle.usart.specs.declared.write.Register.{Register}
use Rattle.usart.specs.declared.write.Register.TheVariants.{Ucsr0a, Ucsr0b, Ucsr0c, Ubrr0l, Ubrr0h, Udr0}
use Rattle.usart.proofs.Rates.{Rates, rates, tick-short, vote-high}
use Rattle.usart.proofs.LineLaws.{From, spaced-from, past}
use Rattle.usart.proofs.Noise.{Hits, unhit, hits, quiet-bits}
use Rattle.usart.proofs.OneTick.{Inv, GoodFor, keep, tick-good}
use Rattle.usart.proofs.ReadLaws.{read_keeps, taken-kept}
use Rattle.usart.proofs.EventLaws.{OnlySender, only-write, only-vector}
use Rattle.usart.proofs.ClockLaws.{clocked_as, ticked_as, waited_as, clock-tick, clock-wait, listened-on, outcome-tick}
use Rattle.usart.proofs.ClockLaws.{one-waits, stored-kept, started-same}
use Rattle.usart.proofs.WaitingLaws.{WaitingFor, none-waiting, started_none, taken_none, waiting-tick}

-- every frame has ended by clock J
abbrev pub AllEnded : ℕ → ℕ → ℕ → ℕ → List Sent → Type 0
AllEnded D P Q J [] = Unit {0}
AllEnded D P Q J (s ∷ ss) = (s.start * Q + (D + 2) * P ≤ J * Q) × AllEnded D P Q J ss

-- which the last one's end gives
pub all-ended : (D P Q J lo : ℕ) (ss : List Sent) → From D P Q lo ss → EndedBy D P Q J ss → AllEnded D P Q J ss
all-ended D P Q J lo [] fr en = tt
all-ended D P Q J lo (s ∷ []) fr en = (en, tt)
all-ended D P Q J lo (s ∷ t ∷ ts) fr en =
    let rest = all-ended D P Q J (s.start * Q + (D + 2) * P) (t ∷ ts) fr.1 en in
    (omega (arith, fr.1.0, rest.0), rest)

pub shows_same : (w w' : ℕ → Bool) (j : ℕ) (ls : List Bool) → ((i : ℕ) → j ≤ i → w i ≡ w' i) → Shows w j ls → Shows w' j ls
shows_same w w' j [] h o = o
shows_same w w' j (l ∷ ls) h o = (o.0 ∙ h j (omega arith), shows_same w w' (suc j) ls (λ i t. h i (omega arith)) o.1)

-- a frame that completes with its word, a high stop bit and no split vote is the line's, and clean
seen_clean : (f : Format) (s : Sent) (word : ℕ) (stop : Bool) (splits : ℕ) → s.«data» < 2 ^ data_bits f.size → word ≡ word_of f s.«data»
    → stop ≡ true → splits ≡ 0 → seen_in (marked_of (frame_of f word stop splits) false) ≡ clean s
seen_clean f s word stop splits h ew es ec =
    let d : data_of f word ≡ s.«data» = ap (data_of f) ew ∙ data-word f s.«data» ∙ mod-eq_of_lt h in
    let p : parity_error f word ≡ false = ap (parity_error f) ew ∙ parity-right f s.«data» in
    rw (d, p, es, ec)

-- those held, then one that waits
abbrev pub kept_by : Usart → List Frame
kept_by u = kept_in u.receiver.queue.places

module _ (f : Format) (ubrr P Q : ℕ) (R : Rates (first_vote f) (ubrr + 1) P Q (word_bits f)) where
  abbrev D : ℕ
  D = word_bits f

  abbrev M : ℕ
  M = ubrr + 1

  -- what no event changes
  record Stays (u : Usart) : Type 0 where
    format : u.format ≡ f
    rate : u.baud.ubrr ≡ ubrr
    rxen : u.control.rxen ≡ true

  -- a frame still to come has not ended
  none_left : (s : Sent) (ss : List Sent) (j k : ℕ) (p : Sampler) (e : Hits) → Inv f M j k p e (s ∷ ss) → s.start * Q + (D + 2) * P ≤ j * Q → ⊥
  none_left s ss j k (Idle last) e i h = omega (arith, mul-le-mul_right Q i.1, tick-short R, R.q1)
  none_left s ss j k (Receiving r) e i h =
      let v : ℕ = first_vote f in
      let w : r.bit * (2 * v) + r.sample.0 ≤ (D + 1) * (2 * v) + (v + 1) = ⊎_elim
      (λ q. omega (arith, i.end q, ap (λ (n : ℕ). n * (2 * v)) q))
      (λ t. omega (arith, i.s_s, mul-le-mul_right (2 * v) t))
      (eq-or-lt_of_le i.b_d) in
      let y : j ≤ i.a + ((D + 1) * (2 * v) + (v + 1)) * M = omega (arith, i.next, mul-le-mul_right M w) in
      let z : (i.a - s.start + ((D + 1) * (2 * v) + (v + 1)) * M) * Q < (D + 1 + 1) * P =
      vote-high R (D + 1) (v + 1) (i.a - s.start) (omega arith) (omega arith) (omega (arith, i.hi, i.lo)) in
      let x : j * Q ≤ (s.start + (i.a - s.start + ((D + 1) * (2 * v) + (v + 1)) * M)) * Q = mul-le-mul_right Q (omega (arith, i.lo)) in
      omega arith

  -- what comes of the events es from clock j on: what is kept, then the line's frames
  record Goes (fs : List Sent) (j : ℕ) (u : Usart) (es : List Event) : Type 0 where
    frames : reads_of u es ++ map seen_in (kept_by (final_of u es)) ≡ map seen_in (kept_by u) ++ map clean fs
    in_time : InTime D P Q (arrivals_of j u es) fs

  -- where the unit stands before clock j, the frames fs being still to come
  record Stands (fs : List Sent) (lo j : ℕ) (u : Usart) (e : Hits) : Type 0 where
    stays : Stays u
    unhit : e.bits ≡ 0
    no_loss : u.receiver.queue.lost ≡ false
    from : From D P Q lo fs
    fits : Fits f fs
    inv : Inv f M j u.baud.left.0 u.receiver.sampler e fs
    waiting : ValidWaiting f u.receiver.sampler u.receiver.queue.places

  -- what is asked of the events es from there on
  record Asked (fs : List Sent) (j : ℕ) (u : Usart) (es : List Event) : Type 0 where
    shows : Shows (line_level f P Q fs) j (levels_of es)
    only : OnlyData u es
    none_waits : NoneWaits u es
    ended : AllEnded D P Q (j + length (levels_of es)) fs

  abbrev Claim : List Event → Type 0
  Claim es = (fs : List Sent) (lo j : ℕ) (u : Usart) (e : Hits) → Stands fs lo j u e → Asked fs j u es → Goes fs j u es

  claim-nil : Claim []
  claim-nil [] lo j u e h a = record { frames = sym (append-nil (map seen_in (kept_by u))); in_time = tt }
  claim-nil (s ∷ ss) lo j u e h a =
      absurd (none_left s ss j u.baud.left.0 u.receiver.sampler e h.inv (omega (arith, a.ended.0)))

  -- what is to be shown of an event that leads from u to v, where n completed with it
  abbrev Then : List Event → List Sent → ℕ → List Arrival → Usart → Usart → Type 0
  Then es fs j n u v =
      (reads_of v es ++ map seen_in (kept_by (final_of v es)) ≡ map seen_in (kept_by u) ++ map clean fs) × InTime D P Q (n ++ arrivals_of j v es) fs

  -- an event that changes the sender alone
  aside : (es : List Event) → Claim es → (fs : List Sent) (lo j : ℕ) (u v : Usart) (e : Hits) → OnlySender u v → Stands fs lo j u e → Asked fs j v es
      → Then es fs j [] u v
  aside es ih fs lo j u v e (s, eq) h a =
      let d = ih fs lo j v e (subst (λ (x : Usart). Stands fs lo j x e) (sym eq) (record {
        stays = record { format = h.stays.format; rate = h.stays.rate; rxen = h.stays.rxen };
        unhit = h.unhit;
        no_loss = h.no_loss;
        from = h.from;
        fits = h.fits;
        inv = h.inv;
        waiting = h.waiting;
      })) a in
      (d.frames ∙ ap (λ (x : Usart). map seen_in (kept_by x) ++ map clean fs) eq, d.in_time)

  -- a read of UDR0
  popped : (es : List Event) → Claim es → Claim (read Udr0 ∷ es)
  popped es ih fs lo j u e h a =
      let v : Usart = next_of u (read Udr0) in
      let d = ih fs lo j v e (record {
        stays = record { format = h.stays.format; rate = h.stays.rate; rxen = h.stays.rxen };
        unhit = h.unhit;
        no_loss = h.no_loss;
        from = h.from;
        fits = h.fits;
        inv = h.inv;
        waiting = none-waiting f u.receiver.sampler (taken_from u.receiver.queue.places) (taken_none u.receiver.queue.places);
      }) (record { shows = a.shows; only = a.only; none_waits = a.none_waits; ended = a.ended }) in
      let t : List Seen = taken_by u (read Udr0) in
      record {
        frames =
            append_assoc t (reads_of v es) (map seen_in (kept_by (final_of v es))) ∙ ap (λ (x : List Seen). t ++ x) d.frames
            ∙ sym (append_assoc t (map seen_in (kept_by v)) (map clean fs)) ∙ ap (λ (x : List Seen). x ++ map clean fs) (taken-kept u);
        in_time = d.in_time;
      }

  -- a read of another register changes nothing
  looked : (es : List Event) → Claim es → (r : Register) → is_udr0 r ≡ false → Claim (read r ∷ es)
  looked es ih r o fs lo j u e h a =
      let same : (read_of u r).after ≡ u = read_keeps u r o in
      let d = ih fs lo j u e h (subst (λ (x : Usart). Asked fs j x es) same (record {
        shows = a.shows;
        only = a.only;
        none_waits = a.none_waits;
        ended = a.ended;
      })) in
      let t = subst (λ (x : Usart). Then es fs j [] u x) (sym same) (d.frames, d.in_time) in
      record { frames = rw o t.0; in_time = t.1 }

  -- where the unit stands after a clock that leads to v
  stands : (fs : List Sent) (lo j k : ℕ) (u v : Usart) (s : Sender) (r : Receiver) (e : Hits) → v ≡ clocked_as u k s r → Stays u → e.bits ≡ 0
      → r.queue.lost ≡ false → From D P Q lo fs → Fits f fs → Inv f M j k r.sampler e fs → ValidWaiting f r.sampler r.queue.places
      → Stands fs lo j v e
  stands fs lo j k u v s r e eq st un nl fr fi i w =
      subst (λ (x : Usart). Stands fs lo j x e) (sym eq) (record {
        stays = record { format = st.format; rate = st.rate; rxen = st.rxen };
        unhit = un;
        no_loss = nl;
        from = fr;
        fits = fi;
        inv = i;
        waiting = w;
      })

  pub none_came : (j : ℕ) (p q : Places) → kept_in q ≡ kept_in p → arrived_in j p q ≡ []
  none_came j p q e = rw (le-ltb (length (kept_in p)) (length (kept_in q)) (omega (arith, ap length e)))

  -- a clock that leads to v and leaves the queue as it was
  passed : (es : List Event) → Claim es → (fs : List Sent) (lo j : ℕ) (u v : Usart) (e : Hits) → v.receiver.queue ≡ u.receiver.queue
      → Stands fs lo (suc j) v e → Asked fs (suc j) v es → Then es fs (suc j) (arrived_by j u v) u v
  passed es ih fs lo j u v e same h a =
      let kept : kept_by v ≡ kept_by u = ap (λ (q : Queue). kept_in q.places) same in
      let d = ih fs lo (suc j) v e h a in (
        d.frames ∙ ap (λ (x : List Frame). map seen_in x ++ map clean fs) kept,
        rw (none_came j u.receiver.queue.places v.receiver.queue.places kept) d.in_time,
      )

  -- a frame that completes while none waits is held if a place is free, else it waits
  pub comes : (j : ℕ) (p : Places) (lost : Bool) (x : Frame) (s : Sent) (ss : List Sent) (bs : List Arrival) → waiting_in p ≡ [] → s.start ≤ j
      → (j - s.start) * Q < (D + 2) * P → InTime D P Q bs ss → InTime D P Q (arrived_in j p (stored_in p lost x).places ++ bs) (s ∷ ss)
  comes j Empty lost x s ss bs w b t r = (record { began = b; in_time = t; held = λ _. refl; waits = λ e. sym e }, r)
  comes j (One a) lost x s ss bs w b t r = (record { began = b; in_time = t; held = λ _. refl; waits = λ e. sym e }, r)
  comes j (Two a c) lost x s ss bs w b t r = (record { began = b; in_time = t; held = λ e. e; waits = λ _. refl }, r)
  comes j (Three a c d) lost x s ss bs w b t r = absurd (one-waits d w)

  -- a tick that leads to v, with its outcome
  after : (es : List Event) → Claim es → (fs : List Sent) (lo j : ℕ) (u v : Usart) (p : Sampler) (o : Outcome) (e e' : Hits)
      → v ≡ ticked_as u (record { sampler = p; queue = put_of f u.receiver.queue o }) → Stands fs lo j u e → e'.bits ≡ 0
      → GoodFor f M P Q j ubrr p e' fs o → WaitingFor f p u.receiver.queue.places o → (is_start o ≡ true → waiting_by u ≡ [])
      → Asked fs (suc j) v es → Then es fs (suc j) (arrived_by j u v) u v
  after es ih fs lo j u v p Nothing e e' eq h un g w ns a =
      passed es ih fs lo j u v e' (ap (λ (x : Usart). x.receiver.queue) eq)
      (stands fs lo (suc j) u.baud.ubrr u v _ _ e' eq h.stays un h.no_loss h.from h.fits (rw h.stays.rate g) w) a
  after es ih fs lo j u v p Started e e' eq h un g w ns a =
      let q : Queue = u.receiver.queue in
      let same : started_of q ≡ q = started-same q (ns refl) in
      passed es ih fs lo j u v e' (ap (λ (x : Usart). x.receiver.queue) eq ∙ same)
      (stands fs lo (suc j) u.baud.ubrr u v _ _ e' eq h.stays un (ap (λ (x : Queue). x.lost) same ∙ h.no_loss) h.from h.fits
      (rw h.stays.rate g) (none-waiting f p (started_of q).places (started_none q))) a
  after es ih [] lo j u v p (Complete word stop splits) e e' eq h un g w ns a = absurd g
  after es ih (s ∷ ss) lo j u v p (Complete word stop splits) e e' eq h un g w ns a =
      let q : Queue = u.receiver.queue in
      let x : Frame = marked_of (frame_of f word stop splits) q.lost in
      let c = g.0 in
      let put = stored-kept q.places q.lost (frame_of f word stop splits) w.0 in
      let kept : kept_by v ≡ kept_by u ++ (x ∷ []) = ap kept_by eq ∙ put.0 in
      let same : seen_in x ≡ clean s =
      ap (λ (b : Bool). seen_in (marked_of (frame_of f word stop splits) b)) h.no_loss
      ∙ seen_clean f s word stop splits h.fits.0 c.bits c.high (c.count ∙ un) in
      let rest : (i : ℕ) → suc j ≤ i → line_level f P Q (s ∷ ss) i ≡ line_level f P Q ss i =
      λ i t. past f P Q s ss i R.p1 h.from.1 (omega (arith, c.began))
      (let z : (j - s.start) * Q ≤ (i - s.start) * Q = mul-le-mul_right Q (omega arith) in omega (arith, c.over)) in
      let d = ih ss (s.start * Q + (D + 2) * P) (suc j) v e'
      (stands ss (s.start * Q + (D + 2) * P) (suc j) u.baud.ubrr u v _ _ e' eq h.stays un put.1 h.from.1 h.fits.1
      (rw h.stays.rate g.1) (w.1 _))
      (record {
        shows = shows_same (line_level f P Q (s ∷ ss)) (line_level f P Q ss) (suc j) (levels_of es) rest a.shows;
        only = a.only;
        none_waits = a.none_waits;
        ended = a.ended.1;
      }) in (
        d.frames ∙ ap (λ (t : List Frame). map seen_in t ++ map clean ss) kept
            ∙ ap (λ (t : List Seen). t ++ map clean ss) (map-append seen_in (kept_by u) (x ∷ []))
            ∙ append_assoc (map seen_in (kept_by u)) (seen_in x ∷ []) (map clean ss)
            ∙ ap (λ (y : Seen). map seen_in (kept_by u) ++ (y ∷ map clean ss)) same,
        subst (λ (y : Places). InTime D P Q (arrived_in j q.places y ++ arrivals_of (suc j) v es) (s ∷ ss))
            (sym (ap (λ (y : Usart). y.receiver.queue.places) eq))
            (comes j q.places q.lost (frame_of f word stop splits) s ss (arrivals_of (suc j) v es) w.0 c.began c.in_time d.in_time),
      )

  -- what is asked of the events after a clock
  onward : (es : List Event) (fs : List Sent) (j : ℕ) (u : Usart) (l : Bool) → Asked fs j u (clock l ∷ es) → Asked fs (suc j) (clock_of u l) es
  onward es fs j u l a = record {
    shows = a.shows.1;
    only = a.only;
    none_waits = a.none_waits.1;
    ended = subst (λ (n : ℕ). AllEnded D P Q n fs) (omega arith) a.ended;
  }

  -- a clock, by the baud counter before it
  clocked : (es : List Event) → Claim es → (fs : List Sent) (lo j : ℕ) (u : Usart) (e : Hits) (l : Bool) → Stands fs lo j u e → Asked fs j u (clock l ∷ es)
      → (k : ℕ) → u.baud.left.0 ≡ k → Then es fs (suc j) (arrived_by j u (clock_of u l)) u (clock_of u l)
  clocked es ih fs lo j u e l h a zero left =
      let p : Sampler = u.receiver.sampler in
      let o : Sampled = sampler_of f p l in
      let heard : listened_of u.control.rxen u.format u.receiver l ≡ record { sampler = o.sampler; queue = put_of f u.receiver.queue o.outcome } =
      listened-on u.control.rxen u.format u.receiver l h.stays.rxen ∙ ap (λ (x : Format). receiver_of x u.receiver l) h.stays.format in
      let done : outcome_at u l ≡ o.outcome =
      outcome-tick u l left h.stays.rxen ∙ ap (λ (x : Format). (sampler_of x p l).outcome) h.stays.format in
      let i : Inv f M j 0 p e fs = rw left at h.inv in
      after es ih fs lo j u (clock_of u l) o.sampler o.outcome e (hits f p e false) (clock-tick u l left ∙ ap (ticked_as u) heard) h
      (quiet-bits f p e h.unhit) (tick-good f ubrr P Q R fs lo j p e false l h.from a.shows.0 tt i)
      (waiting-tick f u.receiver.queue.places p l h.waiting) (λ q. a.none_waits.0 (ap is_start done ∙ q)) (onward es fs j u l a)
  clocked es ih fs lo j u e l h a (suc k) left =
      let eq : clock_of u l ≡ waited_as u k = clock-wait u l k left in
      passed es ih fs lo j u (clock_of u l) e (ap (λ (x : Usart). x.receiver.queue) eq)
      (stands fs lo (suc j) k u (clock_of u l) u.sender u.receiver e eq h.stays h.unhit h.no_loss h.from h.fits
      (keep f M j k u.receiver.sampler e fs (rw left at h.inv)) h.waiting)
      (onward es fs j u l a)

  claim-read : (es : List Event) → Claim es → (r : Register) → Claim (read r ∷ es)
  claim-read es ih Ucsr0a = looked es ih Ucsr0a refl
  claim-read es ih Ucsr0b = looked es ih Ucsr0b refl
  claim-read es ih Ucsr0c = looked es ih Ucsr0c refl
  claim-read es ih Ubrr0l = looked es ih Ubrr0l refl
  claim-read es ih Ubrr0h = looked es ih Ubrr0h refl
  claim-read es ih Udr0 = popped es ih

  claim : (es : List Event) → Claim es
  claim [] = claim-nil
  claim (clock l ∷ es) = λ fs lo j u e h a.
      let t = clocked es (claim es) fs lo j u e l h a u.baud.left.0 refl in
      record { frames = t.0; in_time = t.1 }
  claim (write r v ∷ es) = λ fs lo j u e h a.
      let t = aside es (claim es) fs lo j u (next_of u (write r v)) e (only-write u r v a.only.0) h
      (record { shows = a.shows; only = a.only.1; none_waits = a.none_waits; ended = a.ended }) in
      record { frames = t.0; in_time = t.1 }
  claim (vector ∷ es) = λ fs lo j u e h a.
      let t = aside es (claim es) fs lo j u (next_of u vector) e (only-vector u) h
      (record { shows = a.shows; only = a.only; none_waits = a.none_waits; ended = a.ended }) in
      record { frames = t.0; in_time = t.1 }
  claim (read r ∷ es) = claim-read es (claim es) r

-- exactly the line's frames come out, in order, clean and in time
pub receives : (P Q : ℕ) (fs : List Sent) (u : Usart) (es : List Event) → Hears P Q fs u es
    → Delivered P Q fs u.format (reads_of u es) (held_by (final_of u es)) (waiting_by (final_of u es)) (arrivals_of 0 u es)
receives P Q fs u es h =
    let f : Format = u.format in
    let l : LineOn P Q fs f u.baud.ubrr (levels_of es) = h.line in
    let fr : From (word_bits f) P Q 0 fs = spaced-from (word_bits f) P Q l.p1 fs l.spaced in
    let d = claim f u.baud.ubrr P Q (rates f u.baud.ubrr P Q l.p1 l.q1 l.within) es fs 0 0 u unhit (record {
      stays = record { format = refl; rate = refl; rxen = h.ready.enabled };
      unhit = refl;
      no_loss = h.ready.no_loss;
      from = fr;
      fits = l.fits;
      inv = start fs;
      waiting = rw h.ready.idle tt;
    }) (record {
      shows = l.shows;
      only = h.only_data;
      none_waits = h.none_waits;
      ended = subst (λ (n : ℕ). AllEnded (word_bits f) P Q n fs) (omega arith) (all-ended (word_bits f) P Q (length (levels_of es)) 0 fs fr l.ended);
    }) in
    record { frames = d.frames ∙ ap (λ (p : Places). map seen_in (kept_in p) ++ map clean fs) h.ready.empty; in_time = d.in_time }
  where
    start : (ss : List Sent) → Inv u.format (u.baud.ubrr + 1) 0 u.baud.left.0 u.receiver.sampler unhit ss
    start [] = rw h.ready.idle
    start (s ∷ ss) = rw h.ready.idle (refl, omega (arith, h.ready.counter))
