-- Demand 3 at the serial unit with noise, and that without noise it is demand 3: the induction over the events.
use mathlib.Core.Path.{◌≡◌, refl, ◌∙◌, sym, ap, ap₂, subst}
use mathlib.Core.Bool.{Bool, true, false}
use mathlib.Core.List.{List, [], ◌∷◌, ◌++◌, map, append_assoc, append-nil, map-append}
use Prim.Native.Nat.{ℕ, zero, suc, ◌+◌, ◌-◌, ◌*◌, ◌^◌, ◌≤◌, ◌<◌}
use native.Mathlib.Nat.{mul-le-mul_right, mod-eq_of_lt}
use native.Mathlib.Omega.{arith}
use lib.ListN.{length}
use Rattle.frame.specs.Format.{data_bits, word_bits, first_vote}
use Rattle.frame.specs.Word.{data_of, word_of, parity_error}
use Rattle.frame.specs.declared.format.Format.{Format}
use Rattle.frame.proofs.WordLaws.{data-word, parity-right}
use Rattle.usart.specs.Queue.{kept_in, marked_of, started_of, taken_from}
use Rattle.usart.specs.Receiver.{frame_of, put_of, receiver_of, listened_of}
use Rattle.usart.specs.Sampler.{sampler_of}
use Rattle.usart.specs.Unit.{clock_of}
use Rattle.usart.specs.Read.{read_of}
use Rattle.usart.specs.Event.{Event, clock, write, read, vector, next_of, final_of, is_udr0, OnlyData, levels_of}
use Rattle.usart.specs.Line.{Sent, line_level, Fits, Shows}
use Rattle.usart.specs.Noise.{Noise, Allowed, turn, noisy_level, no_noise}
use Rattle.usart.specs.Votes.{Cast, cast_in, cast_by, votes_of, votes_on}
use Rattle.usart.specs.Receiving.{held_by, waiting_by, is_start, outcome_at, NoneWaits, LineOn, Hears, Seen, seen_in, taken_by, reads_of}
use Rattle.usart.specs.Receiving.{clean, Arrival, arrived_in, arrived_by, arrivals_of, InTime, Delivered}
use Rattle.usart.specs.NoisyReceiving.{LineOnWire, HearsNoisy, clean_with, heard, DeliveredAs}
use Rattle.usart.specs.Valid.{ValidWaiting}
use Rattle.usart.specs.declared.baud.Baud.{Baud}
use Rattle.usart.specs.declared.sender.Sender.{Sender}
use Rattle.usart.specs.declared.sampler.Sampler.{Sampler}
use Rattle.usart.specs.declared.sampler.Sampler.TheVariants.{Idle, Receiving}
use Rattle.usart.specs.declared.sampler.Outcome.{Outcome}
use Rattle.usart.specs.declared.sampler.Outcome.TheVariants.{Nothing, Started, Complete}
use Rattle.usart.specs.declared.sampler.Sampled.{Sampled}
use Rattle.usart.specs.declared.queue.Frame.{Frame}
use Rattle.usart.specs.declared.queue.Places.{Places}
use Rattle.usart.specs.declared.queue.Queue.{Queue}
use Rattle.usart.specs.declared.receiver.Receiver.{Receiver}
use Rattle.usart.specs.declared.unit.Usart.{Usart}
use Rattle.usart.specs.declared.write.Register.{Register}
use Rattle.usart.specs.declared.write.Register.TheVariants.{Ucsr0a, Ucsr0b, Ucsr0c, Ubrr0l, Ubrr0h, Udr0}
use Rattle.usart.proofs.Rates.{Rates, rates, tick-short}
use Rattle.usart.proofs.LineLaws.{From, spaced-from, past}
use Rattle.usart.proofs.TickLaws.{Phase, phase-first, phase-tick, phase-wait}
use Rattle.usart.proofs.NoiseLaws.{turned_none, none_allowed, bits_none, turned-past}
use Rattle.usart.proofs.ReceivingLine.{AllEnded, all-ended, shows_same, kept_by, none_came, comes}
use Rattle.usart.proofs.NoisyTick.{Inv, GoodFor, keep, under-way, tick-good}
use Rattle.usart.proofs.VotingLaws.{ahead, ahead_by, votes-tick}
use Rattle.usart.proofs.ReadLaws.{read_keeps, taken-kept}
use Rattle.usart.proofs.EventLaws.{OnlySender, only-write, only-vector}
use Rattle.usart.proofs.ClockLaws.{clocked_as, ticked_as, waited_as, clock-tick, clock-wait, listened-on, outcome-tick}
use Rattle.usart.proofs.ClockLaws.{cast-tick, cast-wait, stored-kept, started-same}
use Rattle.usart.proofs.WaitingLaws.{WaitingFor, none-waiting, started_none, taken_none, waiting-tick}

-- a frame that completes with its word and a high stop bit is the line's, and clean
seen_clean : (f : Format) (s : Sent) (word : ℕ) (stop : Bool) (splits : ℕ) → s.«data» < 2 ^ data_bits f.size → word ≡ word_of f s.«data»
    → stop ≡ true → seen_in (marked_of (frame_of f word stop splits) false) ≡ clean_with splits s
seen_clean f s word stop splits h ew es =
    let d : data_of f word ≡ s.«data» = ap (data_of f) ew ∙ data-word f s.«data» ∙ mod-eq_of_lt h in
    let p : parity_error f word ≡ false = ap (parity_error f) ew ∙ parity-right f s.«data» in
    rw (d, p, es)

module _ (f : Format) (c : Baud) (noise : Noise) (P Q : ℕ) (R : Rates (first_vote f) (c.ubrr + 1) P Q (word_bits f)) (allowed : Allowed (word_bits f) noise) where
  abbrev D : ℕ
  D = word_bits f

  -- the levels of the wire
  abbrev wire : List Sent → ℕ → Bool
  wire fs = noisy_level f c P Q noise fs

  -- the frames as they are to be seen
  abbrev seen : List Sent → List Seen
  seen fs = map (heard f noise) fs

  -- the votes still to be taken
  abbrev votes_ahead : Usart → List Sent → List Cast
  votes_ahead u fs = ahead f c noise u.receiver.sampler fs

  -- what no event changes
  record Stays (u : Usart) : Type 0 where
    format : u.format ≡ f
    rate : u.baud.ubrr ≡ c.ubrr
    rxen : u.control.rxen ≡ true

  -- a frame still to come has not ended
  none_left : (s : Sent) (ss : List Sent) (j k : ℕ) (p : Sampler) → Inv f c noise j k p (s ∷ ss) → s.start * Q + (D + 2) * P ≤ j * Q → ⊥
  none_left s ss j k (Idle last) i h = omega (arith, mul-le-mul_right Q i.1, tick-short R, R.q1)
  none_left s ss j k (Receiving r) i h =
      let x : j * Q ≤ (s.start + (j + k - s.start)) * Q = mul-le-mul_right Q (omega arith) in
      omega (arith, under-way f c noise P Q R allowed s j k r i)

  -- what comes of the events es from clock j on: what is kept, then the line's frames; and the votes taken are the
  -- line's
  record Goes (fs : List Sent) (j : ℕ) (u : Usart) (es : List Event) : Type 0 where
    frames : reads_of u es ++ map seen_in (kept_by (final_of u es)) ≡ map seen_in (kept_by u) ++ seen fs
    in_time : InTime D P Q (arrivals_of j u es) fs
    votes : votes_of j u es ≡ votes_ahead u fs

  -- where the unit stands before clock j, the frames fs being still to come
  record Stands (fs : List Sent) (lo j : ℕ) (u : Usart) : Type 0 where
    stays : Stays u
    phase : Phase c j u.baud.left.0
    no_loss : u.receiver.queue.lost ≡ false
    from : From D P Q lo fs
    fits : Fits f fs
    inv : Inv f c noise j u.baud.left.0 u.receiver.sampler fs
    waiting : ValidWaiting f u.receiver.sampler u.receiver.queue.places

  -- what is asked of the events es from there on
  record Asked (fs : List Sent) (j : ℕ) (u : Usart) (es : List Event) : Type 0 where
    shows : Shows (wire fs) j (levels_of es)
    only : OnlyData u es
    none_waits : NoneWaits u es
    ended : AllEnded D P Q (j + length (levels_of es)) fs

  abbrev Claim : List Event → Type 0
  Claim es = (fs : List Sent) (lo j : ℕ) (u : Usart) → Stands fs lo j u → Asked fs j u es → Goes fs j u es

  claim-nil : Claim []
  unfolding votes_on
  claim-nil [] lo j u h a = record {
    frames = sym (append-nil (map seen_in (kept_by u)));
    in_time = tt;
    votes = none_ahead u.receiver.sampler;
  }
    where
      none_ahead : (p : Sampler) → [] ≡ ahead f c noise p []
      none_ahead (Idle last) = refl
      none_ahead (Receiving r) = refl
  claim-nil (s ∷ ss) lo j u h a =
      absurd (none_left s ss j u.baud.left.0 u.receiver.sampler h.inv (omega (arith, a.ended.0)))

  -- what is to be shown of an event that leads from u to v, where n completed and w was cast with it
  record Then (es : List Event) (fs : List Sent) (j : ℕ) (n : List Arrival) (w : List Cast) (u v : Usart) : Type 0 where
    frames : reads_of v es ++ map seen_in (kept_by (final_of v es)) ≡ map seen_in (kept_by u) ++ seen fs
    in_time : InTime D P Q (n ++ arrivals_of j v es) fs
    votes : w ++ votes_of j v es ≡ votes_ahead u fs

  -- an event that changes the sender alone
  aside : (es : List Event) → Claim es → (fs : List Sent) (lo j : ℕ) (u v : Usart) → OnlySender u v → Stands fs lo j u → Asked fs j v es
      → Then es fs j [] [] u v
  aside es ih fs lo j u v (s, eq) h a =
      let d = ih fs lo j v (subst (λ (x : Usart). Stands fs lo j x) (sym eq) (record {
        stays = record { format = h.stays.format; rate = h.stays.rate; rxen = h.stays.rxen };
        phase = h.phase;
        no_loss = h.no_loss;
        from = h.from;
        fits = h.fits;
        inv = h.inv;
        waiting = h.waiting;
      })) a in
      record {
        frames = d.frames ∙ ap (λ (x : Usart). map seen_in (kept_by x) ++ seen fs) eq;
        in_time = d.in_time;
        votes = d.votes ∙ ap (λ (x : Usart). votes_ahead x fs) eq;
      }

  -- a read of UDR0
  popped : (es : List Event) → Claim es → Claim (read Udr0 ∷ es)
  popped es ih fs lo j u h a =
      let v : Usart = next_of u (read Udr0) in
      let d = ih fs lo j v (record {
        stays = record { format = h.stays.format; rate = h.stays.rate; rxen = h.stays.rxen };
        phase = h.phase;
        no_loss = h.no_loss;
        from = h.from;
        fits = h.fits;
        inv = h.inv;
        waiting = none-waiting f u.receiver.sampler (taken_from u.receiver.queue.places) (taken_none u.receiver.queue.places);
      }) (record { shows = a.shows; only = a.only; none_waits = a.none_waits; ended = a.ended }) in
      let t : List Seen = taken_by u (read Udr0) in
      record {
        frames =
            append_assoc t (reads_of v es) (map seen_in (kept_by (final_of v es))) ∙ ap (λ (x : List Seen). t ++ x) d.frames
            ∙ sym (append_assoc t (map seen_in (kept_by v)) (seen fs)) ∙ ap (λ (x : List Seen). x ++ seen fs) (taken-kept u);
        in_time = d.in_time;
        votes = d.votes;
      }

  -- a read of another register changes nothing
  looked : (es : List Event) → Claim es → (r : Register) → is_udr0 r ≡ false → Claim (read r ∷ es)
  looked es ih r o fs lo j u h a =
      let same : (read_of u r).after ≡ u = read_keeps u r o in
      let d = ih fs lo j u h (subst (λ (x : Usart). Asked fs j x es) same (record {
        shows = a.shows;
        only = a.only;
        none_waits = a.none_waits;
        ended = a.ended;
      })) in
      let t = subst (λ (x : Usart). Then es fs j [] [] u x) (sym same) (record { frames = d.frames; in_time = d.in_time; votes = d.votes }) in
      record { frames = rw o t.frames; in_time = t.in_time; votes = t.votes }

  -- where the unit stands after a clock that leads to v
  stands : (fs : List Sent) (lo j k : ℕ) (u v : Usart) (s : Sender) (r : Receiver) → v ≡ clocked_as u k s r → Stays u → Phase c j k
      → r.queue.lost ≡ false → From D P Q lo fs → Fits f fs → Inv f c noise j k r.sampler fs → ValidWaiting f r.sampler r.queue.places
      → Stands fs lo j v
  stands fs lo j k u v s r eq st ph nl fr fi i w =
      subst (λ (x : Usart). Stands fs lo j x) (sym eq) (record {
        stays = record { format = st.format; rate = st.rate; rxen = st.rxen };
        phase = ph;
        no_loss = nl;
        from = fr;
        fits = fi;
        inv = i;
        waiting = w;
      })

  -- a clock that leads to v, casts w and leaves the queue as it was
  passed : (es : List Event) → Claim es → (fs : List Sent) (lo j : ℕ) (w : List Cast) (u v : Usart) → v.receiver.queue ≡ u.receiver.queue
      → w ++ votes_ahead v fs ≡ votes_ahead u fs → Stands fs lo (suc j) v → Asked fs (suc j) v es → Then es fs (suc j) (arrived_by j u v) w u v
  passed es ih fs lo j w u v same vs h a =
      let kept : kept_by v ≡ kept_by u = ap (λ (q : Queue). kept_in q.places) same in
      let d = ih fs lo (suc j) v h a in
      record {
        frames = d.frames ∙ ap (λ (x : List Frame). map seen_in x ++ seen fs) kept;
        in_time = rw (none_came f c.ubrr P Q R j u.receiver.queue.places v.receiver.queue.places kept) d.in_time;
        votes = ap (λ (x : List Cast). w ++ x) d.votes ∙ vs;
      }

  -- a tick that leads to v and casts y, with its outcome
  after : (es : List Event) → Claim es → (fs : List Sent) (lo j : ℕ) (u v : Usart) (p : Sampler) (o : Outcome) (y : List Cast)
      → v ≡ ticked_as u (record { sampler = p; queue = put_of f u.receiver.queue o }) → Stands fs lo j u → Phase c (suc j) c.ubrr
      → GoodFor f c noise P Q j p fs o → WaitingFor f p u.receiver.queue.places o → (is_start o ≡ true → waiting_by u ≡ [])
      → y ++ ahead_by f c noise o p fs ≡ votes_ahead u fs → Asked fs (suc j) v es → Then es fs (suc j) (arrived_by j u v) y u v
  after es ih fs lo j u v p Nothing y eq h ph g w ns vs a =
      passed es ih fs lo j y u v (ap (λ (x : Usart). x.receiver.queue) eq)
      (ap (λ (x : Usart). y ++ votes_ahead x fs) eq ∙ vs)
      (stands fs lo (suc j) u.baud.ubrr u v _ _ eq h.stays (rw h.stays.rate ph) h.no_loss h.from h.fits
      (rw h.stays.rate g) w) a
  after es ih fs lo j u v p Started y eq h ph g w ns vs a =
      let q : Queue = u.receiver.queue in
      let same : started_of q ≡ q = started-same q (ns refl) in
      passed es ih fs lo j y u v (ap (λ (x : Usart). x.receiver.queue) eq ∙ same)
      (ap (λ (x : Usart). y ++ votes_ahead x fs) eq ∙ vs)
      (stands fs lo (suc j) u.baud.ubrr u v _ _ eq h.stays (rw h.stays.rate ph) (ap (λ (x : Queue). x.lost) same ∙ h.no_loss)
      h.from h.fits (rw h.stays.rate g) (none-waiting f p (started_of q).places (started_none q))) a
  after es ih [] lo j u v p (Complete word stop splits) y eq h ph g w ns vs a = absurd g
  after es ih (s ∷ ss) lo j u v p (Complete word stop splits) y eq h ph g w ns vs a =
      let q : Queue = u.receiver.queue in
      let x : Frame = marked_of (frame_of f word stop splits) q.lost in
      let done = g.0 in
      let put = stored-kept q.places q.lost (frame_of f word stop splits) w.0 in
      let kept : kept_by v ≡ kept_by u ++ (x ∷ []) = ap kept_by eq ∙ put.0 in
      let same : seen_in x ≡ heard f noise s =
      ap (λ (b : Bool). seen_in (marked_of (frame_of f word stop splits) b)) h.no_loss
      ∙ seen_clean f s word stop splits h.fits.0 done.bits done.high ∙ ap (λ (n : ℕ). clean_with n s) done.count in
      let rest : (i : ℕ) → suc j ≤ i → wire (s ∷ ss) i ≡ wire ss i =
      λ i t. ap₂ turn (turned-past f c noise P Q s ss i allowed (omega (arith, done.last)))
      (past f P Q s ss i R.p1 h.from.1 (omega (arith, done.began))
      (let z : (j - s.start) * Q ≤ (i - s.start) * Q = mul-le-mul_right Q (omega arith) in omega (arith, done.over))) in
      let d = ih ss (s.start * Q + (D + 2) * P) (suc j) v
      (stands ss (s.start * Q + (D + 2) * P) (suc j) u.baud.ubrr u v _ _ eq h.stays (rw h.stays.rate ph) put.1 h.from.1
      h.fits.1 (rw h.stays.rate g.1) (w.1 _))
      (record {
        shows = shows_same (wire (s ∷ ss)) (wire ss) (suc j) (levels_of es) rest a.shows;
        only = a.only;
        none_waits = a.none_waits;
        ended = a.ended.1;
      }) in
      record {
        frames =
            d.frames ∙ ap (λ (t : List Frame). map seen_in t ++ seen ss) kept
            ∙ ap (λ (t : List Seen). t ++ seen ss) (map-append seen_in (kept_by u) (x ∷ []))
            ∙ append_assoc (map seen_in (kept_by u)) (seen_in x ∷ []) (seen ss)
            ∙ ap (λ (z : Seen). map seen_in (kept_by u) ++ (z ∷ seen ss)) same;
        in_time =
            subst (λ (z : Places). InTime D P Q (arrived_in j q.places z ++ arrivals_of (suc j) v es) (s ∷ ss))
            (sym (ap (λ (z : Usart). z.receiver.queue.places) eq))
            (comes f c.ubrr P Q R j q.places q.lost (frame_of f word stop splits) s ss (arrivals_of (suc j) v es) w.0 done.began done.in_time d.in_time);
        votes = ap (λ (z : List Cast). y ++ z) (d.votes ∙ ap (λ (z : Usart). votes_ahead z ss) eq) ∙ vs;
      }

  -- what is asked of the events after a clock
  onward : (es : List Event) (fs : List Sent) (j : ℕ) (u : Usart) (l : Bool) → Asked fs j u (clock l ∷ es) → Asked fs (suc j) (clock_of u l) es
  onward es fs j u l a = record {
    shows = a.shows.1;
    only = a.only;
    none_waits = a.none_waits.1;
    ended = subst (λ (n : ℕ). AllEnded D P Q n fs) (omega arith) a.ended;
  }

  -- a clock, by the baud counter before it
  clocked : (es : List Event) → Claim es → (fs : List Sent) (lo j : ℕ) (u : Usart) (l : Bool) → Stands fs lo j u → Asked fs j u (clock l ∷ es)
      → (k : ℕ) → u.baud.left.0 ≡ k → Then es fs (suc j) (arrived_by j u (clock_of u l)) (cast_by j u l) u (clock_of u l)
  clocked es ih fs lo j u l h a zero left =
      let p : Sampler = u.receiver.sampler in
      let o : Sampled = sampler_of f p l in
      let listened : listened_of u.control.rxen u.format u.receiver l ≡ record { sampler = o.sampler; queue = put_of f u.receiver.queue o.outcome } =
      listened-on u.control.rxen u.format u.receiver l h.stays.rxen ∙ ap (λ (x : Format). receiver_of x u.receiver l) h.stays.format in
      let done : outcome_at u l ≡ o.outcome =
      outcome-tick u l left h.stays.rxen ∙ ap (λ (x : Format). (sampler_of x p l).outcome) h.stays.format in
      let now : cast_by j u l ≡ cast_in f j p l = cast-tick j u l left h.stays.rxen ∙ ap (λ (x : Format). cast_in x j p l) h.stays.format in
      let ph : Phase c j 0 = rw left at h.phase in
      let i : Inv f c noise j 0 p fs = rw left at h.inv in
      let good : GoodFor f c noise P Q j o.sampler fs o.outcome = tick-good f c noise P Q R allowed fs lo j p l h.from a.shows.0 ph i in
      after es ih fs lo j u (clock_of u l) o.sampler o.outcome (cast_by j u l) (clock-tick u l left ∙ ap (ticked_as u) listened) h
      (phase-tick c j ph) good (waiting-tick f u.receiver.queue.places p l h.waiting) (λ q. a.none_waits.0 (ap is_start done ∙ q))
      (ap (λ (x : List Cast). x ++ ahead_by f c noise o.outcome o.sampler fs) now
      ∙ votes-tick f c noise P Q R allowed fs lo j p o.sampler o.outcome l h.from a.shows.0 i good)
      (onward es fs j u l a)
  clocked es ih fs lo j u l h a (suc k) left =
      let eq : clock_of u l ≡ waited_as u k = clock-wait u l k left in
      passed es ih fs lo j (cast_by j u l) u (clock_of u l) (ap (λ (x : Usart). x.receiver.queue) eq)
      (ap₂ (λ (w : List Cast) (x : Usart). w ++ votes_ahead x fs) (cast-wait j u l k left) eq)
      (stands fs lo (suc j) k u (clock_of u l) u.sender u.receiver eq h.stays (phase-wait c j k (rw left at h.phase)) h.no_loss h.from h.fits
      (keep f c noise j k u.receiver.sampler fs (rw left at h.inv)) h.waiting)
      (onward es fs j u l a)

  claim-read : (es : List Event) → Claim es → (r : Register) → Claim (read r ∷ es)
  claim-read es ih Ucsr0a = looked es ih Ucsr0a refl
  claim-read es ih Ucsr0b = looked es ih Ucsr0b refl
  claim-read es ih Ucsr0c = looked es ih Ucsr0c refl
  claim-read es ih Ubrr0l = looked es ih Ubrr0l refl
  claim-read es ih Ubrr0h = looked es ih Ubrr0h refl
  claim-read es ih Udr0 = popped es ih

  claim : (es : List Event) → Claim es
  claim [] = claim-nil
  claim (clock l ∷ es) = λ fs lo j u h a.
      let t = clocked es (claim es) fs lo j u l h a u.baud.left.0 refl in
      record { frames = t.frames; in_time = t.in_time; votes = t.votes }
  claim (write r v ∷ es) = λ fs lo j u h a.
      let t = aside es (claim es) fs lo j u (next_of u (write r v)) (only-write u r v a.only.0) h
      (record { shows = a.shows; only = a.only.1; none_waits = a.none_waits; ended = a.ended }) in
      record { frames = t.frames; in_time = t.in_time; votes = t.votes }
  claim (vector ∷ es) = λ fs lo j u h a.
      let t = aside es (claim es) fs lo j u (next_of u vector) (only-vector u) h
      (record { shows = a.shows; only = a.only; none_waits = a.none_waits; ended = a.ended }) in
      record { frames = t.frames; in_time = t.in_time; votes = t.votes }
  claim (read r ∷ es) = claim-read es (claim es) r

module _ (noise : Noise) (P Q : ℕ) (fs : List Sent) (u : Usart) (es : List Event) (h : HearsNoisy noise P Q fs u es) where
  abbrev g : Format
  g = u.format

  abbrev on : LineOnWire (noisy_level g u.baud P Q noise fs) P Q fs g u.baud.ubrr (levels_of es)
  on = h.hears.line

  abbrev within : Rates (first_vote g) (u.baud.ubrr + 1) P Q (word_bits g)
  within = rates g u.baud.ubrr P Q on.p1 on.q1 on.within

  start : (ss : List Sent) → Inv g u.baud noise 0 u.baud.left.0 u.receiver.sampler ss
  start [] = rw h.hears.ready.idle
  start (s ∷ ss) = rw h.hears.ready.idle (refl, omega (arith, h.hears.ready.counter))

  goes : Goes g u.baud noise P Q within h.allowed fs 0 u es
  goes =
      let fr : From (word_bits g) P Q 0 fs = spaced-from (word_bits g) P Q on.p1 fs on.spaced in
      claim g u.baud noise P Q within h.allowed es fs 0 0 u (record {
        stays = record { format = refl; rate = refl; rxen = h.hears.ready.enabled };
        phase = phase-first u.baud;
        no_loss = h.hears.ready.no_loss;
        from = fr;
        fits = on.fits;
        inv = start fs;
        waiting = rw h.hears.ready.idle tt;
      }) (record {
        shows = on.shows;
        only = h.hears.only_data;
        none_waits = h.hears.none_waits;
        ended = subst (λ (n : ℕ). AllEnded (word_bits g) P Q n fs) (omega arith) (all-ended (word_bits g) P Q (length (levels_of es)) 0 fs fr on.ended);
      })

  -- M-112: exactly the line's frames come out, in order, clean and in time, with a split vote for each bit that noise
  -- hit
  pub receives-noisy : DeliveredAs (heard g noise) P Q fs g (reads_of u es) (held_by (final_of u es)) (waiting_by (final_of u es)) (arrivals_of 0 u es)
  receives-noisy = record {
    frames = goes.frames ∙ ap (λ (p : Places). map seen_in (kept_in p) ++ map (heard g noise) fs) h.hears.ready.empty;
    in_time = goes.in_time;
  }

  -- and the votes that the receiver takes are the line's
  pub takes-votes : votes_of 0 u es ≡ votes_on g u.baud noise fs
  takes-votes = goes.votes ∙ ap (λ (p : Sampler). ahead g u.baud noise p fs) h.hears.ready.idle

-- without noise the wire shows the line itself ..
pub line_quiet : (P Q : ℕ) (fs : List Sent) (f : Format) (c : Baud) (ls : List Bool) → LineOn P Q fs f c.ubrr ls
    → LineOnWire (noisy_level f c P Q no_noise fs) P Q fs f c.ubrr ls
line_quiet P Q fs f c ls l = record {
  p1 = l.p1;
  q1 = l.q1;
  within = l.within;
  fits = l.fits;
  spaced = l.spaced;
  shows =
      shows_same (line_level f P Q fs) (noisy_level f c P Q no_noise fs) 0 ls
      (λ i _. ap (λ (t : Bool). turn t (line_level f P Q fs i)) (sym (turned_none f c fs i))) l.shows;
  ended = l.ended;
}

-- .. and no frame has a split vote
pub quiet-clean : (f : Format) (fs : List Sent) → map (heard f no_noise) fs ≡ map clean fs
quiet-clean f [] = refl
quiet-clean f (s ∷ ss) = ap₂ (◌∷◌) (ap (λ (n : ℕ). clean_with n s) (bits_none (word_bits f + 2))) (quiet-clean f ss)

-- so demand 3 is the case without noise
pub receives-quiet : (P Q : ℕ) (fs : List Sent) (u : Usart) (es : List Event) → Hears P Q fs u es
    → Delivered P Q fs u.format (reads_of u es) (held_by (final_of u es)) (waiting_by (final_of u es)) (arrivals_of 0 u es)
receives-quiet P Q fs u es h =
    let d = receives-noisy no_noise P Q fs u es (record {
      allowed = none_allowed (word_bits u.format);
      hears = record {
        ready = h.ready;
        only_data = h.only_data;
        line = line_quiet P Q fs u.format u.baud (levels_of es) h.line;
        none_waits = h.none_waits;
      };
    }) in
    record { frames = d.frames ∙ quiet-clean u.format fs; in_time = d.in_time }
