-- Demand 3 with noise, for every list of calls on a record: `receives-noisy`, M-112's. Without noise it is demand 3:
-- `receives-quiet`.
use Prim.Native.Nat.{ℕ}
use mathlib.Core.List.{List}
use mathlib.Core.Path.{◌≡◌, ◌∙◌, sym, ap, subst}
use Rattle.frame.specs.Format.{word_bits}
use Rattle.usart.specs.Event.{final_of}
use Rattle.usart.specs.Line.{Sent}
use Rattle.usart.specs.Noise.{Noise, noisy_level, no_noise}
use Rattle.usart.specs.Votes.{cast_by, votes_on, VotesTimed, HitsTaken}
use Rattle.usart.specs.Receiving.{held_by, waiting_by, reads_of as reads_in, arrivals_of as arrivals_at}
use Rattle.usart.specs.NoisyReceiving.{LineOnWire, DeliveredAs, heard, HearsNoisy as HearsNoisyAt}
use Rattle.usart.proofs.NoiseLaws.{none_allowed}
use Rattle.usart.proofs.NoisyLine.{line_quiet, quiet-clean, receives-noisy as receives-at, takes-votes as takes_at}
use Rattle.usart.proofs.SampleLaws.{votes-timed, hits-taken}
use Rattle.device.specs.declared.unit.Device.{Device}
use Rattle.history.specs.Call.{Call, device_in, device_of, usart_of}
use Rattle.history.specs.Receiving.{Hears, DeliveredBy}
use Rattle.history.specs.NoisyReceiving.{HearsNoisy, DeliveredSo, votes_of}
use Rattle.history.proofs.ViewLaws.{view_of, all-act, final-view}
use Rattle.history.proofs.ReceivingView.{rxd-view, only-view, none-waits-view, reads-view, arrivals-view, clocks-view}

module _ (noise : Noise) (P Q : ℕ) (fs : List Sent) (s : List ℕ) (cs : List Call) where
  -- what comes of the calls for the device d
  record Comes (d : Device) : Type 0 where
    delivered : DeliveredSo (heard d.usart.format noise) P Q fs d s cs
    votes : votes_of s cs ≡ votes_on d.usart.format d.usart.baud noise fs

  -- by the events of the calls
  comes-at : HearsNoisy noise P Q fs (device_of s) s cs → Comes (device_of s)
  comes-at h =
      let u = usart_of s in
      let es = view_of s cs in
      let a = all-act s (device_of s) cs h.hears.valid h.hears.bytes h.hears.only_data in
      let at : HearsNoisyAt noise P Q fs u es = record {
        allowed = h.allowed;
        hears = record {
          ready = h.hears.ready;
          only_data = only-view s cs a;
          line = subst (LineOnWire (noisy_level u.format u.baud P Q noise fs) P Q fs u.format u.baud.ubrr) (rxd-view s cs a) h.hears.line;
          none_waits = none-waits-view s cs a h.hears.none_waits;
        };
      } in
      let r : DeliveredAs (heard u.format noise) P Q fs u.format (reads_in u es) (held_by (final_of u es)) (waiting_by (final_of u es)) (arrivals_at 0 u es) =
      receives-at noise P Q fs u es at in
      record {
        delivered = rw (reads-view s cs a, final-view s cs a, arrivals-view s cs a) r;
        votes = clocks-view cast_by s cs a ∙ takes_at noise P Q fs u es at;
      }

  comes : (d : Device) → HearsNoisy noise P Q fs d s cs → Comes d
  comes d h =
      let same = ap device_in h.hears.valid in
      subst Comes same (comes-at (subst (λ (x : Device). HearsNoisy noise P Q fs x s cs) (sym same) h))

-- M-112: exactly the line's frames, in order, without an error flag, in time, each with a split vote for every bit of
-- it that noise hit
pub receives-noisy : (noise : Noise) (P Q : ℕ) (fs : List Sent) (d : Device) (s : List ℕ) (cs : List Call) → HearsNoisy noise P Q fs d s cs
    → DeliveredSo (heard d.usart.format noise) P Q fs d s cs
receives-noisy noise P Q fs d s cs h = (comes noise P Q fs s cs d h).delivered

-- the votes that the receiver takes are the line's: each with its clock and level, in order
pub takes-votes : (noise : Noise) (P Q : ℕ) (fs : List Sent) (d : Device) (s : List ℕ) (cs : List Call) → HearsNoisy noise P Q fs d s cs
    → votes_of s cs ≡ votes_on d.usart.format d.usart.baud noise fs
takes-votes noise P Q fs d s cs h = (comes noise P Q fs s cs d h).votes

-- so each of them comes at its clock ..
pub takes-timed : (noise : Noise) (P Q : ℕ) (fs : List Sent) (d : Device) (s : List ℕ) (cs : List Call) → HearsNoisy noise P Q fs d s cs
    → VotesTimed d.usart.format d.usart.baud noise fs (votes_of s cs)
takes-timed noise P Q fs d s cs h =
    subst (VotesTimed d.usart.format d.usart.baud noise fs) (sym (takes-votes noise P Q fs d s cs h))
    (votes-timed d.usart.format d.usart.baud noise fs)

-- .. and each clock that noise turns over is one at which it takes that vote
pub takes-hits : (noise : Noise) (P Q : ℕ) (fs : List Sent) (d : Device) (s : List ℕ) (cs : List Call) → HearsNoisy noise P Q fs d s cs
    → HitsTaken d.usart.format d.usart.baud noise fs (votes_of s cs)
takes-hits noise P Q fs d s cs h =
    subst (HitsTaken d.usart.format d.usart.baud noise fs) (sym (takes-votes noise P Q fs d s cs h))
    (hits-taken d.usart.format d.usart.baud noise h.allowed fs)

hears-quiet : (P Q : ℕ) (fs : List Sent) (d : Device) (s : List ℕ) (cs : List Call) → Hears P Q fs d s cs → HearsNoisy no_noise P Q fs d s cs
hears-quiet P Q fs d s cs h =
    record {
      allowed = none_allowed (word_bits d.usart.format);
      hears = record {
        valid = h.valid;
        ready = h.ready;
        bytes = h.bytes;
        only_data = h.only_data;
        line = line_quiet P Q fs d.usart.format d.usart.baud _ h.line;
        none_waits = h.none_waits;
      };
    }

-- so demand 3 is the case without noise
pub receives-quiet : (P Q : ℕ) (fs : List Sent) (d : Device) (s : List ℕ) (cs : List Call) → Hears P Q fs d s cs → DeliveredBy P Q fs d s cs
receives-quiet P Q fs d s cs h =
    let r = receives-noisy no_noise P Q fs d s cs (hears-quiet P Q fs d s cs h) in
    record { frames = r.frames ∙ quiet-clean d.usart.format fs; in_time = r.in_time }
