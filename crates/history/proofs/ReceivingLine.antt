-- Demand 3: receiving undoes sending across two unequal crystals, for every list of calls on a record and every line
-- within the recommended rate error.
use Prim.Native.Nat.{ℕ}
use mathlib.Core.List.{List}
use mathlib.Core.Path.{sym, ap, subst}
use Rattle.usart.specs.Event.{final_of}
use Rattle.usart.specs.Line.{Sent}
use Rattle.usart.specs.Receiving.{held_by, waiting_by, LineOn, Delivered, reads_of as reads_in, arrivals_of as arrivals_at}
use Rattle.usart.proofs.ReceivingLine.{receives as receives-at}
use Rattle.device.specs.declared.unit.Device.{Device}
use Rattle.history.specs.Call.{Call, device_in, device_of, usart_of}
use Rattle.history.specs.Receiving.{Hears, DeliveredBy}
use Rattle.history.proofs.ViewLaws.{view_of, all-act, final-view}
use Rattle.history.proofs.ReceivingView.{rxd-view, only-view, none-waits-view, reads-view, arrivals-view}

pub receives : (P Q : ℕ) (fs : List Sent) (d : Device) (s : List ℕ) (cs : List Call) → Hears P Q fs d s cs → DeliveredBy P Q fs d s cs
receives P Q fs d s cs h =
    let same = ap device_in h.valid in
    subst (λ (x : Device). DeliveredBy P Q fs x s cs) same (received (subst (λ (x : Device). Hears P Q fs x s cs) (sym same) h))
  where
    received : Hears P Q fs (device_of s) s cs → DeliveredBy P Q fs (device_of s) s cs
    received h =
        let u = usart_of s in
        let es = view_of s cs in
        let a = all-act s (device_of s) cs h.valid h.bytes h.only_data in
        let r : Delivered P Q fs u.format (reads_in u es) (held_by (final_of u es)) (waiting_by (final_of u es)) (arrivals_at 0 u es) = receives-at P Q fs u es (record {
          ready = h.ready;
          only_data = only-view s cs a;
          line = subst (LineOn P Q fs u.format u.baud.ubrr) (rxd-view s cs a) h.line;
          none_waits = none-waits-view s cs a h.none_waits;
        }) in
        rw (reads-view s cs a, final-view s cs a, arrivals-view s cs a) r
