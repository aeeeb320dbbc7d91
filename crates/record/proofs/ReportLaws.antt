-- What is looked at of the bytes for a query. Assumes nothing.
use Prim.Native.Nat.{ℕ, ◌+◌}
use mathlib.Core.Bool.{Bool, true, false, not}
use mathlib.Core.List.{List}
use mathlib.Core.Path.{◌≡◌, refl, sym, ap, ◌∙◌}
use lib.Dec.{eqb}
use lib.ListN.{length}
use borrow.Author.Tests.{eqb-true}
use Rattle.choice.proofs.Picks.{pick_ind, split, both}
use Rattle.usart.specs.Sender.{is_vacant}
use Rattle.usart.specs.Queue.{is_empty}
use Rattle.usart.specs.declared.queue.Frame.{Frame}
use Rattle.usart.specs.declared.queue.Places.{Places}
use Rattle.usart.specs.declared.queue.Places.TheVariants.{One, Two, Three}
use Rattle.device.specs.Unit.{split_votes}
use Rattle.record.specs.Layout.{record_length, oldest_byte, byte_at}
use Rattle.record.specs.Parts.{buffer_from, places_from}
use Rattle.record.specs.Lift.{device_at}
use Rattle.record.specs.Accepts.{accepts, is_record}
use Rattle.record.proofs.BytesLaws.{image-again}

pub none-held : (n : ℕ) (waits : Bool) (a b c : Frame) → is_empty (places_from n waits a b c) ≡ eqb n 0
unfolding places_from
none-held n waits a b c =
    let F : Places → Type 0 = λ p. is_empty p ≡ false in
    split (eqb n 0) (λ e. rw e)
    (λ e. rw e
    (pick_ind F (eqb n 1) (One a) _ (λ _. refl) (λ _. pick_ind F waits (Three a b c) (Two a b) (λ _. refl) (λ _. refl))))

pub not_full : (full : Bool) (d : ℕ) → is_vacant (buffer_from full d) ≡ not full
unfolding buffer_from
not_full true d = refl
not_full false d = refl

-- the byte of the oldest frame's split votes is 0 where none is held
pub splits-shown : (s : List ℕ) {t : Bool} → t ≡ is_record s → t ≡ true → byte_at s (oldest_byte + 2) ≡ split_votes (device_at s)
unfolding is_record
splits-shown s e h =
    let p = both (eqb (length s) record_length) (accepts s) (sym e ∙ h) in
    ap (λ (b : List ℕ). byte_at b (oldest_byte + 2)) (sym (image-again s p.1 (eqb-true (length s) record_length p.0)))
