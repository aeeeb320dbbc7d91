-- Closed cases: the request's whole example is done; with another value recorded for its read, it ends there.
use mathlib.Core.List.{[], ◌∷◌}
use mathlib.Core.Path.{◌≡◌, refl, ap, ◌∙◌}
use Rattle.answer.specs.declared.Refusal.TheVariants.{Different}
use Rattle.usart.specs.Receiver.{enabled_of}
use Rattle.usart.specs.Settings.{size_of}
use Rattle.usart.specs.Unit.{is_busy}
use Rattle.usart.specs.Write.{formatted_of}
use Rattle.device.specs.Address.{place_of}
use Rattle.device.specs.Unit.{reset_device}
use Rattle.trace.specs.Contents.{Contents}
use Rattle.trace.specs.declared.item.Item.TheVariants.{Write, Read, Clocks}
use Rattle.trace.proofs.Examples.{example, items, example-held}
use Rattle.playback.specs.Replay.{step_of, finished, stopped_at, played_from, replay_by, replay_of}

played : (played_from reset_device 2 items).outcome ≡ finished
unfolding played_from step_of place_of size_of is_busy formatted_of enabled_of
played = refl

pub example-done : (replay_of example).outcome ≡ finished
example-done = ap (λ (c : Contents). (replay_by c.check c.items).outcome) example-held ∙ played

pub other-value : (played_from reset_device 2 (Write 193 24 0 ∷ Read 192 33 0 ∷ Clocks 17 16 ∷ [])).outcome ≡ stopped_at Different 3
unfolding played_from step_of place_of size_of is_busy formatted_of enabled_of
other-value = refl
