-- What a replay answers and leaves, by how it ended.
use Prim.Native.Nat.{ℕ}
use mathlib.Core.List.{List}
use mathlib.Core.Path.{◌≡◌, refl, sym, ap, ◌∙◌}
use lib.ListN.{length}
use borrow.Author.Tests.{eq-eqb, ne_eqb}
use Rattle.answer.specs.Number.{number_of}
use Rattle.answer.specs.declared.Refusal.{Refusal}
use Rattle.answer.specs.declared.Refusal.TheVariants.{Record}
use Rattle.playback.specs.Replay.{Outcome, finished, stopped_at, replay_of, outcome_number, outcome_line}
use Rattle.playback.specs.declared.replaying.Replayed.{Replayed}
use Rattle.record.specs.Codec.{record_of, stored_over}
use Rattle.record.specs.Layout.{record_length}
use Rattle.record.proofs.Round.{stored}
use Rattle.tracing.specs.Replay.{replay_answer, replay_line, record_after_replay}

abbrev pub IsReplay : List ℕ → List ℕ → ℕ → ℕ → List ℕ → Type 0
IsReplay s text n line after = (n ≡ replay_answer s text) × ((line ≡ replay_line s text) × (after ≡ record_after_replay s text))

pub replay-refused : (s text : List ℕ) {n : ℕ} → (length s ≡ record_length → ⊥) → n ≡ number_of Record → IsReplay s text n 0 s
replay-refused s text h e = rw (ne_eqb (length s) record_length h) (e, (refl, refl))

module _ (s text : List ℕ) {r : Replayed} {after : List ℕ} (h : length s ≡ record_length) (p : r ≡ replay_of text) (q : after ≡ stored_over r.device s) where
  ended : {o : Outcome} → r.outcome ≡ o → IsReplay s text (outcome_number o) (outcome_line o) after
  ended {o} e =
      let same : (replay_of text).outcome ≡ o = ap (λ (x : Replayed). x.outcome) (sym p) ∙ e in
      rw (eq-eqb (length s) record_length h, same)
      (refl, (refl, q ∙ stored r.device s h ∙ ap (λ (x : Replayed). record_of x.device) p))

  pub replay-done : r.outcome ≡ finished → IsReplay s text 0 0 after
  replay-done e = ended e

  pub replay-stopped : {why : Refusal} {line n : ℕ} → r.outcome ≡ stopped_at why line → n ≡ number_of why → IsReplay s text n line after
  replay-stopped e f = let i = ended e in (f ∙ i.0, i.1)
