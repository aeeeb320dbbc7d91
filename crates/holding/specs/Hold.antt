-- The call that holds one level byte for many clocks (document 02, M-106: 'It must equal that many single clocks'):
-- what it answers, the last output byte, and every byte of the record after it.
use Rattle.std.specs.Prelude.{ℕ, ◌+◌, List, ◌≡◌, ltb, replicate, Err, Ok, Result}
use Rattle.choice.specs.Pick.{pick}
use Rattle.answer.specs.declared.Refusal.TheVariants.{Level}
use Rattle.device.specs.Holding.{last_of}
use Rattle.device.specs.Outcome.{read_answer_of, value_of}
use Rattle.device.specs.Run.{ran_of, outputs_of}
use Rattle.device.specs.declared.unit.Device.{Device}
use Rattle.record.specs.Codec.{decode_of}
use Rattle.record.specs.Kept.{kept_by_read}
use Rattle.answer.specs.declared.Refusal.{Refusal}
use Rattle.answer.specs.declared.Reading.{Reading}

-- a run of as many equal level bytes, of whose output bytes the last is answered, 0 where there is none; 7 'also for no
-- clocks'
unfoldable pub hold_in : Device → ℕ → ℕ → Result (Reading Device) Refusal
hold_in d level clocks =
    let levels : List ℕ = replicate clocks level in
    pick (ltb level 32) (Ok (record { value = last_of 0 (outputs_of d levels); after = ran_of d levels })) (Err Level)

-- 5 goes before
unfoldable pub hold_on : Result Device Refusal → ℕ → ℕ → Result (Reading Device) Refusal
hold_on (Ok d) level clocks = hold_in d level clocks
hold_on (Err r) level clocks = Err r

abbrev pub hold_answer : List ℕ → ℕ → ℕ → ℕ
hold_answer s level clocks = read_answer_of (hold_on (decode_of s) level clocks)

-- 0 of a refusal
abbrev pub hold_output : List ℕ → ℕ → ℕ → ℕ
hold_output s level clocks = value_of (hold_on (decode_of s) level clocks)

abbrev pub record_after_hold : List ℕ → ℕ → ℕ → List ℕ
record_after_hold s level clocks = kept_by_read s (hold_on (decode_of s) level clocks)

-- 'n clocks then m must leave the device that n+m leaves, and answer the same where m is not 0'; a refusal too
pub record Adds (s : List ℕ) (level n m : ℕ) : Type 0 where
  pub after : record_after_hold (record_after_hold s level n) level m ≡ record_after_hold s level (n + m)
  pub answer : hold_answer (record_after_hold s level n) level m ≡ hold_answer s level (n + m)
  pub output : (m ≡ 0 → ⊥) → hold_output (record_after_hold s level n) level m ≡ hold_output s level (n + m)
