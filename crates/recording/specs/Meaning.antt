-- What stands in the buffer after a call that is done, in the request's words (document 02, M-109): its bytes up to the
-- length that was answered.
use Rattle.std.specs.Prelude.{ℕ, List, ◌≡◌, take}
use Rattle.trace.specs.Contents.{passed, contents_of}
use Rattle.trace.specs.Filling.{buffer_written, buffer_shrunk}
use Rattle.trace.specs.Listing.{list_of}
use Rattle.trace.specs.Promises.{Shrinks}
use Rattle.trace.specs.Shrinking.{shrunk_text}
use Rattle.recording.specs.Calls.{trace_write_length, trace_shrink_length}

abbrev pub written_in : List ℕ → List ℕ → List ℕ
written_in list buffer = take (trace_write_length list buffer) (buffer_written list buffer)

abbrev pub shrunk_in : List ℕ → List ℕ → List ℕ
shrunk_in text buffer = take (trace_shrink_length text buffer) (buffer_shrunk text buffer)

-- 'reading what was written gives the list back'
pub record WritesBack (list buffer : List ℕ) : Type 0 where
  pub well : (contents_of (written_in list buffer)).check ≡ passed
  pub back : list_of (contents_of (written_in list buffer)).items ≡ list

-- what was given is well-formed, and what is there is its shrunk text, with all that is promised of it
pub record ShrinksTo (text buffer : List ℕ) : Type 0 where
  pub well : (contents_of text).check ≡ passed
  pub there : shrunk_in text buffer ≡ shrunk_text text
  pub promised : Shrinks text
