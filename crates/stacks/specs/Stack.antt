-- How the lent words are shared out: indent entries first, one word each; then the frames, one for each flow level from 0 to 255.
use Rattle.std.specs.Prelude.{◌*◌, ◌+◌, ℕ, ◌≡◌, refl}

abbrev pub entry_words : ℕ
entry_words = 255

abbrev pub frame_words : ℕ
frame_words = 6

abbrev pub stack_words : ℕ
stack_words = 1_791

-- the first word of the frame of a flow level
abbrev pub frame_at : ℕ → ℕ
frame_at l = entry_words + l * frame_words

all_words : stack_words ≡ frame_at 256
all_words = refl
