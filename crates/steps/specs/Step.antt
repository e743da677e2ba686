-- The second half of a step, held against the definition: the token of a choice, and by the choice what it leaves in the lent words and bytes.
use Rattle.std.specs.Prelude.{◌<◌, ◌^◌, ℕ, Bool, false, true, List, Result}
use Rattle.yaml_text.specs.declared.Refusal.{Refusal}
use Rattle.yaml_scan.specs.declared.Choice.{Choice}
use Rattle.yaml_scan.specs.declared.Choice.TheVariants.{AtAnchor, AtBlock, AtByteOrderMark, AtColon, AtComma, AtDash, AtDirective, AtEnd, AtMarker, AtPlain, AtQuestion, AtQuoted, AtTag, BelowIndent, Closes, Opens, Stray}
use Rattle.yaml_scan.specs.declared.Limits.{Limits}
use Rattle.yaml_scan.specs.Choice.{choice}
use Rattle.yaml_scan.specs.Fetch.{fetch, fetch_next}
use Rattle.events.specs.declared.Counts.{Counts}
use Rattle.states.specs.declared.Fetched.{Fetched}
use Rattle.states.specs.declared.State.{State}
use Rattle.states.specs.Fetch.{FetchesText, Ready}
use Rattle.states.specs.Key.{removed_words, saved_words}
use Rattle.states.specs.Refused.{choice_bytes}
use Rattle.states.specs.State.{state_of}
use Rattle.choices.specs.Choice.{AsDefined}
use Rattle.brackets.specs.Words.{bracket_words, comma_words}
use Rattle.indicators.specs.Words.{colon_words, dash_words, question_words}

-- the lent words behind the token of a choice, from the words a, of so many tokens; at a refusal they stay
abbrev pub choice_words : Limits → Choice → List ℕ → ℕ → State → List ℕ
choice_words limits AtEnd a count s = a
choice_words limits AtDirective a count s = removed_words a s
choice_words limits AtByteOrderMark a count s = removed_words a s
choice_words limits BelowIndent a count s = a
choice_words limits Stray a count s = a
choice_words limits (AtMarker starts) a count s = removed_words a s
choice_words limits (Opens sequence) a count s = bracket_words sequence a count s
choice_words limits (Closes sequence) a count s = a
choice_words limits AtComma a count s = comma_words a s
choice_words limits AtDash a count s = dash_words limits a s
choice_words limits AtQuestion a count s = question_words limits a s
choice_words limits AtColon a count s = colon_words limits a s
choice_words limits AtTag a count s = saved_words a count s
choice_words limits AtPlain a count s = saved_words a count s
choice_words limits (AtAnchor alias) a count s = saved_words a count s
choice_words limits (AtBlock literal) a count s = saved_words a count s
choice_words limits (AtQuoted single) a count s = saved_words a count s

-- the token of the choice c, from the lent words a to e and the lent bytes `before` to `after`
abbrev pub FetchesChoice : Limits → List ℕ → List ℕ → List ℕ → List ℕ → List ℕ → Counts → State → Choice → Result Fetched Refusal → Type 0
FetchesChoice limits text a e before after n s c r =
    FetchesText limits text a e (choice_words limits c a n.count s) before (choice_bytes c before n.used) after n s (fetch limits c (state_of text a n.count s)) r

-- the same, c being the definition's own choice
abbrev pub Steps : Limits → List ℕ → List ℕ → List ℕ → List ℕ → List ℕ → Counts → State → Choice → Result Fetched Refusal → Type 0
Steps limits text a e before after n s c r =
    FetchesText limits text a e (choice_words limits c a n.count s) before (choice_bytes c before n.used) after n s (fetch_next limits (state_of text a n.count s)) r

-- a state that is ready, and the definition's choice there
pub record Chosen (limits : Limits) (text stacks : List ℕ) (used : ℕ) (s : State) (c : Choice) : Type 0 where
  pub ready : Ready limits text stacks s
  pub room : used < 2 ^ 31
  pub says : AsDefined text s (λ t. choice t) c

-- plain scalars, '-', brackets and ','
abbrev pub is_brief : Choice → Bool
is_brief AtPlain = true
is_brief AtDash = true
is_brief (Opens sequence) = true
is_brief (Closes sequence) = true
is_brief AtComma = true
is_brief AtDirective = false
is_brief AtTag = false
is_brief (AtAnchor alias) = false
is_brief (AtBlock literal) = false
is_brief (AtQuoted single) = false
is_brief AtEnd = false
is_brief AtByteOrderMark = false
is_brief BelowIndent = false
is_brief Stray = false
is_brief (AtMarker starts) = false
is_brief AtQuestion = false
is_brief AtColon = false
