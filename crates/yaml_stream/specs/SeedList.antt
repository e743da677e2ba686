-- `seeds: [1, 1, ]`, however many seeds, as a text's last line: from behind the key on, what each step says and where it comes to, up to the end. Sheet has it as line 1.
use Prim.Native.Nat.{◌+◌, ◌≤◌, suc, zero, ℕ}
use Rattle.std.specs.Prelude.{Bool, ◌&&◌, not, List, [], ◌∷◌, ◌≡◌, eqb, ltb}
use Rattle.std.proofs.Math.Bool.{false, true}
use Rattle.std.proofs.Common.{◌∙◌, arith}
use Rattle.std.proofs.Math.Path.{refl}
use borrow.Author.Tests.{le-ltb, ltb-true, ne_eqb, not-true}
use Rattle.yaml_text.specs.declared.Mark.{Mark}
use Rattle.yaml_text.specs.Char.{':', '[', ']', comma, space}
use Rattle.yaml_text.specs.Class.{is_z, peek}
use Rattle.yaml_text.specs.Mark.{along, along_by, here, over}
use Rattle.yaml_text.specs.Refusal.{Read, ◌>>=◌, got, need, refused}
use Rattle.yaml_text.specs.Decode.{decode}
use Rattle.yaml_text.specs.Test.{both_true}
use Rattle.yaml_text.specs.ByteLaws.{first_ascii}
use Rattle.yaml_lexeme.specs.declared.Style.TheVariants.{Plain}
use Rattle.yaml_lexeme.specs.Token.{BlockEnd, BlockMappingStart, FlowEntry, FlowSequenceEnd, FlowSequenceStart, Key, Kind, Scalar, StreamEnd, Token, Value, empty_token}
use Rattle.yaml_scan.specs.declared.Candidate.{Candidate}
use Rattle.yaml_scan.specs.declared.Candidate.TheVariants.{Absent, Possible}
use Rattle.yaml_scan.specs.declared.Choice.{Choice}
use Rattle.yaml_scan.specs.declared.Choice.TheVariants.{AtColon, AtComma, AtEnd, AtPlain, Closes}
use Rattle.yaml_scan.specs.Indent.{Indents, indents_of, unroll}
use Rattle.yaml_scan.specs.Keys.{lapse, stale}
use Rattle.yaml_scan.specs.State.{Event, News, State, block_ends, ends_with, goes_on, mark_of, preceded, put, put_before}
use Rattle.yaml_scan.specs.Bracket.{new_level}
use Rattle.yaml_scan.specs.Choice.{choice}
use Rattle.yaml_scan.specs.Document.{forced}
use Rattle.yaml_scan.specs.Fetch.{fetch}
use Rattle.yaml_scan.specs.Scan.{begin, standard, step, to_next_token, unrolled}
use Rattle.yaml_scan.specs.Open.{all_open}
use Rattle.yaml_scan.specs.Steps.{unrolled_state}
use Rattle.yaml_stream.specs.InList.{next_choice}
use Rattle.yaml_stream.specs.OnKeyLine.{KeyLine}

-- a text each byte of which is a character

unfoldable pub simple : List ℕ → Bool
simple [] = true
simple (c ∷ cs) = ltb c 128 && (not (is_z c) && simple cs)

pub simple_decode : (m : Mark) (cs : List ℕ) → simple cs ≡ true → decode 0 m cs ≡ got cs
unfolding decode need ◌>>=◌ simple
simple_decode m [] e = refl
simple_decode m (c ∷ cs) e =
    let a = both_true (ltb c 128) _ e in
    let b = both_true (not (is_z c)) (simple cs) a.1 in
    rw (first_ascii c cs (ltb-true c 128 a.0), not-true (is_z c) b.0, simple_decode (over m c (peek cs 0)) cs b.1)

-- so many seeds, and the list's end
abbrev pub entries : ℕ → List ℕ
entries zero = ']' ∷ []
entries (suc k) = 49 ∷ comma ∷ space ∷ entries k

pub entries_simple : (k : ℕ) → simple (entries k) ≡ true
unfolding simple all_open
entries_simple zero = refl
entries_simple (suc k) = entries_simple k

-- what a computed step comes to

abbrev pub next_state : Read News → State
next_state (got (goes_on es s)) = s
next_state (got (ends_with es)) = begin []
next_state (refused n m) = begin []

abbrev pub next_events : Read News → List Event
next_events (got (goes_on es s)) = es
next_events (got (ends_with es)) = es
next_events (refused n m) = []

-- a step by what it chose, where no gap stands before the token

step_chosen : (s : State) (c : Choice) → to_next_token s ≡ got s → choice (unrolled_state s) ≡ c
    → step standard s ≡ (fetch standard c (unrolled_state s) >>= λ w. got (preceded (block_ends (unrolled s).ended (mark_of s)) w))
unfolding step ◌>>=◌
step_chosen s c e f = rw (e, f)

next_chosen : (s : State) (c : Choice) → to_next_token s ≡ got s → choice (unrolled_state s) ≡ c → next_choice s ≡ got c
unfolding ◌>>=◌
next_chosen s c e f = rw (e, f)

-- the states

-- how many tokens are given behind a step in which no block ends and one token comes
abbrev pub one_given : ℕ → ℕ
one_given n = n + 0 + 1

-- the indents of a mapping at column 0, open or not, and of a list in it
abbrev pub mapping : Bool → Indents
mapping true = indents_of 1 (record { old = 0; ends = true } ∷ [])
mapping false = indents_of 0 []

abbrev pub in_mapping : Indents
in_mapping = indents_of 2 (record { old = 1; ends = false } ∷ record { old = 0; ends = true } ∷ [])

-- at level 0, within a line, n tokens given; a: where a ':' may stand directly behind a bracket
abbrev pub in_line : List ℕ → Mark → Indents → Candidate → ℕ → ℕ → State
in_line cs m i k a n =
    record { place = here m cs; leading_whitespace = false; simple_key_allowed = false; indents = i; keys = k ∷ []; levels = []; adjacent_value_allowed_at = a; count = n }

-- in the list
abbrev pub in_list : List ℕ → Mark → Bool → Candidate → ℕ → State
in_list cs m allowed k n =
    record {
      place = here m cs;
      leading_whitespace = false;
      simple_key_allowed = allowed;
      indents = in_mapping;
      keys = k ∷ Absent ∷ [];
      levels = new_level true ∷ [];
      adjacent_value_allowed_at = 0;
      count = n;
    }

-- the mark behind an entry, its ',' and the blank; and behind k of them
abbrev pub next_entry : Mark → Mark
next_entry m = along (along (along m))

abbrev pub last_entry : ℕ → Mark → Mark
last_entry zero m = m
last_entry (suc k) m = last_entry k (next_entry m)

-- before k entries; no key is possible
abbrev pub before_entries : ℕ → Mark → ℕ → State
before_entries k m n = in_list (entries k) m true Absent n

-- behind a seed, which is token c, at the mark p; k entries are left
abbrev pub behind_seed : ℕ → Mark → ℕ → Mark → ℕ → State
behind_seed k m c p n = in_list (comma ∷ space ∷ entries k) m false (Possible false c p) n

abbrev pub behind_list : Mark → ℕ → State
behind_list m n = in_line [] m in_mapping Absent (m.index + 1) n

-- the tokens

abbrev pub spans : Kind → Mark → Mark → Token
spans k m e = record { kind = k; start = m; end = e }

abbrev pub seed_token : Mark → Token
seed_token m = spans (Scalar Plain (49 ∷ [])) m (along m)

-- blanks behind ',' are in its span
abbrev pub comma_token : Mark → Token
comma_token m = spans FlowEntry m (along (along m))

abbrev pub close_token : Mark → Token
close_token m = spans FlowSequenceEnd m (along m)

-- up to the first entry: the ':' and the bracket on its key's line

-- a key of 5 characters at the index i of line l
module _ (i l : ℕ) where
  abbrev pub key_mark : Mark
  key_mark = record { index = i; line = l; col = 0 }

  abbrev pub colon_mark : Mark
  colon_mark = along_by 5 key_mark

  abbrev pub open_mark : Mark
  open_mark = along (along colon_mark)

  -- what goes in before the key, whose mapping is open, or begins with it
  abbrev pub key_tokens : Bool → List Token
  key_tokens true = empty_token Key key_mark ∷ []
  key_tokens false = empty_token BlockMappingStart key_mark ∷ empty_token Key key_mark ∷ []

  -- where the key is token c
  abbrev pub colon_says : ℕ → Bool → List Event
  colon_says c opened = put_before c (key_tokens opened) ∷ put (spans Value colon_mark (along colon_mark)) ∷ []

  abbrev pub bracket_says : List Event
  bracket_says = put (spans FlowSequenceStart open_mark (along open_mark)) ∷ []

  -- the candidate is of this line, and near
  not_stale : stale key_mark colon_mark ≡ false
  unfolding stale
  not_stale = rw (le-ltb l l (omega arith), le-ltb (i + 1024) (i + 5) (omega arith))

  module _ (k c : ℕ) where
    abbrev pub behind_key : Bool → State
    behind_key opened = in_line (':' ∷ space ∷ '[' ∷ entries k) colon_mark (mapping opened) (Possible opened c key_mark) 0 (suc c)

    abbrev pub behind_colon : State
    behind_colon = in_line (space ∷ '[' ∷ entries k) (along colon_mark) (mapping true) Absent 0 (one_given (suc c))

    abbrev pub behind_bracket : State
    behind_bracket = before_entries k (along open_mark) (one_given (one_given (suc c)))

    colon_gap : (opened : Bool) → to_next_token (behind_key opened) ≡ got (behind_key opened)
    unfolding all_open
    colon_gap opened = rw (not_stale, lapse)

    colon_choice : (opened : Bool) → choice (unrolled_state (behind_key opened)) ≡ AtColon
    unfolding all_open
    colon_choice true = refl
    colon_choice false = refl

    pub colon_step : (opened : Bool) → step standard (behind_key opened) ≡ got (goes_on (colon_says c opened) behind_colon)
    unfolding all_open
    colon_step true = step_chosen (behind_key true) AtColon (colon_gap true) refl ∙ refl
    colon_step false = step_chosen (behind_key false) AtColon (colon_gap false) refl ∙ refl

  pub bracket_step : (k c : ℕ) → step standard (behind_colon k c) ≡ got (goes_on bracket_says (behind_bracket k c))
  unfolding all_open
  bracket_step zero c = refl
  bracket_step (suc k) c = refl

  pub key_line : (k c : ℕ) (opened : Bool) → KeyLine standard (behind_key k c opened) (behind_bracket k c)
  unfolding all_open
  key_line k c opened =
      record {
        at_colon = behind_key k c opened;
        first_gap = colon_gap k c opened;
        colon = colon_choice k c opened;
        outside = refl;
        alone = λ _. tt;
        required = opened;
        number = c;
        mark = key_mark;
        candidate = refl;
        value = behind_colon k c;
        first_events = colon_says c opened;
        first_step = colon_step k c opened;
        at_bracket = in_line ('[' ∷ entries k) open_mark (mapping true) Absent 0 (one_given (suc c));
        second_gap = refl;
        forbidden = refl;
        sequence = true;
        bracket = refl;
        second_events = bracket_says;
        second_step = bracket_step k c;
      }

-- in the list

-- at a column in the list: no marker stands there, and it is not below the indent
col_some : (d : ℕ) → 1 ≤ d → eqb d 0 ≡ false
col_some d h = ne_eqb d 0 (λ e. omega arith)

col_in : (d : ℕ) → 1 ≤ d → ltb (d + 1) 2 ≡ false
col_in d h = le-ltb (d + 1) 2 (omega arith)

module _ (k : ℕ) (m : Mark) (n : ℕ) (h : 1 ≤ m.col) where
  seed_choice : choice (unrolled_state (before_entries (suc k) m n)) ≡ AtPlain
  unfolding all_open
  seed_choice = rw (col_some m.col h, col_in m.col h)

  pub seed_next : next_choice (before_entries (suc k) m n) ≡ got AtPlain
  unfolding all_open
  seed_next = next_chosen (before_entries (suc k) m n) AtPlain refl seed_choice

  pub seed_step : step standard (before_entries (suc k) m n) ≡ got (goes_on (put (seed_token m) ∷ []) (behind_seed k (along m) (n + 0) m (one_given n)))
  unfolding all_open
  seed_step = step_chosen (before_entries (suc k) m n) AtPlain refl seed_choice ∙ refl

comma_fetch : (k : ℕ) (m : Mark) (c : ℕ) (p : Mark) (n : ℕ) → fetch standard AtComma (unrolled_state (behind_seed k m c p n))
    ≡ got (goes_on (put (comma_token m) ∷ []) (before_entries k (along (along m)) (one_given n)))
unfolding all_open
comma_fetch zero m c p n = refl
comma_fetch (suc k) m c p n = refl

module _ (k : ℕ) (m : Mark) (c : ℕ) (p : Mark) (n : ℕ) (h : 1 ≤ m.col) where
  comma_choice : choice (unrolled_state (behind_seed k m c p n)) ≡ AtComma
  unfolding all_open
  comma_choice = rw (col_some m.col h, col_in m.col h)

  pub comma_next : next_choice (behind_seed k m c p n) ≡ got AtComma
  unfolding all_open
  comma_next = next_chosen (behind_seed k m c p n) AtComma refl comma_choice

  pub comma_step : step standard (behind_seed k m c p n) ≡ got (goes_on (put (comma_token m) ∷ []) (before_entries k (along (along m)) (one_given n)))
  unfolding all_open
  comma_step = step_chosen (behind_seed k m c p n) AtComma refl comma_choice ∙ rw (comma_fetch k m c p n)

module _ (m : Mark) (n : ℕ) (h : 1 ≤ m.col) where
  pub close_step : step standard (before_entries 0 m n) ≡ got (goes_on (put (close_token m) ∷ []) (behind_list (along m) (one_given n)))
  unfolding all_open
  close_step =
      let e : choice (unrolled_state (before_entries 0 m n)) ≡ Closes true = rw (col_some m.col h, col_in m.col h) in
      step_chosen (before_entries 0 m n) (Closes true) refl e ∙ refl

  pub end_step : step standard (behind_list m n) ≡ got (ends_with (put (empty_token BlockEnd (forced m)) ∷ put (empty_token StreamEnd (forced m)) ∷ []))
  unfolding all_open
  end_step = step_chosen (behind_list m n) AtEnd refl refl ∙ rw (col_in m.col h, unroll)
