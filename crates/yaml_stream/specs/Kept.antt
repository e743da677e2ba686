-- No token goes in before one that was given: what the candidates name from a number on, steps keep so, and what they put in goes in from there on.
use Rattle.std.specs.Prelude.{◌+◌, ◌≤◌, ℕ, Bool, ◌≡◌, refl, drop}
use mathlib.Core.List.{List, [], ◌++◌, ◌∷◌}
use Rattle.std.proofs.Common.{arith}
use Rattle.yaml_text.specs.declared.Mark.{Mark}
use Rattle.yaml_text.specs.Mark.{Place}
use Rattle.yaml_text.specs.Test.{by_pick}
use Rattle.yaml_text.specs.All.{All, all_weak}
use Rattle.yaml_lexeme.specs.Token.{FlowMappingEnd, FlowMappingStart, StreamEnd, Token, empty_token}
use Rattle.yaml_scan.specs.declared.Candidate.{Candidate}
use Rattle.yaml_scan.specs.declared.Candidate.TheVariants.{Absent, Possible}
use Rattle.yaml_scan.specs.declared.Level.{Level}
use Rattle.yaml_scan.specs.declared.Limits.{Limits}
use Rattle.yaml_scan.specs.Indent.{Indents}
use Rattle.yaml_scan.specs.Keys.{set_key, top_key}
use Rattle.yaml_scan.specs.State.{Event, News, State, block_ends, empty_if, ends_with, goes_on, mark_of, preceded, put, put_before, puts, save_key, unroll_to}
use Rattle.yaml_scan.specs.Bracket.{implicit_open}
use Rattle.yaml_scan.specs.Document.{all_ends}
use Rattle.yaml_scan.specs.Scan.{step, unrolled}
use Rattle.yaml_scan.specs.Candidates.{OnlyPuts, only_append, only_ends, only_if}
use Rattle.yaml_scan.specs.Runs.{puts_ends}
use Rattle.yaml_scan.specs.Moves.{Move, Moves, begins, block_start, closes, leaves, opens, pair_end, parts, tells, uses}
use Rattle.yaml_scan.specs.Steps.{Gapped, Takes, gapped, inside, lapses, stays, unrolled_state}
use Rattle.yaml_scan.proofs.Steps.{step_by}

-- the candidates name such tokens
abbrev pub Names : (ℕ → Type 0) → List Candidate → Type 0
Names P [] = Unit {0}
Names P (Absent ∷ ks) = Names P ks
Names P (Possible required k m ∷ ks) = P k × Names P ks

-- tokens are put in before such tokens
abbrev pub NotesAt : (ℕ → Type 0) → List Event → Type 0
NotesAt P [] = Unit {0}
NotesAt P (put t ∷ es) = NotesAt P es
NotesAt P (put_before k ts ∷ es) = P k × NotesAt P es

-- from number n on
abbrev pub From : ℕ → List Candidate → Type 0
From n ks = Names (λ k. n ≤ k) ks

unfoldable pub NotesFrom : ℕ → List Event → Type 0
NotesFrom n es = NotesAt (λ k. n ≤ k) es

pub notes_both : (P : ℕ → Type 0) (es fs : List Event) → NotesAt P es → NotesAt P fs → NotesAt P (es ++ fs)
notes_both P [] fs h k = k
notes_both P (put t ∷ es) fs h k = notes_both P es fs h k
notes_both P (put_before j ts ∷ es) fs h k = (h.0, notes_both P es fs h.1 k)

-- so from a lower number on too
pub notes_less : (n k : ℕ) (es : List Event) → n ≤ k → NotesFrom k es → NotesFrom n es
unfolding NotesFrom
notes_less n k [] b h = tt
notes_less n k (put t ∷ es) b h = notes_less n k es b h
notes_less n k (put_before j ts ∷ es) b h = (omega (arith, h.0), notes_less n k es b h.1)

only_notes : (P : ℕ → Type 0) (es : List Event) → OnlyPuts es → NotesAt P es
unfolding OnlyPuts
only_notes P [] h = tt
only_notes P (put t ∷ es) h = only_notes P es h
only_notes P (put_before k ts ∷ es) h = absurd h

-- one token behind tokens
notes_then : (P : ℕ → Type 0) (es : List Event) (t : Token) → OnlyPuts es → NotesAt P (es ++ (put t ∷ []))
notes_then P es t h = notes_both P es (put t ∷ []) (only_notes P es h) tt

pub puts_append : (es fs : List Event) → puts (es ++ fs) ≡ puts es + puts fs
unfolding puts
puts_append [] fs = omega arith
puts_append (put t ∷ es) fs = omega (arith, puts_append es fs)
puts_append (put_before k ts ∷ es) fs = puts_append es fs

-- the candidates

module _ (P : ℕ → Type 0) where
  names_drop : (ks : List Candidate) → Names P ks → Names P (drop 1 ks)
  names_drop [] h = tt
  names_drop (Absent ∷ ks) h = h
  names_drop (Possible required k m ∷ ks) h = h.1

  names_top : (ks : List Candidate) → Names P ks → Names P (set_key (top_key ks) ks)
  unfolding top_key
  names_top [] h = tt
  names_top (k ∷ ks) h = h

  -- the candidate of this level
  names_used : {required : Bool} {k : ℕ} {m : Mark} (ks : List Candidate) → Names P ks → top_key ks ≡ Possible required k m → P k
  names_used {required} {k} {m} ks h e =
      let f : Names P (Possible required k m ∷ drop 1 ks) = rw e at (names_top ks h) in
      f.0

  names_saved : (s : State) → P s.count → Names P s.keys → Names P (save_key s).keys
  unfolding save_key
  names_saved s b h = by_pick (λ (t : State). Names P t.keys) s.simple_key_allowed _ s (b, names_drop s.keys h) h

  -- the gap and the lapse
  names_gap : {s t : State} → Gapped s t → Names P s.keys → Names P t.keys × (t.count ≡ s.count)
  names_gap (gapped f spares (inside e)) h = (h, refl)
  names_gap {s} (gapped f spares (lapses e)) h = (names_drop s.keys h, refl)
  names_gap {s} (gapped f spares (stays e k)) h = (names_top s.keys h, refl)

  -- a move
  names_move : (s : State) {t : Token} {q : Place} {es : List Event} {i : Indents} {ks : List Candidate} {ls : List Level} → Move s t q es i ks ls → P s.count → Names P s.keys
      → NotesAt P es × Names P ks
  names_move s (tells e same) b h = (tt, names_saved s b h)
  names_move s {t} (leaves e f) b h = (notes_then P (all_ends s) t (only_ends (unroll_to 0 s).ended (mark_of s)), names_drop s.keys h)
  names_move s (opens sequence e same) b h = (tt, names_saved s b h)
  names_move s {t} (closes sequence m e c) b h = (notes_then P (pair_end m s) t (only_if (implicit_open s.levels) FlowMappingEnd m), names_drop s.keys h)
  names_move s {t} (parts m e) b h = (notes_then P (pair_end m s) t (only_if (implicit_open s.levels) FlowMappingEnd m), names_drop s.keys h)
  names_move s {t} (begins {pair = p} {r = r} sequence m e k) b h =
      let fs = empty_if p FlowMappingStart m in
      let gs = empty_if r.starts (block_start sequence) m in
      (notes_then P (fs ++ gs) t (only_append fs gs (only_if p FlowMappingStart m) (only_if r.starts (block_start sequence) m)), names_drop s.keys h)
  names_move s (uses e k c) b h = ((names_used s.keys h c, tt), names_drop s.keys h)

  -- what a step from the state s keeps
  abbrev pub StepNames : State → News → Type 0
  StepNames s (goes_on es t) = NotesAt P es × Names P t.keys × (t.count ≡ s.count + puts es)
  StepNames s (ends_with es) = NotesAt P es

  -- where P holds of all later tokens
  pub step_names : (limits : Limits) (s : State) → ((k : ℕ) → s.count ≤ k → P k) → Names P s.keys → All News (StepNames s) (step limits s)
  step_names limits s b h = step_by limits s by_news
    where
      by_news : (t : State) → Gapped s t → (w : News) → Moves (unrolled_state t) w → Takes (unrolled_state t) w
          → StepNames s (preceded (block_ends (unrolled t).ended (mark_of t)) w)
      by_news t g (goes_on es u) m k =
          let f = names_gap g h in
          let bs = block_ends (unrolled t).ended (mark_of t) in
          let r = names_move (unrolled_state t) m.2 (b (unrolled_state t).count (omega (arith, f.1))) f.0 in (
            notes_both P bs es (only_notes P bs (only_ends (unrolled t).ended (mark_of t))) r.0,
            r.1,
            omega (arith, f.1, m.3, puts_append bs es, puts_ends (unrolled t).ended (mark_of t)),
          )
      by_news t g (ends_with es) m k =
          let bs = block_ends (unrolled t).ended (mark_of t) in
          let e = empty_token StreamEnd m.0 in
          let cs = block_ends (unroll_to 0 (unrolled_state t)).ended m.0 in
          notes_both P bs es (only_notes P bs (only_ends (unrolled t).ended (mark_of t)))
          (rw m.2 (notes_then P cs e (only_ends (unroll_to 0 (unrolled_state t)).ended m.0)))

abbrev pub StepKeeps : ℕ → State → News → Type 0
StepKeeps n s (goes_on es t) = NotesFrom n es × From n t.keys × (t.count ≡ s.count + puts es)
StepKeeps n s (ends_with es) = NotesFrom n es

pub step_keeps : (n : ℕ) (limits : Limits) (s : State) → n ≤ s.count → From n s.keys → All News (StepKeeps n s) (step limits s)
unfolding NotesFrom
step_keeps n limits s b h = all_weak by_news (step_names (λ k. n ≤ k) limits s (λ k i. omega arith) h)
  where
    by_news : (w : News) → StepNames (λ k. n ≤ k) s w → StepKeeps n s w
    by_news (goes_on es t) k = k
    by_news (ends_with es) k = k
