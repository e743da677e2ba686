-- Theorems about specs/NestingMoves, and what rests on them.
use Rattle.std.specs.Prelude.{◌+◌, ◌≤◌, suc, ℕ, Bool, ◌||◌, false, not, true, ◌≡◌, refl, drop, length, replicate}
use mathlib.Core.List.{List, [], ◌++◌, ◌∷◌, append_assoc}
use Rattle.std.proofs.Common.{sym, arith}
use Rattle.std.proofs.lemmas.Bool.{not-true}
use Rattle.yaml_text.specs.declared.Mark.{Mark}
use Rattle.yaml_text.specs.Pick.{pick}
use Rattle.yaml_text.specs.Mark.{Place}
use Rattle.yaml_text.specs.Test.{by_pick, on_pick, true_false}
use Rattle.yaml_text.specs.PlaceLaws.{FurtherOn}
use Rattle.yaml_lexeme.specs.Token.{FlowMappingEnd, FlowMappingStart, Kind, Token}
use Rattle.yaml_lexeme.specs.Role.{Open, block, ends, flow_mapping, neither, role, starts}
use Rattle.yaml_lexeme.specs.Block.{one_if}
use Rattle.yaml_scan.specs.declared.Candidate.{Candidate}
use Rattle.yaml_scan.specs.declared.Candidate.TheVariants.{Absent, Possible}
use Rattle.yaml_scan.specs.declared.Level.{Level}
use Rattle.yaml_scan.specs.Indent.{Indents, Rolled}
use Rattle.yaml_scan.specs.IndentLaws.{Rolls, Same, blocks_of, same_refl}
use Rattle.yaml_scan.specs.Keys.{set_key, top_key}
use Rattle.yaml_scan.specs.State.{Event, State, empty_if, in_flow, mark_of, on_level, put, put_before, puts, save_key, unroll_to}
use Rattle.yaml_scan.specs.Bracket.{closes_level, implicit_open, new_entry}
use Rattle.yaml_scan.specs.Document.{all_ends}
use Rattle.yaml_scan.specs.Slots.{Slot, note, slots}
use Rattle.yaml_scan.specs.SlotLaws.{slots_length}
use Rattle.yaml_scan.specs.Moves.{Begins, Enters, Move, Tidy, Within, begins, block_start, bracket, closes, goes_in, leaves, opens, parts, tells, uses}
use Rattle.theorems.specs.Nested.{Nested, closed, done, kept, opened, then}
use Rattle.theorems.specs.NestedLaws.{Leads, and_put, says_append, says_one, silent}
use Rattle.theorems.specs.Opened.{Built, MovesOn, Turned, blocks, built_saved, built_says, built_top, built_without, held, inside, outside}
use Rattle.theorems.proofs.Opened.{built_used}
use Rattle.theorems.specs.NestingMoves.{ends_turn, goes_to, Stands, AtEdge, zero_level, at_zero, ends_lead}

gives : {t : Token} → role t.kind ≡ neither → (u : List Open) → Turned u (put t ∷ []) u
gives e u os = says_one e kept

begun_if : (b : Bool) (k : Kind) (m : Mark) (o : Open) → role k ≡ starts o → Turned [] (empty_if b k m) (pick b (o ∷ []) [])
begun_if true k m o e os = says_one e opened
begun_if false k m o e os = silent

-- the end of a pair
pair_end_turns : (b : Bool) (m : Mark) (o : Open) → Turned (pick b (flow_mapping ∷ []) [] ++ (o ∷ [])) (empty_if b FlowMappingEnd m) (o ∷ [])
unfolding role
pair_end_turns true m o os = and_put closed silent
pair_end_turns false m o os = silent

-- the slots behind events, at the place q
abbrev Next : List Slot → List Event → List Open → Indents → Place → List Candidate → List Level → Type 0
Next xs es u i q ks ls = Built i q.mark (slots xs es) u (length (slots xs es)) ks ls

more : (xs : List Slot) (es : List Event) → length xs ≤ length (slots xs es)
more xs es = omega (arith, slots_length xs es)

-- the level that a bracket closes is of its kind
level_kind : (sequence b : Bool) → pick sequence b (not b) ≡ true → b ≡ sequence
level_kind true b c = c
level_kind false b c = not-true b c

-- what '-', '?' and ':' leave open: a block, at level 0, or a pair
abbrev begun : Bool → Bool → List Open
begun pair rolls = pick rolls (block ∷ []) [] ++ pick pair (flow_mapping ∷ []) []

block_starts : (sequence : Bool) → role (block_start sequence) ≡ starts block
unfolding role
block_starts sequence = by_pick (λ (k : Kind). role k ≡ starts block) sequence _ _ refl refl

begun_turns : (pair rolls sequence : Bool) (m : Mark) → Turned [] (empty_if pair FlowMappingStart m ++ empty_if rolls (block_start sequence) m) (begun pair rolls)
unfolding role
begun_turns pair rolls sequence m os =
    let p = pick pair (flow_mapping ∷ []) [] in
    rw (append_assoc (pick rolls (block ∷ []) []) p os)
    (says_append (begun_if pair FlowMappingStart m flow_mapping refl os) (begun_if rolls (block_start sequence) m block (block_starts sequence) (p ++ os)))

begun_nested : (pair rolls : Bool) (m : Mark) (os : List Open) → Nested os (goes_in pair rolls m) (begun pair rolls ++ os)
unfolding role
begun_nested true true m os = then opened (then opened (then kept done))
begun_nested true false m os = then opened (then kept done)
begun_nested false true m os = then opened (then kept done)
begun_nested false false m os = then kept done

begun_blocks : (b : Bool) (n k : ℕ) → n ≡ one_if b + k → replicate n block ≡ begun false b ++ replicate k block
begun_blocks true n k e = let f : n ≡ suc k = omega arith in rw f
begun_blocks false n k e = let f : n ≡ k = omega arith in rw f

begun_held : (pair : Bool) {l l' : Level} → Tidy l → Within pair l l' → held l' ≡ begun pair false ++ held l
begun_held pair {l} {l'} t w = rw (w.same_kind, w.implicit_is) (by_pair l.implicit pair (bracket l.sequence) (w.once t))
  where
    by_pair : (a b : Bool) (o : Open) → (b ≡ true → a ≡ false)
        → pick (a || b) (flow_mapping ∷ []) [] ++ (o ∷ []) ≡ pick b (flow_mapping ∷ []) [] ++ (pick a (flow_mapping ∷ []) [] ++ (o ∷ []))
    by_pair true true o h = true_false (h refl)
    by_pair true false o h = refl
    by_pair false true o h = refl
    by_pair false false o h = refl

-- so the state behind them holds it
entered : {i : Indents} {m : Mark} {xs : List Slot} {n : ℕ} {ks : List Candidate} {ls ls' : List Level} (pair : Bool) (r : Rolled)
    → Rolls (elim ls [ [] ↦ false | x ∷ xs ↦ true ]) i r → Enters pair ls ls' → Built i m xs (begun pair r.starts) n (Absent ∷ ks) ls → Built r.indents m xs [] n (Absent ∷ ks) ls'
entered {i} {xs = xs} pair r b e (outside h s l) =
    let g : Leads 0 (blocks r.indents) xs = rw (begun_blocks r.starts (blocks_of r.indents) (blocks_of i) b.blocks) (rw e.1 at l) in
    rw e.0 (outside tt tt g)
entered {i} {m} {xs} {n} {ks} pair r b e (inside {ls = ls} h t k) =
    let f = b.flows refl in
    let g : Built i m xs (held e.0) n ks ls = rw (begun_held pair t e.2) (rw f at k) in
    rw (e.1, f) (inside tt (e.2.tidy t) g)

module _ (s : State) (t : Token) (q : Place) (xs : List Slot) (f : FurtherOn s.place q) where
  onward : MovesOn s.indents (mark_of s) s.indents q.mark
  onward = goes_to (same_refl _) f

  -- a token that may be the next candidate
  saves : {i : Indents} (u : List Open) → Stands s xs → AtEdge s → Same s.indents i → Turned [] (put t ∷ []) u → Next xs (put t ∷ []) u i q (save_key s).keys s.levels
  unfolding save_key puts
  saves {i} u h edge same e =
      on_pick (λ (v : State). Next xs (put t ∷ []) u i q v.keys s.levels) s.simple_key_allowed
      (λ _. rw h.counted (built_saved u t xs _ (mark_of s) (omega (arith, slots_length xs (put t ∷ []))) e (goes_to same f)
      (λ z. (omega (arith, edge z, same.at), f.line_on, f.col_on)) h.built))
      (λ _. built_says [] u xs (more xs (put t ∷ [])) e (goes_to same f) h.built)

  -- a bracket is closed, and with it a pair
  closes_one : {ks : List Candidate} {ls : List Level} (sequence : Bool) (m : Mark) → role t.kind ≡ ends (bracket sequence) → closes_level sequence ls ≡ true
      → Built s.indents (mark_of s) xs [] (length xs) (Absent ∷ ks) ls → Next xs (empty_if (implicit_open ls) FlowMappingEnd m ++ (put t ∷ [])) [] s.indents q ks (drop 1 ls)
  unfolding closes_level implicit_open
  closes_one sequence m e c (outside h d l) = true_false (sym c)
  closes_one sequence m e c (inside {l = l} h d b) =
      built_says (held l) [] xs (more xs _)
      (λ os. says_append (pair_end_turns l.implicit m (bracket l.sequence) os) (says_one e (rw (level_kind sequence l.sequence c) closed)))
      onward b

  -- an entry ends, and with it a pair
  parts_one : {ks : List Candidate} {ls : List Level} (m : Mark) → role t.kind ≡ neither
      → Built s.indents (mark_of s) xs [] (length xs) (Absent ∷ ks) ls → Next xs (empty_if (implicit_open ls) FlowMappingEnd m ++ (put t ∷ [])) [] s.indents q (Absent ∷ ks) (new_entry ls)
  unfolding implicit_open on_level
  parts_one m e (outside h d l) = built_says [] [] xs (more xs _) (gives e []) onward (outside {c = Absent} tt tt l)
  parts_one m e (inside {l = l} h d b) =
      inside tt (λ _. refl) (built_says (held l) (bracket l.sequence ∷ []) xs (more xs _)
      (λ os. says_append (pair_end_turns l.implicit m (bracket l.sequence) os) (gives e (bracket l.sequence ∷ []) os)) onward b)

  -- '-', '?' and ':'
  begins_here : {pair : Bool} {r : Rolled} {ls : List Level} (sequence : Bool) (m : Mark) → role t.kind ≡ neither → Begins s q pair r ls → Stands s xs
      → Next xs ((empty_if pair FlowMappingStart m ++ empty_if r.starts (block_start sequence) m) ++ (put t ∷ [])) [] r.indents q (set_key Absent s.keys) ls
  unfolding in_flow
  begins_here {pair} {r} sequence m e b h =
      entered pair r b.rolls b.enters (built_says [] (begun pair r.starts) xs (more xs _)
      (λ os. says_append (begun_turns pair r.starts sequence m os) (gives e (begun pair r.starts) os)) onward (built_without h.built))

  begins_before : {pair required : Bool} {n : ℕ} {m : Mark} {r : Rolled} {ls : List Level} → role t.kind ≡ neither → Begins s q pair r ls → top_key s.keys ≡ Possible required n m → Stands s xs
      → Next xs (put_before n (goes_in pair r.starts m) ∷ put t ∷ []) [] r.indents q (set_key Absent s.keys) ls
  unfolding slots in_flow
  begins_before {pair} {n = n} {m = m} {r = r} e b k h =
      let w = begun pair r.starts in
      let ts = goes_in pair r.starts m in
      entered pair r b.rolls b.enters (built_says w w (note n ts xs) (more xs (put_before n ts ∷ put t ∷ [])) (gives e w) onward
      (built_used w ts (begun_nested pair r.starts m) (rw k at (built_top h.built))))

  -- outside every block
  leaves_all : role t.kind ≡ neither → in_flow s ≡ false → Stands s xs
      → Next xs (all_ends s ++ (put t ∷ [])) [] (unroll_to 0 s).indents q (set_key Absent s.keys) s.levels
  leaves_all e z h =
      rw (zero_level s z) (outside tt tt (ends_lead 0 s.indents xs
      (λ os. says_append (ends_turn (unroll_to 0 s).ended (mark_of s) os) (gives e [] os)) (at_zero (rw (zero_level s z) at h.built))))

  pub move_builds : {es : List Event} {i : Indents} {ks : List Candidate} {ls : List Level} → Move s t q es i ks ls → Stands s xs → AtEdge s → Next xs es [] i q ks ls
  move_builds (tells e same) h edge = saves [] h edge same (gives e [])
  move_builds (leaves e z) h edge = leaves_all e z h
  move_builds (opens sequence e same) h edge = inside tt (λ _. refl) (saves (bracket sequence ∷ []) h edge same (λ os. says_one e opened))
  move_builds (closes sequence m e c) h edge = closes_one sequence m e c (built_without h.built)
  move_builds (parts m e) h edge = parts_one m e (built_without h.built)
  move_builds (begins sequence m e b) h edge = begins_here sequence m e b h
  move_builds (uses e b k) h edge = begins_before e b k h
