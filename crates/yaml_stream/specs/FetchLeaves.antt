-- What a step says and what it leaves of the candidates, by the token that it scans. Moves (in yaml_scan) has the same in seven cases, but no kinds of tokens.
use Rattle.std.specs.Prelude.{◌+◌, ◌≤◌, ◌<◌, suc, zero, ℕ, Bool, false, true, List, [], ◌++◌, ◌∷◌, ◌⊎◌, ◌≡◌, refl, drop}
use Rattle.std.proofs.Common.{inl}
use Rattle.yaml_text.specs.declared.Mark.{Mark}
use Rattle.yaml_lexeme.specs.Token.{Token}
use Rattle.yaml_scan.specs.declared.Candidate.TheVariants.{Absent, Possible}
use Rattle.yaml_scan.specs.Keys.{set_key, top_key}
use Rattle.yaml_scan.specs.State.{Event, News, State, block_ends, ends_with, goes_on, mark_of, put, put_before, save_key}
use Rattle.yaml_scan.specs.Candidates.{Fall}
use Rattle.yaml_stream.specs.Stream.{possible}
use Rattle.yaml_stream.specs.Orderly.{colon, is_scalar, line_scalar, list_start, mapping_start, may_be_key, other, part, part_of, property}

-- tokens that are no keys: starts and ends of blocks and of implicit pairs
abbrev pub Fillers : List Event → Type 0
Fillers [] = Unit {0}
Fillers (put t ∷ es) = ((part_of t ≡ other) ⊎ (part_of t ≡ mapping_start)) × Fillers es
Fillers (put_before n ts ∷ es) = ⊥

-- a token scanned from the state v: what is said, and the state behind it
pub data FetchLeaves (v : State) : List Event → State → Type 0 where
  -- scalars, tags, anchors and aliases: the token may be the next candidate
  a_text : {t : State} (k : Token) → (is_scalar (part_of k) ≡ true) ⊎ (part_of k ≡ property)
      → (part_of k ≡ line_scalar → (t.simple_key_allowed ≡ false) × (k.end ≡ mark_of t)) → t.keys ≡ (save_key v).keys → FetchLeaves v (put k ∷ []) t
  -- '[' and '{'
  a_bracket : {t : State} (k : Token) → (part_of k ≡ list_start) ⊎ (part_of k ≡ mapping_start) → k.start ≡ mark_of v → t.keys ≡ Absent ∷ (save_key v).keys
      → FetchLeaves v (put k ∷ []) t
  -- ':' with a candidate
  a_use : {t : State} {required : Bool} {n : ℕ} {m : Mark} {ts : List Token} (k : Token) → part_of k ≡ colon → top_key v.keys ≡ Possible required n m
      → t.simple_key_allowed ≡ false → t.keys ≡ set_key Absent v.keys → FetchLeaves v (put_before n ts ∷ put k ∷ []) t
  -- all others: this level's candidate is gone, or its level is
  a_rest : {t : State} (fs : List Event) (k : Token) → Fillers fs → may_be_key (part_of k) ≡ false
      → (part_of k ≡ colon → (t.simple_key_allowed ≡ false) ⊎ (v.simple_key_allowed ≡ true))
      → (t.keys ≡ set_key Absent v.keys) ⊎ (t.keys ≡ drop 1 v.keys) → FetchLeaves v (fs ++ (put k ∷ [])) t

-- a step: the gap, the ends of blocks, and a token
pub record StepLeaves (s : State) (es : List Event) (t : State) : Type 0 where
  -- the state behind the gap and the ends of blocks
  pub before_token : State
  pub ended : ℕ
  pub said : List Event
  pub events : es ≡ block_ends ended (mark_of before_token) ++ said
  pub fetched : FetchLeaves before_token said t
  pub counted : before_token.count ≡ s.count + ended
  -- the gap: no candidate comes, on the same line no simple key gets allowed
  pub shrinks : (i : ℕ) → possible i s.keys ≡ false → possible i before_token.keys ≡ false
  pub shrinks_outer : (i : ℕ) → possible i (drop 1 s.keys) ≡ false → possible i (drop 1 before_token.keys) ≡ false
  pub falls : (b : ℕ) → Fall b s.keys → Fall b before_token.keys
  pub calm : s.simple_key_allowed ≡ false → (before_token.simple_key_allowed ≡ false) ⊎ ((mark_of s).line < (mark_of before_token).line)
  pub line_on : (mark_of s).line ≤ (mark_of before_token).line
  pub line_behind : (mark_of before_token).line ≤ (mark_of t).line

abbrev pub LeavesIn : State → News → Type 0
LeavesIn s (goes_on es t) = StepLeaves s es t
LeavesIn s (ends_with es) = Unit {0}

-- what the readers' tokens are

-- the fillers before a token

pub end_fillers : (n : ℕ) (m : Mark) → Fillers (block_ends n m)
unfolding part
end_fillers zero m = tt
end_fillers (suc n) m = (inl refl, end_fillers n m)

-- a fetch

-- the gap

-- a step
