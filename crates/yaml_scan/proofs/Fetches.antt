-- Theorems about specs/Fetches, and what rests on them.
use Rattle.std.specs.Prelude.{◌+◌, ℕ, Bool, List, [], ◌++◌, ◌∷◌, map, refl, drop}
use Rattle.std.proofs.Common.{ap, arith}
use Rattle.yaml_text.specs.declared.Mark.{Mark}
use Rattle.yaml_text.specs.Mark.{Place}
use Rattle.yaml_text.specs.All.{All, all_any, all_bind, all_need}
use Rattle.yaml_text.specs.PlaceLaws.{fits_refl}
use Rattle.yaml_lexeme.specs.Token.{BlockMappingStart, FlowMappingStart, Kind, Token, empty_token}
use Rattle.yaml_scan.specs.declared.Candidate.{Candidate}
use Rattle.yaml_scan.specs.declared.Candidate.TheVariants.{Absent, Possible}
use Rattle.yaml_scan.specs.declared.Level.{Level}
use Rattle.yaml_scan.specs.Keys.{set_key}
use Rattle.yaml_scan.specs.declared.Limits.{Limits}
use Rattle.yaml_scan.specs.State.{News, State, empty_if, mark_of, put, put_before, puts}
use Rattle.yaml_scan.specs.Value.{before_key, begins_pair, roll_state, value_by, value_with, value_without}
use Rattle.yaml_scan.specs.Candidates.{EmptyAt, Fall, Free, GivenToken, OnlyPuts, Placed, Ready, ReadyState, Tops, fall_less, fresh, given, known_more, note_at, noted_known, only_append, only_if, only_one, without_ready}
use Rattle.yaml_scan.specs.Fetches.{Fetched, Told, said, kept, relevelled}

-- where the candidate is used up: tokens go in before its token, and another is given
used : {gs : List GivenToken} {b : ℕ} {ks : List Candidate} {ls : List Level} {p : Place} (n : ℕ) (m : Mark) (ts : List Token) (t : Token) → Ready gs b ks ls p
    → Free gs n m × Fall n (drop 1 ks) → EmptyAt m ts → Told gs (put_before n ts ∷ put t ∷ []) (b + puts (put_before n ts ∷ put t ∷ [])) (set_key Absent ks) ls
unfolding given Placed puts
used {gs} {b} {ks} n m ts t r f e =
    let w = without_ready r in
    record {
      placed = (m, f.0, e, tt);
      counted = ap (λ (k : ℕ). k + 1) r.counted;
      levelled = w.levelled;
      known = (tt, known_more (note_at n gs) (fresh t.start) (drop 1 ks) (noted_known gs n (drop 1 ks) f.1 w.known.1));
      ordered = fall_less b (b + 1) (drop 1 ks) (omega arith) w.ordered;
    }

all_empty : (m : Mark) (kinds : List Kind) → EmptyAt m (map (λ (kind : Kind). empty_token kind m) kinds)
all_empty m [] = tt
all_empty m (kind ∷ kinds) = (refl, all_empty m kinds)

value_with_news : (gs : List GivenToken) (limits : Limits) (n : ℕ) (k : Mark) (s : State) → (ReadyState gs s → Free gs n k × Fall n (drop 1 s.keys))
    → All News (Fetched gs s) (value_with limits n k s)
unfolding value_with
value_with_news gs limits n k s f =
    all_bind _ (all_any (roll_state limits k s))
    (λ r _. said s (fits_refl _) (λ h. relevelled _ (used n k _ _ h (f h) (all_empty k (before_key (begins_pair s.levels) r.starts)))))

-- an empty token, or none, twice, and a token
only_three : (b : Bool) (k : Kind) (b' : Bool) (k' : Kind) (m : Mark) (t : Token) → OnlyPuts ((empty_if b k m ++ empty_if b' k' m) ++ (put t ∷ []))
only_three b k b' k' m t =
    only_append (empty_if b k m ++ empty_if b' k' m) (put t ∷ []) (only_append (empty_if b k m) (empty_if b' k' m) (only_if b k m) (only_if b' k' m)) (only_one t)

value_without_news : (gs : List GivenToken) (limits : Limits) (s : State) → All News (Fetched gs s) (value_without limits s)
unfolding value_without
value_without_news gs limits s =
    all_need _ 46 (mark_of s) _ (all_bind _ (all_any (roll_state limits (mark_of s) s))
    (λ r _. said s (fits_refl _) (λ h. relevelled _
    (kept _ (only_three (begins_pair s.levels) FlowMappingStart r.starts BlockMappingStart (mark_of s) _) (without_ready h)))))

pub value_by_news : (gs : List GivenToken) (limits : Limits) (k : Candidate) (s : State) → (ReadyState gs s → Tops gs s.keys k) → All News (Fetched gs s) (value_by limits k s)
unfolding value_by
value_by_news gs limits Absent s f = value_without_news gs limits s
value_by_news gs limits (Possible required n k) s f = value_with_news gs limits n k s f
